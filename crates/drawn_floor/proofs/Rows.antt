-- The places of a tile's row, one after the other, as a search looks at them.
use Rattle.std.proofs.Common.{◌≡◌, ℕ, ◌+◌, ◌-◌, ◌<◌, ◌≤◌, drop, false, List, [], length, get_or, Some, None, Option, sym, ap, ◌∙◌, subst, inl, inr, arith}
use Rattle.std.proofs.lemmas.Bool.{cases_lt}
use Rattle.std.proofs.lemmas.List.{get_or-drop, get_or_past, length-drop}
use Rattle.base.proofs.Testing.{some_not_none}
use Rattle.drawn_floor.specs.Searches.{left_out, Passes}
use Rattle.drawn_floor.specs.Spreading.{Behind, Meets}
use Rattle.drawn_floor.specs.Tables.{at_place}
use Rattle.drawn_floor.specs.declared.search.Search.{Search}
use Rattle.drawn_floor.proofs.Spreading.{meets_then, meets_as}

-- u stands at one of the first k places of t, and is not left out there
abbrev pub Passed : List (List (Option ℕ)) → Option (ℕ × ℕ) → ℕ → ℕ → ℕ → Type 0
Passed tiles cut t k u = ((j : ℕ) × (j < k) × (at_place tiles t j ≡ Some u)) × (left_out cut t u ≡ false)

module _ (tiles : List (List (Option ℕ))) (cut : Option (ℕ × ℕ)) (t : ℕ) where
  -- all were passed
  pub passed_last : (k : ℕ) → length (get_or tiles t []) ≤ k → (r s : Search) → Meets (Passed tiles cut t k) r s → Meets (λ u. Passes tiles cut u t) r s
  passed_last k all r s = meets_as r s (λ u h. ((h.0.0, h.0.2), h.1)) (λ u h. ((h.0.0, within h.0.0 u h.0.1, h.0.1), h.1))
    where
      within : (j u : ℕ) → at_place tiles t j ≡ Some u → j < k
      within j u is = elim (cases_lt j k) [
        | inl less ↦ less
        | inr more ↦ absurd (some_not_none is (get_or_past (get_or tiles t []) j None (omega arith)))
      ]

  module _ (k : ℕ) where
    earlier : (u : ℕ) → Passed tiles cut t k u → Passed tiles cut t (k + 1) u
    earlier u h = ((h.0.0, omega (arith, h.0.1), h.0.2), h.1)

    -- at place k stands none that passes
    pub passed_over : ((u : ℕ) → at_place tiles t k ≡ Some u → left_out cut t u ≡ false → ⊥) → (r s : Search) → Meets (Passed tiles cut t k) r s → Meets (Passed tiles cut t (k + 1)) r s
    passed_over none r s = meets_as r s earlier (λ u h. elim (cases_lt h.0.0 k) [
      | inl less ↦ ((h.0.0, less, h.0.2), h.1)
      | inr more ↦
          let here : h.0.0 ≡ k = omega (arith, h.0.1) in
          absurd (none u (sym (ap (at_place tiles t) here) ∙ h.0.2) h.1)
    ])

    -- v stands there and is met
    pub passed_met : (v : ℕ) → at_place tiles t k ≡ Some v → left_out cut t v ≡ false → (r s after : Search) → Meets (Passed tiles cut t k) r s → Meets (λ u. u ≡ v) s after → Meets (Passed tiles cut t (k + 1)) r after
    passed_met v is kept r s after before now =
        meets_as r after (λ u h. elim h [
          | inl old ↦ earlier u old
          | inr new ↦ ((k, omega arith, is ∙ ap Some (sym new)), ap (left_out cut t) new ∙ kept)
        ]) (λ u h. elim (cases_lt h.0.0 k) [
          | inl less ↦ inl ((h.0.0, less, h.0.2), h.1)
          | inr more ↦
              let here : h.0.0 ≡ k = omega (arith, h.0.1) in
              inr (one_only (sym (ap (at_place tiles t) here) ∙ h.0.2) is)
        ]) (meets_then r s after before now)
      where
        one_only : {o : Option ℕ} {a b : ℕ} → o ≡ Some a → o ≡ Some b → a ≡ b
        one_only p q = cc

-- u comes to one of the tiles of a list, from place a up to place b, in one step
abbrev pub BehindSome : (ℕ → ℕ → Type 0) → List ℕ → ℕ → ℕ → ℕ → Type 0
BehindSome Goes met a b u = (i : ℕ) × (a ≤ i) × (i < b) × Goes u (get_or met i 0)

module _ (Goes : ℕ → ℕ → Type 0) (met : List ℕ) (a : ℕ) where
  -- one tile more was passed
  pub behind_more : (b v : ℕ) → a ≤ b → get_or met b 0 ≡ v → (r s after : Search) → Meets (BehindSome Goes met a b) r s → Meets (λ u. Goes u v) s after → Meets (BehindSome Goes met a (b + 1)) r after
  behind_more b v low is r s after before now =
      meets_as r after (λ u h. elim h [
        | inl old ↦ (old.0, old.1, omega (arith, old.2), old.3)
        | inr new ↦ (b, low, omega arith, subst (Goes u) (sym is) new)
      ]) (λ u h. elim (cases_lt h.0 b) [
        | inl less ↦ inl (h.0, h.1, less, h.3)
        | inr more ↦
            let here : h.0 ≡ b = omega (arith, h.2) in
            inr (subst (Goes u) (ap (λ i. get_or met i 0) here ∙ is) h.3)
      ]) (meets_then r s after before now)

  -- all were passed
  pub behind_last : (r s : Search) → Meets (BehindSome Goes met a (length met)) r s → Meets (Behind Goes (drop a met)) r s
  behind_last r s = meets_as r s
      (λ u h. let same : a + (h.0 - a) ≡ h.0 = omega (arith, h.1) in
      (h.0 - a, omega (arith, length-drop a met, h.1, h.2), subst (Goes u) (sym (get_or-drop a met (h.0 - a) 0 ∙ ap (λ i. get_or met i 0) same)) h.3))
      (λ u h. (a + h.0, omega arith, omega (arith, length-drop a met, h.1), subst (Goes u) (get_or-drop a met h.0 0) h.2))
