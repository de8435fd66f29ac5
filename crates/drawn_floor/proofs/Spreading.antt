-- How what a search meets adds up, tile after tile and layer after layer, and why it has found all walks when it ends.
use Rattle.std.proofs.Common.{◌≡◌, ℕ, zero, suc, ◌+◌, ◌-◌, ◌<◌, ◌⊎◌, List, [], ◌∷◌, ◌++◌, drop, length, get_or, set, replicate, false, IsSome, is_some, Some, None, Option, sym, refl, ap, ◌∙◌, subst, inl, inr, arith, length-set}
use Rattle.std.proofs.lemmas.List.{append-nil, drop_at, length-drop, get_or-set_same, get_or-set_other, get_or_append_left, get_or-append_right, length-append, append_assoc, get_or-replicate, get_or_past, length-replicate}
use Rattle.std.proofs.lemmas.Bool.{cases_eq, cases_lt, false≢true}
use Rattle.base.proofs.Testing.{some_not_none, cases_option}
use Rattle.floor.specs.Walks.{Walk, stay, step}
use Rattle.drawn_floor.specs.Searches.{Found, Filled}
use Rattle.drawn_floor.specs.Spreading.{IsNew, unmet, steps_of, Spreads, Meets, Behind, Layered, layer_of}
use Rattle.drawn_floor.specs.declared.search.Search.{Search}

met_by : {X : Type 0} {o : Option X} {x : X} → o ≡ Some x → IsSome o
met_by e = subst IsSome (sym e) refl

is_some_of : {X : Type 0} (o : Option X) → IsSome o → (x : X) × (o ≡ Some x)
is_some_of o s = elim (cases_option o) [ inl none ↦ absurd (false≢true (subst IsSome none s)) | inr some ↦ some ]

-- no tile was met there; the code looks at the place that the tile's number is turned into
pub none_at : (row : List (Option ℕ)) {place u : ℕ} → place ≡ u → is_some (get_or row place None) ≡ false → steps_of row u ≡ None
none_at row {place} {u} there none = elim (cases_option (steps_of row u)) [
  | inl is ↦ is
  | inr some ↦ absurd (false≢true (sym none ∙ ap (λ p. is_some (get_or row p None)) there ∙ met_by some.1))
]

same_some : {o : Option ℕ} {d e : ℕ} → o ≡ Some d → o ≡ Some e → d ≡ e
same_some p q = cc

-- a tile that is met leaves one fewer
unmet_set : (row : List (Option ℕ)) (u d : ℕ) → u < length row → steps_of row u ≡ None → unmet (set row u (Some d)) + 1 ≡ unmet row
unmet_set [] u d h none = absurd (omega arith)
unmet_set (None ∷ xs) zero d h none = omega arith
unmet_set (Some e ∷ xs) zero d h none = absurd (some_not_none refl none)
unmet_set (None ∷ xs) (suc u) d h none = omega (arith, unmet_set xs u d (omega arith) none)
unmet_set (Some e ∷ xs) (suc u) d h none = unmet_set xs u d (omega arith) none

-- there is a tile to meet
pub unmet_some : (row : List (Option ℕ)) (u : ℕ) → u < length row → steps_of row u ≡ None → 0 < unmet row
unmet_some row u within none = omega (arith, unmet_set row u 0 within none)

-- one tile is met
module _ (row : List (Option ℕ)) (u d : ℕ) (within : u < length row) (none : steps_of row u ≡ None) where
  now_met : (v : ℕ) → v ≡ u → steps_of (set row u (Some d)) v ≡ Some d
  now_met v e = ap (steps_of (set row u (Some d))) e ∙ get_or-set_same row u (Some d) None within

  others : (v : ℕ) → (v ≡ u → ⊥) → steps_of (set row u (Some d)) v ≡ steps_of row v
  others v ne = get_or-set_other row u v (Some d) None ne

  pub spreads_one : Spreads (λ v. v ≡ u) d row (set row u (Some d)) (u ∷ [])
  spreads_one = record {
    long = length-set row u (Some d);
    kept = λ v e h. others v (λ is. some_not_none h (ap (steps_of row) is ∙ none)) ∙ h;
    new = λ v e h. elim (cases_eq v u) [
      | inl is ↦ inr (ap (steps_of row) is ∙ none, same_some h (now_met v is), is)
      | inr ne ↦ inl (sym (others v ne) ∙ h)
    ];
    all = λ v is. met_by (now_met v is);
    listed = λ i l. let z : i ≡ 0 = omega arith in
        let is : get_or (u ∷ []) i 0 ≡ u = ap (λ k. get_or (u ∷ []) k 0) z in
        (ap (steps_of row) is ∙ none, now_met (get_or (u ∷ []) i 0) is);
    back = λ v e was h. elim (cases_eq v u) [
      | inl is ↦ (0, omega arith, sym is)
      | inr ne ↦ absurd (some_not_none (sym (others v ne) ∙ h) was)
    ];
    count = unmet_set row u d within none;
  }

-- one meeting after another
module _ {First Second : ℕ → Type 0} {d : ℕ} {before between after : List (Option ℕ)} {xs ys : List ℕ} (one : Spreads First d before between xs) (two : Spreads Second d between after ys) where
  -- a tile that the second meets anew was not met before the first
  was_none : (u : ℕ) → steps_of between u ≡ None → steps_of before u ≡ None
  was_none u none = elim (cases_option (steps_of before u)) [
    | inl is ↦ is
    | inr some ↦ absurd (some_not_none (one.kept u some.0 some.1) none)
  ]

  pub spreads_then : Spreads (λ u. First u ⊎ Second u) d before after (xs ++ ys)
  spreads_then = record {
    long = two.long ∙ one.long;
    kept = λ u e h. two.kept u e (one.kept u e h);
    new = λ u e h. elim (two.new u e h) [
      | inl old ↦ elim (one.new u e old) [
        | inl older ↦ inl older
        | inr new ↦ inr (new.0, new.1, inl new.2)
      ]
      | inr new ↦ inr (was_none u new.0, new.1, inr new.2)
    ];
    all = λ u next. elim next [
      | inl first ↦ let some = is_some_of (steps_of between u) (one.all u first) in met_by (two.kept u some.0 some.1)
      | inr second ↦ two.all u second
    ];
    listed = λ i l. elim (cases_lt i (length xs)) [
      | inl less ↦
          let at = get_or_append_left xs ys 0 i less in
          let told = one.listed i less in
          (ap (steps_of before) at ∙ told.0, ap (steps_of after) at ∙ two.kept (get_or xs i 0) d told.1)
      | inr more ↦
          let at = get_or-append_right xs ys (length xs) i 0 refl more in
          let told = two.listed (i - length xs) (omega (arith, length-append xs ys)) in
          (ap (steps_of before) at ∙ was_none (get_or ys (i - length xs) 0) told.0, ap (steps_of after) at ∙ told.1)
    ];
    back = λ u e none some. elim (cases_option (steps_of between u)) [
      | inl still ↦
          let place = two.back u e still some in
          let at = get_or-append_right xs ys (length xs) (length xs + place.0) 0 refl (omega arith) in
          let same : length xs + place.0 - length xs ≡ place.0 = omega arith in
          (length xs + place.0, omega (arith, place.1, length-append xs ys), at ∙ ap (λ k. get_or ys k 0) same ∙ place.2)
      | inr met ↦
          let place = one.back u met.0 none met.1 in
          (place.0, omega (arith, place.1, length-append xs ys), get_or_append_left xs ys 0 place.0 place.1 ∙ place.2)
    ];
    count = omega (arith, one.count, two.count, length-append xs ys);
  }

-- the same tiles, named otherwise
pub spreads_as : {Next Other : ℕ → Type 0} {d : ℕ} {before after : List (Option ℕ)} {added : List ℕ} → ((u : ℕ) → Next u → Other u) → ((u : ℕ) → Other u → Next u) → Spreads Next d before after added → Spreads Other d before after added
spreads_as {Other = Other} to from s = record {
  long = s.long;
  kept = s.kept;
  new = λ u e h. elim (s.new u e h) [
    | inl old ↦ inl old
    | inr new ↦ inr (new.0, new.1, to u new.2)
  ];
  all = λ u next. s.all u (from u next);
  listed = s.listed;
  back = s.back;
  count = s.count;
}

none_met : (m u : ℕ) → ◌≡◌ {A = Option ℕ} (steps_of (replicate m None) u) None
none_met m u = elim (cases_lt u m) [ inl l ↦ get_or-replicate m u None None l | inr l ↦ get_or_past (replicate m None) u None (omega (arith, length-replicate {A = Option ℕ} m None)) ]

unmet_none : (m : ℕ) → unmet (replicate m None) ≡ m
unmet_none zero = refl
unmet_none (suc m) = omega (arith, unmet_none m)

module _ (Goes : ℕ → ℕ → Type 0) (g : ℕ) where
  only_stay : {t : ℕ} → Walk Goes t g 0 → t ≡ g
  only_stay stay = refl

  -- The search begins: only its goal was met, and no step leads there.
  pub layered_begun : (start s : Search) → IsNew start → Meets (λ u. u ≡ g) start s → Layered Goes g s
  layered_begun start s (none_steps, no_items, zero_nearer, zero_far) begun =
      let far : s.far ≡ 0 = begun.0 ∙ zero_far in
      let held : s.met.items ≡ begun.2.0 = begun.2.1 ∙ ap (λ xs. xs ++ begun.2.0) no_items in
      let layer : layer_of s ≡ begun.2.0 = ap (λ n. drop n s.met.items) (begun.1 ∙ zero_nearer) ∙ held in
      let spread : Spreads (λ u. u ≡ g) start.far (replicate 256 None) s.steps (layer_of s) =
      subst (λ xs. Spreads (λ u. u ≡ g) start.far (replicate 256 None) s.steps xs) (sym layer) (subst (λ before. Spreads (λ u. u ≡ g) start.far before s.steps begun.2.0) none_steps begun.2.2) in
      let meets : (t e : ℕ) → steps_of s.steps t ≡ Some e → (e ≡ 0) × (t ≡ g) = λ t e h.
      elim (spread.new t e h) [
        | inl old ↦ absurd (some_not_none old (none_met 256 t))
        | inr new ↦ (new.1 ∙ zero_far, new.2)
      ] in
      record {
        long = spread.long ∙ length-replicate {A = Option ℕ} 256 None;
        met = λ t e h. let m = meets t e h in (record { walk = subst (λ k. Walk Goes t g k) (sym m.0) (subst (λ x. Walk Goes x g 0) (sym m.1) stay); least = λ k w. omega (arith, m.0) }, omega (arith, m.0));
        near = λ t k w l. let z : k ≡ 0 = omega (arith, far) in spread.all t (only_stay (subst (λ n. Walk Goes t g n) z w));
        back = λ t h. spread.back t s.far (none_met 256 t) h;
        listed = λ i l. (spread.listed i l).1 ∙ ap Some (sym begun.0);
        few = omega (arith, far, spread.count, unmet_none 256);
        room = omega (arith, spread.count, unmet_none 256, ap length layer, ap length held);
        within = omega (arith, begun.1, zero_nearer);
      }

  module _ (s : Search) (layered : Layered Goes g s) where
    -- a tile whose first step leads to a tile that was met earlier than the last layer was met too
    earlier : {t b e : ℕ} → Goes t b → steps_of s.steps b ≡ Some e → (e ≡ s.far → ⊥) → IsSome (steps_of s.steps t)
    earlier {t} {b} {e} goes h ne =
        let short = layered.met b e h in
        layered.near t (suc e) (step goes short.0.walk) (omega (arith, short.1))

    -- The search goes on from its layer to the next.
    pub layered_more : (t : Search) → t.far ≡ s.far + 1 → t.nearer ≡ length s.met.items → t.met.items ≡ s.met.items ++ layer_of t → Spreads (Behind Goes (layer_of s)) t.far s.steps t.steps (layer_of t) → s.nearer < length s.met.items → Layered Goes g t
    layered_more next far nearer held spread some = record {
      long = spread.long ∙ layered.long;
      met = λ t e h. elim (spread.new t e h) [
        | inl old ↦ let m = layered.met t e old in (m.0, omega (arith, m.1, far))
        | inr new ↦
            let at = new.2 in
            let v = get_or (layer_of s) at.0 0 in
            let way = (layered.met v s.far (layered.listed at.0 at.1)).0.walk in
            let long : suc s.far ≡ e = omega (arith, far, new.1) in (
              record {
                walk = subst (λ k. Walk Goes t g k) long (step at.2 way);
                least = λ k w. elim (cases_lt s.far k) [
                  | inl more ↦ omega (arith, far, new.1)
                  | inr less ↦ let known = is_some_of (steps_of s.steps t) (layered.near t k w less) in absurd (some_not_none known.1 new.0)
                ];
              },
              omega (arith, new.1),
            )
      ];
      near = λ t k w l. elim (cases_lt s.far k) [
        | inr less ↦ old_met t (layered.near t k w less)
        | inl more ↦ let is : k ≡ suc s.far = omega (arith, far) in beyond t (subst (λ n. Walk Goes t g n) is w)
      ];
      back = λ t h. elim (spread.new t next.far h) [
        | inl old ↦ let m = layered.met t next.far old in absurd (omega (arith, m.1, far))
        | inr new ↦ spread.back t next.far new.0 h
      ];
      listed = λ i l. (spread.listed i l).1;
      few = omega (arith, layered.few, spread.count, far, length-drop s.nearer s.met.items, some);
      room = omega (arith, layered.room, spread.count, ap length held, length-append s.met.items (layer_of next));
      within = omega (arith, nearer, ap length held, length-append s.met.items (layer_of next));
    }
      where
        old_met : (t : ℕ) → IsSome (steps_of s.steps t) → IsSome (steps_of next.steps t)
        old_met t h = let known = is_some_of (steps_of s.steps t) h in met_by (spread.kept t known.0 known.1)

        beyond : (t : ℕ) → Walk Goes t g (suc s.far) → IsSome (steps_of next.steps t)
        beyond t (step {b = b} goes rest) =
            let known = is_some_of (steps_of s.steps b) (layered.near b s.far rest (omega arith)) in
            elim (cases_eq known.0 s.far) [
              | inl last ↦
                  let at = layered.back b (known.1 ∙ ap Some last) in
                  spread.all t (at.0, at.1, subst (λ x. Goes t x) (sym at.2) goes)
              | inr ne ↦ old_met t (earlier goes known.1 ne)
            ]

    -- The search ends: each walk to the goal begins at a tile that was met.
    module _ (empty : length (layer_of s) ≡ 0) where
      closed : {t k : ℕ} → Walk Goes t g k → IsSome (steps_of s.steps t)
      closed stay = layered.near g 0 stay (omega arith)
      closed (step {b = b} goes rest) =
          let known = is_some_of (steps_of s.steps b) (closed rest) in
          earlier goes known.1 (λ last. let at = layered.back b (known.1 ∙ ap Some last) in omega (arith, at.1, empty))

      found : (t : ℕ) (o : Option ℕ) → steps_of s.steps t ≡ o → Found Goes t g o
      found t None e = λ k w. false≢true (subst IsSome e (closed w))
      found t (Some d) e = (layered.met t d e).0

      pub filled : Filled Goes g s.steps
      filled t = found t (steps_of s.steps t) refl

-- one meeting after another, by a search that has met some tiles before
pub meets_then : {First Second : ℕ → Type 0} (r s t : Search) → Meets First r s → Meets Second s t → Meets (λ u. First u ⊎ Second u) r t
meets_then {Second = Second} r s t one two = (
  two.0 ∙ one.0,
  two.1 ∙ one.1,
  (
    one.2.0 ++ two.2.0,
    two.2.1 ∙ ap (λ items. items ++ two.2.0) one.2.1 ∙ append_assoc r.met.items one.2.0 two.2.0,
    spreads_then one.2.2 (subst (λ d. Spreads Second d s.steps t.steps two.2.0) one.0 two.2.2),
  ),
)

-- the same tiles, named otherwise
pub meets_as : {Next Other : ℕ → Type 0} (s t : Search) → ((u : ℕ) → Next u → Other u) → ((u : ℕ) → Other u → Next u) → Meets Next s t → Meets Other s t
meets_as s t to from m = (m.0, m.1, (m.2.0, m.2.1, spreads_as to from m.2.2))

-- none was met
pub meets_none : {Next : ℕ → Type 0} (s : Search) → ((u : ℕ) → Next u → ⊥) → Meets Next s s
meets_none {Next} s none = (refl, refl, ([], sym (append-nil s.met.items), spreads_none))
  where
    spreads_none : Spreads Next s.far s.steps s.steps []
    spreads_none = record {
      long = refl;
      kept = λ u e h. h;
      new = λ u e h. inl h;
      all = λ u next. absurd (none u next);
      listed = λ i l. absurd (omega arith);
      back = λ u e was is. absurd (some_not_none is was);
      count = omega arith;
    }

-- Where a search begins a new layer, that layer is what it meets.
pub layer_met : {Next : ℕ → Type 0} (s t : Search) → s.nearer ≡ length s.met.items → (m : Meets Next s t) → layer_of t ≡ m.2.0
layer_met s t new m = ap (λ n. drop n t.met.items) (m.1 ∙ new) ∙ ap (drop (length s.met.items)) m.2.1 ∙ drop_at s.met.items m.2.0 (length s.met.items) refl
