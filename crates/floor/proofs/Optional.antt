-- Lists of tiles that may be there: what ascends, what holds of each, and what is among them.
use Rattle.std.proofs.Common.{◌≡◌, ℕ, ◌+◌, ◌≤◌, Bool, true, false, List, ◌∷◌, length, Option, refl, inl, inr, arith}
use Rattle.std.specs.Bool.{then_some}
use Rattle.std.proofs.lemmas.Bool.{both_ways}
use Rattle.base.specs.Lists.{Among}
use Rattle.base.proofs.Ascending.{Ascends, Each}
use Rattle.floor.specs.Sides.{somes}

module _ (b : Bool) (x : ℕ) (os : List (Option ℕ)) where
  pub ascends_if : (a : ℕ) → (b ≡ true → (a ≤ x) × Ascends (x + 1) (somes os)) → (b ≡ false → Ascends a (somes os)) → Ascends a (somes (then_some b x ∷ os))
  ascends_if a yes-so no-so = elim b as (λ v. (v ≡ true → (a ≤ x) × Ascends (x + 1) (somes os)) → (v ≡ false → Ascends a (somes os)) → Ascends a (somes (then_some v x ∷ os)))
      [ true ↦ λ f h. f refl | false ↦ λ f h. h refl ] yes-so no-so

  pub each_if : (P : ℕ → Type 0) → (b ≡ true → P x) → Each P (somes os) → Each P (somes (then_some b x ∷ os))
  each_if P yes-so rest = elim b as (λ v. (v ≡ true → P x) → Each P (somes (then_some v x ∷ os))) [ true ↦ λ f. (f refl, rest) | false ↦ λ f. rest ] yes-so

  pub among_if : (y : ℕ) → b ≡ true → y ≡ x → Among y (somes (then_some b x ∷ os))
  among_if y e q = elim b as (λ v. v ≡ true → Among y (somes (then_some v x ∷ os))) [ true ↦ λ f. inl q | false ↦ λ f. absurd (both_ways _ refl f) ] e

  pub among_rest : (y : ℕ) → Among y (somes os) → Among y (somes (then_some b x ∷ os))
  among_rest y i = elim b as (λ v. Among y (somes (then_some v x ∷ os))) [ true ↦ inr i | false ↦ i ]

  pub at_most_one : length (somes (then_some b x ∷ os)) ≤ 1 + length (somes os)
  at_most_one = elim b as (λ v. length (somes (then_some v x ∷ os)) ≤ 1 + length (somes os)) [ true ↦ omega arith | false ↦ omega arith ]
