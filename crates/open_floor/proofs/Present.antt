-- Steps of the search for the k-th tile that is there.
use Rattle.std.proofs.Common.{◌≡◌, ℕ, zero, suc, ◌+◌, ◌-◌, ◌<◌, ◌≤◌, List, ◌∷◌, length, get_or, drop, Some, None, Option, ap, ◌∙◌, arith}
use Rattle.std.specs.List.{slice_get}
use Rattle.std.proofs.lemmas.List.{at_drop_more, at_drop_all}
use Rattle.floor.specs.Sides.{somes}

nth_suc : (x : ℕ) (xs : List ℕ) (k : ℕ) → 0 < k → slice_get (x ∷ xs) k ≡ slice_get xs (k - 1)
nth_suc x xs zero l = absurd (omega arith)
nth_suc x xs (suc k) l = let j : k ≡ suc k - 1 = omega arith in ap (slice_get xs) j

module _ (os : List (Option ℕ)) (i k : ℕ) (within : i < length os) where
  step : slice_get (somes (drop i os)) k ≡ slice_get (somes (get_or os i None ∷ drop (i + 1) os)) k
  step = at_drop_more (λ l. slice_get (somes l) k) os i None within

  pub nth_none : get_or os i None ≡ None → slice_get (somes (drop i os)) k ≡ slice_get (somes (drop (i + 1) os)) k
  nth_none e = step ∙ ap (λ o. slice_get (somes (o ∷ drop (i + 1) os)) k) e

  pub nth_here : (x : ℕ) → get_or os i None ≡ Some x → slice_get (somes (drop i os)) k ≡ slice_get (x ∷ somes (drop (i + 1) os)) k
  nth_here x e = step ∙ ap (λ o. slice_get (somes (o ∷ drop (i + 1) os)) k) e

  pub nth_later : (x : ℕ) → get_or os i None ≡ Some x → 0 < k → slice_get (somes (drop i os)) k ≡ slice_get (somes (drop (i + 1) os)) (k - 1)
  nth_later x e l = nth_here x e ∙ nth_suc x (somes (drop (i + 1) os)) k l

pub nth_all : (os : List (Option ℕ)) (i k : ℕ) → length os ≤ i → slice_get (somes (drop i os)) k ≡ None
nth_all os i k l = at_drop_all (λ l. slice_get (somes l) k) os i l
