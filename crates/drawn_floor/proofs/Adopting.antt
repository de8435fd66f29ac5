-- When size, links and numbers stand as a granted survey leaves them, said of the table of joined tiles.
use Rattle.std.proofs.Common.{◌≡◌, ℕ, ◌+◌, ◌*◌, ◌<◌, ◌≤◌, true, false, max, List, [], ◌∷◌, length, get_or, take, IfOk, Some, None, Ok, Err, Option, Result, sym, refl, ap, ◌∙◌, subst, arith}
use Rattle.std.specs.List.{slice_get, fold, reduce}
use Rattle.std.specs.Option.{option_map, unwrap_or}
use Rattle.std.specs.Result.{result_ok, result_err}
use Rattle.base.proofs.Ascending.{false_by}
use Rattle.base.proofs.Testing.{some_not_none}
use Rattle.base.specs.Lists.{below, those, greatest}
use Rattle.base.specs.declared.refusal.Refusal.{Refusal}
use Rattle.floor.specs.Drawn.{drawn_model, stands_surveyed}
use Rattle.floor.specs.Floors.{joined_to}
use Rattle.floor.specs.Links.{pairs_of, linked_to}
use Rattle.floor.specs.Survey.{drawing_refusal, distances}
use Rattle.floor.specs.Walks.{Shortest, within, distance}
use Rattle.floor.proofs.Standing.{stands_decides, granted_parts, standing_pull}
use Rattle.floor.proofs.Walking.{shortest_once}
use Rattle.drawn_floor.specs.Kept.{InPlace, IsReach, Stands}
use Rattle.drawn_floor.specs.Rings.{ring_links, ring_pulls}
use Rattle.drawn_floor.specs.Searches.{Passes}
use Rattle.drawn_floor.specs.Tables.{at_place, Tabled}
use Rattle.drawn_floor.proofs.Measuring.{distance_shortest, shortest_distances, granted}

-- an answer without a value, and one with it
pub refused_of : {X : Type 0} (r : Result X Refusal) → result_ok r ≡ None → (e : Refusal) × (Some e ≡ result_err r)
refused_of (Ok x) none = absurd (some_not_none refl none)
refused_of (Err e) none = (e, refl)

pub granted_of : {X : Type 0} (r : Result X Refusal) (x : X) (P : X → Type 0) → result_ok r ≡ Some x → IfOk r P → (None ≡ result_err r) × P x
granted_of (Ok y) x P some h = let same : y ≡ x = cc in (refl, subst P same h)
granted_of (Err e) x P some h = absurd (some_not_none some refl)

greatest_from : (x : ℕ) (xs : List ℕ) → fold max x xs ≡ max x (greatest xs)
greatest_from x [] = omega arith
greatest_from x (y ∷ ys) = greatest_from (max x y) ys ∙ omega arith

-- the greatest as the library finds it, none of no number
pub greatest_found : (xs : List ℕ) (o : Option ℕ) → option_map (λ x. x) o ≡ reduce max xs → unwrap_or o 0 ≡ greatest xs
greatest_found [] None e = refl
greatest_found [] (Some y) e = absurd (some_not_none refl e)
greatest_found (x ∷ xs) None e = absurd (some_not_none refl (sym e))
greatest_found (x ∷ xs) (Some y) e = let same : y ≡ fold max x xs = cc in same ∙ greatest_from x xs

-- what the row of tile t holds at place k
pub placed_at : (n : ℕ) (links : List ℕ) (tiles : List (List (Option ℕ))) → InPlace n links tiles → (t k : ℕ) → t < n → at_place tiles t k ≡ slice_get (joined_to (drawn_model n links) t) k
unfolding joined_to
placed_at n links tiles placed = placed

module _ (n : ℕ) (links numbers : List ℕ) where
  -- links that make no floor
  pub no_floor : {r : Refusal} → Some r ≡ drawing_refusal n links → false ≡ stands_surveyed n links numbers
  no_floor e = sym (false_by (stands_surveyed n links numbers) (λ s. some_not_none (sym e) (granted_parts n links (length numbers) ((stands_decides n links numbers).0 s).0).0))

  -- too few numbers
  pub no_room : length numbers < n * n → false ≡ stands_surveyed n links numbers
  no_room l = sym (false_by (stands_surveyed n links numbers) (λ s. omega (arith, (granted_parts n links (length numbers) ((stands_decides n links numbers).0 s).0).1)))

-- a drawing that is a floor, with the table of m = n tiles that was made of it
module _ (n m : ℕ) (links numbers : List ℕ) (tiles : List (List (Option ℕ))) (is-floor : None ≡ drawing_refusal n links) (made : (m ≡ n) × Tabled n (linked_to n (pairs_of links)) tiles) where
  pub placed_made : InPlace m links tiles
  placed_made = subst (λ l. InPlace l links tiles) (sym made.0) made.1.0

  abbrev AllShortest : ℕ → Type 0
  AllShortest l = (g t : ℕ) → g < l → t < l → Shortest (Passes tiles None) t g (get_or numbers (g * l + t) 0)

  numbers_are : n * n ≤ length numbers → AllShortest m → take (n * n) numbers ≡ distances n links
  numbers_are room found = shortest_distances n links tiles (sym is-floor) made.1 numbers room (λ g t d lg lt short. shortest_once (subst AllShortest made.0 found g t lg lt) short)

  agreed : n * n ≤ length numbers → AllShortest m → stands_surveyed n links numbers ≡ true
  agreed room found = (stands_decides n links numbers).1 (granted n links numbers (sym is-floor) room, numbers_are room found)

  pub not_agreed : (AllShortest m → ⊥) → false ≡ stands_surveyed n links numbers
  not_agreed none = sym (false_by (stands_surveyed n links numbers)
      (λ s. none (subst AllShortest (sym made.0) (λ g t lg lt. subst (λ d. Shortest (Passes tiles None) t g d) (sym (standing_pull n links numbers s t g lt lg)) (distance_shortest n links tiles (sym is-floor) made.1 t g lt lg)))))

  -- what the floor keeps, with the greatest number for its reach
  pub stands_made : n * n ≤ length numbers → AllShortest m → Stands m links numbers
  stands_made room found = subst (λ l. stands_surveyed l links numbers ≡ true) (sym made.0) (agreed room found)

  pub reach_made : n * n ≤ length numbers → AllShortest m → {far : ℕ} → far ≡ greatest (take (n * n) numbers) → IsReach m links far
  reach_made room found far = far ∙ ap greatest (numbers_are room found) ∙ ap (λ l. greatest (distances l links)) (sym made.0)

-- the ring of three tiles, computed
pub ring_stands : stands_surveyed 3 ring_links ring_pulls ≡ true
unfolding below those within distance
ring_stands = refl
