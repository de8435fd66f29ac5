-- A table of distances, row after row, and what a survey that writes it answers.
use Rattle.std.proofs.Common.{◌≡◌, ℕ, ◌+◌, ◌*◌, ◌/◌, ◌%◌, ◌<◌, ◌≤◌, Bool, ltb, List, [], ◌∷◌, ◌++◌, length, get_or, take, drop, Some, None, Option, sym, ap, ◌∙◌, subst, add-mul, arith}
use Rattle.std.proofs.lemmas.Nat.{mul-le, mod_below, div_below, div-add-mod'}
use Rattle.std.proofs.lemmas.List.{ext_get_or, get_or-take, get_or-drop, length-take-le, take-append-drop}
use Rattle.std.proofs.lemmas.Bool.{lt-ltb, le-ltb}
use Rattle.base.proofs.Testing.{passed_all, passed_both, passed_on, refused_on}
use Rattle.base.specs.Refusals.{first_refusal}
use Rattle.base.specs.declared.refusal.Refusal.{Refusal}
use Rattle.base.specs.declared.refusal.Refusal.TheVariants.{ShortList}
use Rattle.floor.specs.Drawn.{Surveyed}
use Rattle.floor.specs.Links.{pairs_of, linked, linked_to}
use Rattle.floor.specs.Survey.{link_tests, walk_tests, drawing_refusal, survey_refusal, distances, after_survey}
use Rattle.floor.specs.Walks.{Shortest, distance}
use Rattle.floor.proofs.SurveyFacts.{LinksPass, links_pass, distance_drawn, distance_place, length-distances, surveyed}
use Rattle.floor.proofs.Walking.{shortest_along}
use Rattle.drawn_floor.specs.Searches.{Passes}
use Rattle.drawn_floor.specs.Tables.{Tabled}
use Rattle.drawn_floor.proofs.Finding.{to_linked, from_linked}

-- a product of numbers that are turned into others of the same value
pub product : {a b g n : ℕ} → a ≡ g → b ≡ n → a * b ≡ g * n
product {b = b} {g = g} p q = ap (λ x. x * b) p ∙ ap (λ y. g * y) q

-- the row of the goal g lies within the table
pub row_end : (n g m : ℕ) → g < n → n * n ≤ m → g * n + n ≤ m
row_end n g m a b = omega (arith, mul-le (g + 1) n n n (omega arith) (omega arith), add-mul g 1 n)

-- an earlier row lies before it
pub row_before : (n g h t : ℕ) → h < g → t < n → h * n + t < g * n
row_before n g h t a b = omega (arith, mul-le (h + 1) n g n (omega arith) (omega arith), add-mul h 1 n)

-- a later row lies after it
pub row_after : (n g h t : ℕ) → g < h → g * n + n ≤ h * n + t
row_after n g h t a = omega (arith, mul-le (g + 1) n h n (omega arith) (omega arith), add-mul g 1 n)

-- a place of the row, as a part of the table
pub row_part : (n g t : ℕ) (numbers : List ℕ) → t < n → get_or (take n (drop (g * n) numbers)) t 0 ≡ get_or numbers (g * n + t) 0
row_part n g t numbers l = get_or-take n (drop (g * n) numbers) t 0 l ∙ get_or-drop (g * n) numbers t 0

-- a drawing that is a floor, and the table of its joined tiles
module _ (n : ℕ) (links : List ℕ) (tiles : List (List (Option ℕ))) (is-floor : drawing_refusal n links ≡ None) (tabled : Tabled n (linked_to n (pairs_of links)) tiles) where
  pub pass : LinksPass n links
  pass = links_pass n links (passed_both (link_tests n links) (walk_tests n links) is-floor).0

  -- the distance is the length of a shortest walk over the table
  pub distance_shortest : (t g : ℕ) → t < n → g < n → Shortest (Passes tiles None) t g (distance (linked (pairs_of links)) n t g)
  distance_shortest t g lt lg =
      let walks = passed_all (walk_tests n links) (passed_both (link_tests n links) (walk_tests n links) is-floor).1 in
      shortest_along (from_linked n links tiles pass tabled) (to_linked n links tiles pass tabled) (distance_drawn n links pass.known walks.0 t g lt lg).0

  -- numbers that are the steps of shortest walks, at all places, are the distances
  pub shortest_distances : (numbers : List ℕ) → n * n ≤ length numbers → ((g t d : ℕ) → g < n → t < n → Shortest (Passes tiles None) t g d → get_or numbers (g * n + t) 0 ≡ d) → take (n * n) numbers ≡ distances n links
  shortest_distances numbers room are =
      ext_get_or 0 (take (n * n) numbers) (distances n links) (length-take-le (n * n) numbers room ∙ sym (length-distances n links))
      (λ i l. at i (omega (arith, length-take-le (n * n) numbers room)))
    where
      at : (i : ℕ) → i < n * n → get_or (take (n * n) numbers) i 0 ≡ get_or (distances n links) i 0
      at i l =
          let some : 0 < n = omega (arith, pass.least) in
          let lg = div_below i n n some l in
          let lt = mod_below i n some in
          get_or-take (n * n) numbers i 0 l ∙ ap (λ j. get_or numbers j 0) (sym (div-add-mod' i n))
          ∙ are (i / n) (i % n) (distance (linked (pairs_of links)) n (i % n) (i / n)) lg lt (distance_shortest (i % n) (i / n) lt lg) ∙ sym (distance_place n links i l)

module _ (n : ℕ) (links before : List ℕ) where
  abbrev short_test : List (Bool × Refusal)
  short_test = (ltb (length before) (n * n), ShortList) ∷ []

  pub refused_drawing : {r : Refusal} → drawing_refusal n links ≡ Some r → survey_refusal n links (length before) ≡ Some r
  refused_drawing {r} e = refused_on (link_tests n links ++ walk_tests n links) short_test r e

  after_drawing : drawing_refusal n links ≡ None → survey_refusal n links (length before) ≡ first_refusal short_test
  after_drawing e = passed_on (link_tests n links ++ walk_tests n links) short_test e

  pub refused_short : drawing_refusal n links ≡ None → length before < n * n → survey_refusal n links (length before) ≡ Some ShortList
  refused_short e l = after_drawing e ∙ ap (λ b. first_refusal ((b, ShortList) ∷ [])) (lt-ltb (length before) (n * n) l)

  pub granted : drawing_refusal n links ≡ None → n * n ≤ length before → survey_refusal n links (length before) ≡ None
  granted e l = after_drawing e ∙ ap (λ b. first_refusal ((b, ShortList) ∷ [])) (le-ltb (length before) (n * n) l)

  abbrev list_after : Option Refusal → List ℕ
  list_after o = elim o [ None ↦ distances n links ++ drop (n * n) before | Some r ↦ before ]

  pub refused_after : {r : Refusal} → survey_refusal n links (length before) ≡ Some r → before ≡ after_survey n links before
  refused_after e = sym (ap list_after e)

  -- the distances are written, and what lies beyond them is as it was
  pub granted_after : (after : List ℕ) → survey_refusal n links (length before) ≡ None → take (n * n) after ≡ distances n links → drop (n * n) after ≡ drop (n * n) before → after ≡ after_survey n links before
  granted_after after e front back =
      sym (take-append-drop (n * n) after) ∙ ap (λ l. l ++ drop (n * n) after) front ∙ ap (λ l. distances n links ++ l) back ∙ sym (ap list_after e)

  pub survey_means : (answer : Option Refusal) (after : List ℕ) → answer ≡ survey_refusal n links (length before) → after ≡ after_survey n links before → Surveyed n links answer after
  survey_means answer after a b = subst (λ o. Surveyed n links o after) (sym a) (subst (λ l. Surveyed n links (survey_refusal n links (length before)) l) (sym b) (surveyed n links before))

-- a table of the tiles that is measured in full
pub measured : (n m : ℕ) (links before after : List ℕ) (tiles : List (List (Option ℕ))) → drawing_refusal n links ≡ None → (m ≡ n) × Tabled n (linked_to n (pairs_of links)) tiles → n * n ≤ length before → length after ≡ length before
    → ((g t d : ℕ) → g < m → t < m → Shortest (Passes tiles None) t g d → get_or after (g * m + t) 0 ≡ d) → drop (m * m) after ≡ drop (m * m) before → after ≡ after_survey n links before
measured n m links before after tiles e made room same found beyond =
    granted_after n links before after (granted n links before e room)
    (shortest_distances n links tiles e made.1 after (omega arith) (subst (λ l. (g t d : ℕ) → g < l → t < l → Shortest (Passes tiles None) t g d → get_or after (g * l + t) 0 ≡ d) made.0 found))
    (subst (λ l. drop (l * l) after ≡ drop (l * l) before) made.0 beyond)
