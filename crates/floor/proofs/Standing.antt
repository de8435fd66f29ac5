-- Size, links and numbers that stand as a granted survey leaves them.
use Rattle.std.proofs.Common.{◌≡◌, ℕ, ◌+◌, ◌*◌, ◌<◌, ◌≤◌, true, ltb, List, [], ◌∷◌, ◌++◌, length, get_or, take, drop, is_none, Some, None, Decides, Option, sym, refl, ap, ◌∙◌}
use Rattle.std.proofs.lemmas.Nat.{mul-add-lt}
use Rattle.std.proofs.lemmas.List.{get_or-take, take_at}
use Rattle.std.proofs.lemmas.Bool.{ltb-false, false≢true}
use Rattle.std.proofs.lemmas.Slice.Eq.{bytes_eq-Decides}
use Rattle.std.proofs.lemmas.Bool.Decides.{Decides-and}
use Rattle.base.proofs.Testing.{passed_all, passed_both}
use Rattle.base.specs.declared.refusal.Refusal.{Refusal}
use Rattle.base.specs.declared.refusal.Refusal.TheVariants.{ShortList}
use Rattle.floor.specs.Drawn.{drawn_model, stands_surveyed}
use Rattle.floor.specs.Floors.{Laws}
use Rattle.floor.specs.Links.{pairs_of, linked}
use Rattle.floor.specs.Survey.{link_tests, walk_tests, drawing_refusal, survey_refusal, distances, after_survey}
use Rattle.floor.specs.Walks.{distance}
use Rattle.floor.proofs.DrawnLaws.{drawn_laws}
use Rattle.floor.proofs.SurveyFacts.{distance_at, length-distances}

none_decides : (o : Option Refusal) → Decides (is_none o) (o ≡ None)
none_decides None = (λ e. refl, λ e. refl)
none_decides (Some r) = (λ e. absurd (false≢true e), λ e. ap is_none e)

pub stands_decides : (n : ℕ) (links numbers : List ℕ) → Decides (stands_surveyed n links numbers) ((survey_refusal n links (length numbers) ≡ None) × (take (n * n) numbers ≡ distances n links))
stands_decides n links numbers =
    Decides-and _ _ (none_decides (survey_refusal n links (length numbers))) (bytes_eq-Decides (take (n * n) numbers) (distances n links))

-- a granted survey tells that the drawing is a floor and that the list has room
pub granted_parts : (n : ℕ) (links : List ℕ) (places : ℕ) → survey_refusal n links places ≡ None → (drawing_refusal n links ≡ None) × (n * n ≤ places)
granted_parts n links places e =
    let parts = passed_both (link_tests n links ++ walk_tests n links) ((ltb places (n * n), ShortList) ∷ []) e in
    (parts.0, ltb-false places (n * n) (passed_all ((ltb places (n * n), ShortList) ∷ []) parts.1).0)

module _ (n : ℕ) (links numbers : List ℕ) (stands : stands_surveyed n links numbers ≡ true) where
  pub standing_laws : Laws (drawn_model n links)
  standing_laws = drawn_laws n links (granted_parts n links (length numbers) ((stands_decides n links numbers).0 stands).0).0

  pub standing_room : n * n ≤ length numbers
  standing_room = (granted_parts n links (length numbers) ((stands_decides n links numbers).0 stands).0).1

  pub standing_pull : (t g : ℕ) → t < n → g < n → get_or numbers (g * n + t) 0 ≡ distance (linked (pairs_of links)) n t g
  standing_pull t g lt lg =
      sym (get_or-take (n * n) numbers (g * n + t) 0 (mul-add-lt g n t n lg lt)) ∙ ap (λ l. get_or l (g * n + t) 0) ((stands_decides n links numbers).0 stands).1 ∙ distance_at n links t g lt lg

-- what a granted survey leaves
pub surveyed_stands : (n : ℕ) (links before after : List ℕ) → None ≡ survey_refusal n links (length before) → after ≡ after_survey n links before → length after ≡ length before → stands_surveyed n links after ≡ true
surveyed_stands n links before after e is same =
    let written : after ≡ distances n links ++ drop (n * n) before = is ∙ ap (λ o. elim o as (λ x. List ℕ) [ None ↦ distances n links ++ drop (n * n) before | Some r ↦ before ]) (sym e) in
    (stands_decides n links after).1
    (ap (survey_refusal n links) same ∙ sym e, ap (take (n * n)) written ∙ take_at (distances n links) (drop (n * n) before) (n * n) (length-distances n links))
