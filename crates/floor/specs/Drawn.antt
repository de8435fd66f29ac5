-- What a drawn floor means, and what the answers of a survey say of walks and rings.
use Rattle.std.specs.Prelude.{◌≡◌, ℕ, ◌+◌, ◌*◌, ◌<◌, Bool, ◌&&◌, List, length, take, is_none, Some, None, Option, nat_eq, slice_index}
use Rattle.std.specs.Cmp.Lexicographic.{pointwise}
use Rattle.base.specs.Lists.{greatest}
use Rattle.base.specs.Refusals.{first_refusal}
use Rattle.base.specs.declared.refusal.Refusal.{Refusal}
use Rattle.base.specs.declared.refusal.Refusal.TheVariants.{Split, Neck}
use Rattle.floor.specs.Floors.{FloorModel, floor_model, Joined, Ring}
use Rattle.floor.specs.Links.{pairs_of, linked}
use Rattle.floor.specs.Survey.{link_tests, survey_refusal, distances}
use Rattle.floor.specs.Walks.{Walk, Shortest, distance}

-- n tiles that the links join; the pull is the distance
abbrev pub drawn_model : ℕ → List ℕ → FloorModel
drawn_model n links = floor_model n (linked (pairs_of links)) (distance (linked (pairs_of links)) n) (greatest (distances n links))

-- size, links and numbers stand as a granted survey leaves them
abbrev pub stands_surveyed : ℕ → List ℕ → List ℕ → Bool
stands_surveyed n links numbers = is_none (survey_refusal n links (length numbers)) && pointwise nat_eq (take (n * n) numbers) (distances n links)

-- some tile has no walk to tile 0
abbrev pub CutOff : ℕ → List ℕ → Type 0
CutOff n links = (t : ℕ) × (t < n) × ((k : ℕ) → Walk (Joined (drawn_model n links)) t 0 k → ⊥)

-- some joined pair is in no ring
abbrev pub Unringed : ℕ → List ℕ → Type 0
Unringed n links = (a : ℕ) × (b : ℕ) × Joined (drawn_model n links) a b × (Ring (drawn_model n links) a b → ⊥)

-- each follows from the other
abbrev pub Exactly : Type 0 → Type 0 → Type 0
Exactly P Q = (P → Q) × (Q → P)

-- What an answer says, and what the list holds after a grant. The tests of the links come first, then walks, then rings.
pub record Surveyed (n : ℕ) (links : List ℕ) (answer : Option Refusal) (after : List ℕ) : Type 0 where
  pub split_given : Exactly (answer ≡ Some Split) ((first_refusal (link_tests n links) ≡ None) × CutOff n links)
  pub neck_given : Exactly (answer ≡ Some Neck) ((first_refusal (link_tests n links) ≡ None) × (CutOff n links → ⊥) × Unringed n links)
  pub written : answer ≡ None → (t g : ℕ) → t < n → g < n → Shortest (Joined (drawn_model n links)) t g (slice_index after (g * n + t))
