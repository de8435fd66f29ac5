-- What a drawn floor keeps of its joined tiles, links, pulls and reach.
use Rattle.std.specs.Prelude.{◌≡◌, ℕ, ◌<◌, true, List, Option}
use Rattle.std.specs.List.{slice_get}
use Rattle.base.specs.Lists.{greatest}
use Rattle.floor.specs.Drawn.{stands_surveyed}
use Rattle.floor.specs.Links.{pairs_of, linked_to}
use Rattle.floor.specs.Survey.{distances}
use Rattle.drawn_floor.specs.Tables.{at_place}

-- size, links and pulls stand as a granted survey leaves them
abbrev pub Stands : ℕ → List ℕ → List ℕ → Type 0
Stands n links pulls = stands_surveyed n links pulls ≡ true

-- the row of tile t holds at place k, of the tiles joined to t, that at place k
abbrev pub InPlace : ℕ → List ℕ → List (List (Option ℕ)) → Type 0
InPlace n links tiles = (t k : ℕ) → t < n → at_place tiles t k ≡ slice_get (linked_to n (pairs_of links) t) k

-- the greatest of all distances
abbrev pub IsReach : ℕ → List ℕ → ℕ → Type 0
IsReach n links reach = reach ≡ greatest (distances n links)
