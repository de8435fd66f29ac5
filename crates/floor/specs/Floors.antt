-- What a floor means, and the laws that every floor keeps.
use Rattle.std.specs.Prelude.{◌≡◌, ℕ, ◌<◌, ◌≤◌, Bool, true, false, ◌&&◌, List, [], ◌∷◌, length, Some, None, Option, ◌≢◌, nat_lt}
use Rattle.base.specs.Lists.{below, those, Different}

-- The tiles are 0 to size - 1. `joined a b` tells whether a mover may go from a to b in one beat. `pull t g` falls
-- as t comes nearer to the goal g. The reach is the greatest pull.
pub record FloorModel : Type 0 where
  pub size : ℕ
  pub joined : ℕ → ℕ → Bool
  pub pull : ℕ → ℕ → ℕ
  pub reach : ℕ

abbrev pub floor_model : ℕ → (ℕ → ℕ → Bool) → (ℕ → ℕ → ℕ) → ℕ → FloorModel
floor_model n joins pulls farthest = record { size = n; joined = joins; pull = pulls; reach = farthest }

abbrev pub IsTile : FloorModel → ℕ → Type 0
IsTile floor t = t < floor.size

abbrev pub Joined : FloorModel → ℕ → ℕ → Type 0
Joined floor a b = floor.joined a b ≡ true

-- the tiles joined to t, ascending: the tile at place k is the k-th of them, from 0
unfoldable pub joined_to : FloorModel → ℕ → List ℕ
joined_to floor t = those (floor.joined t) (below floor.size)

-- the pull as a floor answers it: none unless both are tiles
abbrev pub pull_between : FloorModel → ℕ → ℕ → Option ℕ
pull_between floor t g = elim (nat_lt t floor.size && nat_lt g floor.size) [ true ↦ Some (floor.pull t g) | false ↦ None ]

-- from x over the tiles listed, each joined to the next, and from the last to home
abbrev pub Leads : FloorModel → ℕ → ℕ → List ℕ → Type 0
Leads floor home x [] = Joined floor x home
Leads floor home x (y ∷ ys) = Joined floor x y × Leads floor home y ys

-- a and b stand next to each other in a ring: a, b, c and the rest are three or more different tiles, each joined to
-- the next, and the last to a
pub record Ring (floor : FloorModel) (a b : ℕ) : Type 0 where
  pub third : ℕ
  pub others : List ℕ
  pub different : Different (a ∷ b ∷ third ∷ others)
  pub closed : Leads floor a a (b ∷ third ∷ others)

-- a tile joined to t with a smaller pull towards g
pub record Nearer (floor : FloorModel) (t g : ℕ) : Type 0 where
  pub tile : ℕ
  pub joined : Joined floor t tile
  pub smaller : floor.pull tile g < floor.pull t g

-- two tiles whose pull is the reach
pub record Farthest (floor : FloorModel) : Type 0 where
  pub tile : ℕ
  pub goal : ℕ
  pub tile_is : IsTile floor tile
  pub goal_is : IsTile floor goal
  pub pull_is : floor.pull tile goal ≡ floor.reach

-- the laws of a floor
pub record Laws (floor : FloorModel) : Type 0 where
  pub least_size : 3 ≤ floor.size
  pub greatest_size : floor.size ≤ 255
  pub tiles_only : (a b : ℕ) → Joined floor a b → IsTile floor a × IsTile floor b
  pub never_itself : (a : ℕ) → Joined floor a a → ⊥
  pub both_ways : (a b : ℕ) → Joined floor a b → Joined floor b a
  pub at_most_six : (t : ℕ) → length (joined_to floor t) ≤ 6
  pub ring : (a b : ℕ) → Joined floor a b → Ring floor a b
  pub greatest_pull : (t g : ℕ) → IsTile floor t → IsTile floor g → floor.pull t g ≤ 65535
  pub no_pull_at_goal : (g : ℕ) → IsTile floor g → floor.pull g g ≡ 0
  pub pull_elsewhere : (t g : ℕ) → IsTile floor t → IsTile floor g → floor.pull t g ≡ 0 → t ≡ g
  pub nearer : (t g : ℕ) → IsTile floor t → IsTile floor g → (t ≢ g) → Nearer floor t g
  pub within_reach : (t g : ℕ) → IsTile floor t → IsTile floor g → floor.pull t g ≤ floor.reach
  pub reached : Farthest floor
