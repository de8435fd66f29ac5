-- The table of joined tiles: a row of places for each tile.
use Rattle.std.specs.Prelude.{◌≡◌, ℕ, ◌<◌, ◌≤◌, List, [], length, Some, None, Option, slice_index_or}
use Rattle.std.specs.List.{slice_get}

-- what the row of tile t holds at place k; none past its end
abbrev pub at_place : List (List (Option ℕ)) → ℕ → ℕ → Option ℕ
at_place tiles t k = slice_index_or (slice_index_or tiles t []) k None

-- the six places of a row hold these tiles, in their order, and none after them
abbrev pub Rowed : List ℕ → List (Option ℕ) → Type 0
Rowed us row = (length row ≡ 6) × ((k : ℕ) → slice_index_or row k None ≡ slice_get us k)

-- each tile number has a row of six places
abbrev pub SixPlaces : List (List (Option ℕ)) → Type 0
SixPlaces tiles = (t : ℕ) → t < 256 → length (slice_index_or tiles t []) ≡ 6

-- the rows of the tiles below n hold the joined tiles of each, and all other rows hold none
abbrev pub Tabled : ℕ → (ℕ → List ℕ) → List (List (Option ℕ)) → Type 0
Tabled n joined_to tiles = ((t k : ℕ) → t < n → at_place tiles t k ≡ slice_get (joined_to t) k) × ((t k : ℕ) → n ≤ t → at_place tiles t k ≡ None)

-- no place holds a tile
abbrev pub IsBare : List (List (Option ℕ)) → Type 0
IsBare tiles = (t k : ℕ) → at_place tiles t k ≡ None

-- u stands at one of the places of t
abbrev pub Listed : List (List (Option ℕ)) → ℕ → ℕ → Type 0
Listed tiles t u = (k : ℕ) × (at_place tiles t k ≡ Some u)
