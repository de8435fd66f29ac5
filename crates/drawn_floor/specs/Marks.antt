-- Marks for joined tiles: a row of marks for each tile.
use Rattle.std.specs.Prelude.{◌≡◌, ℕ, Bool, false, List, [], slice_index_or}
use Rattle.base.specs.Lists.{below, those}
use Rattle.floor.specs.Links.{linked}

-- whether a and b are marked as joined
abbrev pub marked : List (List Bool) → ℕ → ℕ → Bool
marked marks a b = slice_index_or (slice_index_or marks a []) b false

-- just the tiles that the pairs join are marked
abbrev pub Marked : List (ℕ × ℕ) → List (List Bool) → Type 0
Marked ps marks = (a b : ℕ) → marked marks a b ≡ linked ps a b

-- the tiles below n that are marked as joined to t, ascending
abbrev pub marked_to : ℕ → List (List Bool) → ℕ → List ℕ
marked_to n marks t = those (marked marks t) (below n)
