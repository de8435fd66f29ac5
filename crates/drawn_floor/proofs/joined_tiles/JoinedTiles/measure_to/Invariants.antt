-- As far as the loop has come, the row holds what the search found, or where it found none what was there; beyond it is as it was.
use Rattle.std.proofs.Common.{◌≡◌, ℕ, ◌<◌, ◌≤◌, get_or, unwrap_or, None}
use Rattle.drawn_floor.proofs.joined_tiles.JoinedTiles.measure_to.Given as goal

abbrev pub invariant-loop-tile : goal.invariant-loop-tile
invariant-loop-tile l =
    ((t : ℕ) → t < l.tile → get_or l.row t 0 ≡ unwrap_or (get_or l.search.steps t None) (get_or l.initial.row t 0))
    × ((t : ℕ) → l.tile ≤ t → get_or l.row t 0 ≡ get_or l.initial.row t 0)
