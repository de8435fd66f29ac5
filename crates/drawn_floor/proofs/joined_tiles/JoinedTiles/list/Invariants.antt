use Rattle.std.proofs.Common.{◌≡◌, ℕ, ◌<◌, false, ltb, length}
use Rattle.drawn_floor.specs.Marks.{marked_to}
use Rattle.drawn_floor.specs.Tables.{SixPlaces, Tabled}
use Rattle.drawn_floor.proofs.joined_tiles.JoinedTiles.list.Given as goal

abbrev pub invariant-loop-tile : goal.invariant-loop-tile
invariant-loop-tile l =
    Tabled l.tile (marked_to l.fn.self.size l.marks.marks) l.self.tiles × (l.self.size ≡ l.fn.self.size) × (length l.self.tiles ≡ 256) × SixPlaces l.self.tiles
    × ((t : ℕ) → t < l.tile → ltb 6 (length (marked_to l.fn.self.size l.marks.marks t)) ≡ false)
