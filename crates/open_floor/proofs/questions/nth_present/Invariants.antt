use Rattle.std.proofs.Common.{◌≡◌, drop}
use Rattle.std.specs.List.{slice_get}
use Rattle.floor.specs.Sides.{somes}
use Rattle.open_floor.proofs.questions.nth_present.Given as goal

abbrev pub invariant-loop-tile : goal.invariant-loop-tile
invariant-loop-tile l = slice_get (somes (drop l.tile-index l.tiles)) l.ahead ≡ slice_get (somes l.tiles) l.k
