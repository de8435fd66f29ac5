use Rattle.std.proofs.Common.{◌≡◌}
use Rattle.drawn_floor.specs.Marks.{marked_to}
use Rattle.drawn_floor.proofs.marks.Marks.row.Given as goal

abbrev pub invariant-loop-other : goal.invariant-loop-other
invariant-loop-other l = l.joined.items ≡ marked_to l.other l.self.marks l.tile
