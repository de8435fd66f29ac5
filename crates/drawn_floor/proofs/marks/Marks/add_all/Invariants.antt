use Rattle.drawn_floor.proofs.Marking.{Marking}
use Rattle.drawn_floor.proofs.marks.Marks.add_all.Given as goal

abbrev pub invariant-loop-pair : goal.invariant-loop-pair
invariant-loop-pair l = Marking l.fn.pairs l.yielded l.pair-iterator l.self.marks
