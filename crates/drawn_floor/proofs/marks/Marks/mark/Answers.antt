use Rattle.std.proofs.Common.{arith}
use Rattle.drawn_floor.proofs.Marking.{marked_set}
use Rattle.drawn_floor.proofs.marks.Marks.mark.Goals as goal

pub returns : goal.returns
returns c x y =
    let marks = c.args.self.now.marks in
    let e = marked_set marks c.from.result c.from-2.result (omega arith) (omega arith) x y in
    cc
