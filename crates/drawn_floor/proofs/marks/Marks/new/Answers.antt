use Rattle.drawn_floor.proofs.Marking.{unmarked}
use Rattle.drawn_floor.proofs.marks.Marks.new.Goals as goal

pub returns : goal.returns
returns c = unmarked 256 256
