use Rattle.std.proofs.Common.{sym, ap, ◌∙◌, arith}
use Rattle.std.specs.List.{slice_get}
use Rattle.floor.specs.Sides.{somes}
use Rattle.floor.proofs.GridLaws.{around_is, around_none}
use Rattle.open_floor.proofs.questions.OpenFloorFloor.joined.Goals as goal

pub returns-then-tile-size : goal.returns-then-tile-size
returns-then-tile-size c = let f = c.args.self.now in sym (ap (λ l. slice_get l c.args.k) (around_none f.width f.height f.wide f.high f.small c.args.tile (omega arith)))

pub returns : goal.returns
returns c =
    let f = c.args.self.now in
    c.nth_present.ensures ∙ ap (λ os. slice_get (somes os) c.args.k) c.around.ensures ∙ sym (ap (λ l. slice_get l c.args.k) (around_is f.width f.height f.wide f.high f.small c.args.tile (omega arith)))
