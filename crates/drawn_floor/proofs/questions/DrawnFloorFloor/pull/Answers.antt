use Rattle.std.proofs.Common.{◌≡◌, ◌+◌, ◌*◌, get_or, Some, ap, ◌∙◌, arith}
use Rattle.std.proofs.lemmas.Nat.{mul-add-lt}
use Rattle.floor.specs.Drawn.{drawn_model}
use Rattle.floor.proofs.Answering.{pull_known}
use Rattle.floor.proofs.Standing.{standing_room, standing_pull}
use Rattle.drawn_floor.proofs.Measuring.{product}
use Rattle.drawn_floor.proofs.questions.DrawnFloorFloor.pull.Goals as goal

pub bounds-self-from : goal.bounds-self-from
bounds-self-from c =
    let f = c.args.self.now in
    let n = f.joined.size in
    omega (arith, product c.from.ensures c.from-2.ensures, c.from-3.ensures, mul-add-lt c.args.goal n c.args.tile n c.if-goal-n.false c.if-tile-n.false, standing_room n f.links.now f.pulls.now f.stands)

pub returns : goal.returns
returns c =
    let f = c.args.self.now in
    let n = f.joined.size in
    let at : c.from.result * c.from-2.result + c.from-3.result ≡ c.args.goal * n + c.args.tile = omega (arith, product c.from.ensures c.from-2.ensures, c.from-3.ensures) in
    ap (λ i. Some (get_or f.pulls.now i 0)) at ∙ ap Some (standing_pull n f.links.now f.pulls.now f.stands c.args.tile c.args.goal c.if-tile-n.false c.if-goal-n.false)
    ∙ pull_known (drawn_model n f.links.now) c.args.tile c.args.goal c.if-tile-n.false c.if-goal-n.false
