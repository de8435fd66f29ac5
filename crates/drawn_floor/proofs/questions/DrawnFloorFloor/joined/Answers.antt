use Rattle.std.proofs.Common.{◌≡◌, sym, ap, ◌∙◌, arith, rules}
use Rattle.std.specs.List.{slice_get}
use Rattle.floor.specs.Drawn.{drawn_model}
use Rattle.floor.proofs.Answering.{joined_none}
use Rattle.floor.proofs.Standing.{standing_laws}
use Rattle.drawn_floor.specs.Tables.{at_place}
use Rattle.drawn_floor.proofs.Adopting.{placed_at}
use Rattle.drawn_floor.proofs.questions.DrawnFloorFloor.joined.Goals as goal

pub returns-then-tile-self : goal.returns-then-tile-self
returns-then-tile-self c =
    let f = c.args.self.now in
    sym (ap (λ us. slice_get us c.args.k) (joined_none (drawn_model f.joined.size f.links.now) (standing_laws f.joined.size f.links.now f.pulls.now f.stands) c.args.tile c.if-tile-self.true))

pub slice_bounds-get-end : goal.slice_bounds-get-end
slice_bounds-get-end c = sym (c.args.self.now.joined.wide c.from.result (omega (arith, c.from.ensures, c.ranges.tile.fits)))

pub returns : goal.returns
returns c =
    let f = c.args.self.now in
    let at : c.flatten.result ≡ at_place f.joined.tiles c.args.tile c.args.k = search rules in
    at ∙ placed_at f.joined.size f.links.now f.joined.tiles f.placed c.args.tile c.args.k (omega arith)
