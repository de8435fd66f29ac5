use Rattle.std.proofs.Common.{◌≡◌, ◌<◌, length, arith}
use Rattle.std.proofs.lemmas.List.{length-drop}
use Rattle.drawn_floor.specs.Searches.{Passes}
use Rattle.drawn_floor.specs.Spreading.{layer_of}
use Rattle.drawn_floor.proofs.Spreading.{layered_begun, layered_more, filled}
use Rattle.drawn_floor.proofs.search.Search.run.Goals as goal

pub loop-self-init : goal.loop-self-init
loop-self-init c = layered_begun (Passes c.args.joined.now.tiles c.args.cut) c.args.goal c.args.self.now c.meet.new.self c.requires c.meet.ensures

pub loop-self-preserved : goal.loop-self-preserved
loop-self-preserved c =
    let s = c.loop-self.self in
    let told = c.spread.ensures in
    let some : s.nearer < length s.met.items = omega (arith, c.loop-self-test.true, c.count.ensures) in
    layered_more (Passes c.args.joined.now.tiles c.args.cut) c.args.goal s c.loop-self.invariant c.spread.new.self told.far told.nearer told.met told.spreads some

pub returns-clause-found : goal.returns-clause-found
returns-clause-found c =
    let s = c.loop-self.self in
    let empty : length (layer_of s) ≡ 0 = omega (arith, c.loop-self-test.false, c.count.ensures, length-drop s.nearer s.met.items) in
    filled (Passes c.args.joined.now.tiles c.args.cut) c.args.goal s c.loop-self.invariant empty
