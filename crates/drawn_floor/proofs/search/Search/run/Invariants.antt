-- The search has come as far as its layer.
use Rattle.std.proofs.Common.{◌+◌, length}
use Rattle.drawn_floor.specs.Searches.{Passes}
use Rattle.drawn_floor.specs.Spreading.{Layered, layer_of, unmet}
use Rattle.drawn_floor.proofs.search.Search.run.Given as goal

abbrev pub invariant-loop-self : goal.invariant-loop-self
invariant-loop-self l = Layered (Passes l.joined.tiles l.fn.cut) l.goal l.self

-- Each tile of a layer was met, and leaves the layer.
abbrev pub decreases-loop-self : goal.decreases-loop-self
decreases-loop-self l = unmet l.self.steps + length (layer_of l.self)
