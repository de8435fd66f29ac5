-- The search has met the tiles that are joined to those of the layer which the loop has passed.
use Rattle.drawn_floor.specs.Searches.{Passes}
use Rattle.drawn_floor.specs.Spreading.{Meets}
use Rattle.drawn_floor.proofs.Rows.{BehindSome}
use Rattle.drawn_floor.proofs.search.Search.spread.Given as goal

abbrev pub invariant-loop-place : goal.invariant-loop-place
invariant-loop-place l = Meets (BehindSome (Passes l.ways.joined.now.tiles l.ways.cut) l.fn.self.met.items l.fn.self.nearer l.place) l.initial.self l.self
