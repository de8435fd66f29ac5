-- The search has met those tiles that stand at the places which the loop has passed.
use Rattle.drawn_floor.specs.Spreading.{Meets}
use Rattle.drawn_floor.proofs.Rows.{Passed}
use Rattle.drawn_floor.proofs.search.Search.meet_joined.Given as goal

abbrev pub invariant-loop-place : goal.invariant-loop-place
invariant-loop-place l = Meets (Passed l.ways.joined.now.tiles l.ways.cut l.tile l.place-index) l.initial.self l.self
