use Rattle.std.proofs.Common.{◌+◌, ◌∷◌, drop, sym, ap, ◌∙◌, arith}
use Rattle.std.specs.List.{slice_get}
use Rattle.floor.specs.Sides.{somes}
use Rattle.open_floor.proofs.Present.{nth_none, nth_here, nth_later, nth_all}
use Rattle.open_floor.proofs.questions.nth_present.Goals as goal
use Rattle.open_floor.proofs.questions.nth_present.Goals.{in-Some+else-ahead-eq0, in_default}

pub returns-then-ahead-eq0 : goal.returns-then-ahead-eq0
returns-then-ahead-eq0 c =
    let os = c.args.tiles.now in
    let i = c.loop-tile.tile-index in
    sym (ap (slice_get (c.in-Some.tile ∷ somes (drop (i + 1) os))) c.if-ahead-eq0.true)
    ∙ sym (nth_here os i c.loop-tile.ahead c.loop-tile-test.true c.in-Some.tile c.in-Some.is) ∙ c.loop-tile.invariant

pub loop-tile-preserved : goal.loop-tile-preserved
loop-tile-preserved c =
    let os = c.args.tiles.now in
    let i = c.loop-tile.tile-index in
    elim c.match-tile.branch [
      | in-Some+else-ahead-eq0 w ↦ ap (slice_get (somes (drop (i + 1) os))) w.ahead-is
          ∙ sym (nth_later os i c.loop-tile.ahead c.loop-tile-test.true w.in-Some.tile w.in-Some.is (omega (arith, w.if-ahead-eq0.false))) ∙ c.loop-tile.invariant
      | in_default w ↦ ap (slice_get (somes (drop (i + 1) os))) w.ahead-is
          ∙ sym (nth_none os i c.loop-tile.ahead c.loop-tile-test.true w.in_default.is) ∙ c.loop-tile.invariant
    ]

pub returns : goal.returns
returns c = sym (nth_all c.args.tiles.now c.loop-tile.tile-index c.loop-tile.ahead c.loop-tile-test.false) ∙ c.loop-tile.invariant
