-- A place holds a tile to meet, a tile that is left out, or none.
use Rattle.std.proofs.Common.{◌≡◌, ◌+◌, ◌≤◌, length, get_or, [], None, sym, ap, ◌∙◌, subst, rules, arith}
use Rattle.std.proofs.lemmas.Bool.{both_ways}
use Rattle.base.proofs.Testing.{some_not_none}
use Rattle.drawn_floor.specs.Searches.{left_out}
use Rattle.drawn_floor.specs.Spreading.{Meets}
use Rattle.drawn_floor.specs.Tables.{at_place}
use Rattle.drawn_floor.proofs.Rows.{Passed, passed_last, passed_over, passed_met}
use Rattle.drawn_floor.proofs.search.Search.meet_joined.Goals as goal
use Rattle.drawn_floor.proofs.search.Search.meet_joined.Goals.{in-Some+then-not-is_left_out, in_default, in_default-via-in-None-1, in_default-via-in-Some+else-not-is_left_out}

pub loop-place-preserved : goal.loop-place-preserved
loop-place-preserved c =
    let tiles = c.args.ways.joined.now.tiles in
    let cut = c.args.ways.cut in
    let tile = c.args.tile in
    let k = c.loop-place.place-index in
    let start = c.args.self.now in
    let before = c.loop-place.self in
    let row_is : get_or tiles c.from.result [] ≡ get_or tiles tile [] = ap (λ p. get_or tiles p []) c.from.ensures in
    let there : at_place tiles tile k ≡ get_or (get_or tiles c.from.result []) k None = ap (λ row. get_or row k None) (sym row_is) in
    elim c.match-place.branch [
      | in-Some+then-not-is_left_out w ↦
          subst (Meets (Passed tiles cut tile (k + 1)) start) (sym w.self-is) (passed_met tiles cut tile k w.in-Some.next (there ∙ w.in-Some.is) (sym w.if-not-is_left_out.ensures) start before w.meet.new.self c.loop-place.invariant w.meet.ensures)
      | in_default w ↦ subst (Meets (Passed tiles cut tile (k + 1)) start) (sym w.self-is) (elim w.in_default.branch [
        | in_default-via-in-None-1 w' ↦
            let none : get_or (get_or tiles c.from.result []) k None ≡ None = search rules in
            passed_over tiles cut tile k (λ u is kept. some_not_none is (there ∙ none)) start before c.loop-place.invariant
        | in_default-via-in-Some+else-not-is_left_out w' ↦
            let place = there ∙ w'.in-Some.is in
            passed_over tiles cut tile k (λ u is kept. let same : u ≡ w'.in-Some.next = cc in both_ways (left_out cut tile u) kept (ap (left_out cut tile) same ∙ sym w'.if-not-is_left_out.ensures)) start before c.loop-place.invariant
      ])
    ]

pub returns : goal.returns
returns c =
    let joined = c.args.ways.joined.now in
    let all : length (get_or joined.tiles c.args.tile []) ≤ c.loop-place.place-index = omega (arith, joined.wide c.args.tile c.ranges.tile.fits, c.loop-place-test.false) in
    passed_last joined.tiles c.args.ways.cut c.args.tile c.loop-place.place-index all c.args.self.now c.loop-place.self c.loop-place.invariant
