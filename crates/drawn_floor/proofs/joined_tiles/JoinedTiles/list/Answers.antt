use Rattle.std.proofs.Common.{◌≡◌, ◌<◌, ℕ, true, ltb, length, length-set, refl, ◌∙◌, subst, arith}
use Rattle.std.specs.List.{list_any}
use Rattle.std.proofs.lemmas.Bool.{both_ways}
use Rattle.base.specs.Lists.{below}
use Rattle.base.proofs.Ascending.{false_by}
use Rattle.base.proofs.Numbers.{some_below}
use Rattle.drawn_floor.specs.Marks.{marked, marked_to}
use Rattle.drawn_floor.proofs.Tabling.{tabled_none, six_set, below_set}
use Rattle.drawn_floor.proofs.joined_tiles.JoinedTiles.list.Goals as goal

pub loop-tile-init : goal.loop-tile-init
loop-tile-init c =
    let table = c.args.self.now in
    (tabled_none (marked_to table.size c.args.marks.now.marks) table.tiles c.requires, refl, table.long, table.wide, λ t l. absurd (omega arith))

pub returns-in_err-self-clause-crowded : goal.returns-in_err-self-clause-crowded
returns-in_err-self-clause-crowded c =
    let n = c.args.self.now.size in
    let marks = c.args.marks.now.marks in
    let here = subst (λ m. ltb 6 (length (marked_to m marks c.loop-tile.tile)) ≡ true) c.loop-tile.invariant.1 c.in_err-self.ensures in
    let crowded : list_any (λ t. ltb 6 (length (marked_to n marks t))) (below n) ≡ true =
    (some_below (λ t. ltb 6 (length (marked_to n marks t))) n).1 (c.loop-tile.tile, omega (arith, c.loop-tile-test.true), here) in
    rw c.from_residual.ensures crowded

pub invariant_of-self : goal.invariant_of-self
invariant_of-self c =
    let table = c.loop-tile.self in
    let row = c.in_ok-self.field-0 in
    let place = c.from.result in
    let told = c.in_ok-self.ensures.1 in
    let within : place < length table.tiles = omega (arith, table.long, c.from.ensures, c.loop-tile-test.true, c.args.self.now.fits) in
    record {
      least = table.least;
      fits = table.fits;
      long = length-set table.tiles place row ∙ table.long;
      wide = six_set table.tiles place row within told.0 table.wide;
      below = below_set table.tiles place row within table.size (marked c.args.marks.now.marks c.loop-tile.tile) told table.below;
    }

pub returns-clause-crowded : goal.returns-clause-crowded
returns-clause-crowded c =
    let n = c.args.self.now.size in
    let test = λ (t : ℕ). ltb 6 (length (marked_to n c.args.marks.now.marks t)) in
    false_by (list_any test (below n)) (λ e. let h = (some_below test n).0 e in both_ways (test h.0) (c.loop-tile.invariant.4 h.0 (omega (arith, h.1, c.loop-tile-test.false))) h.2)
