use Rattle.std.proofs.Common.{◌≡◌, ◌≤◌, true, false, ltb, length, subst, arith, MatchOption}
use Rattle.std.specs.List.{list_any}
use Rattle.std.proofs.lemmas.Grind.{common_steps}
use Rattle.base.specs.Lists.{below}
use Rattle.floor.specs.Links.{pairs_of}
use Rattle.drawn_floor.specs.Marks.{marked_to}
use Rattle.drawn_floor.proofs.Marking.{marked_linked}
use Rattle.drawn_floor.proofs.drawing.Drawing.fill.Goals as goal

pub returns-clause-answer : goal.returns-clause-answer
returns-clause-answer c =
    let n = c.args.self.now.size in
    let links = c.args.self.now.links.now in
    let ps = pairs_of links in
    let marks = c.add_all.new.self.marks in
    let told = rw (c.in_ok-ok_or.ensures.ok_part, c.pairs.ensures) at c.add_all.ensures in
    let sized = subst (λ m. MatchOption c.list.result (list_any (λ t. ltb 6 (length (marked_to m marks t))) (below m) ≡ true) (λ _. list_any (λ t. ltb 6 (length (marked_to m marks t))) (below m) ≡ false)) c.requires.size c.list.ensures.crowded in
    let crowded = subst (λ joined_to. MatchOption c.list.result (list_any (λ t. ltb 6 (length (joined_to t))) (below n) ≡ true) (λ _. list_any (λ t. ltb 6 (length (joined_to t))) (below n) ≡ false)) (marked_linked n ps marks told.1) sized in
    let least : 3 ≤ n = omega (arith, c.args.joined.now.least, c.requires.size) in
    grind (arith, common_steps)
