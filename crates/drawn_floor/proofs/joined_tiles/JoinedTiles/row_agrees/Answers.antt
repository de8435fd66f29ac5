use Rattle.std.proofs.Common.{◌≡◌, ◌≤◌, length, get_or, None, arith, rules, tests}
use Rattle.std.proofs.lemmas.Bool.Decides.{Decides-like, Decides-at}
use Rattle.std.proofs.lemmas.Iterator.{YieldsList-from_slice, YieldsList-from_zip}
use Rattle.std.proofs.lemmas.Iterator.Search.{all_from_yields_List}
use Rattle.drawn_floor.proofs.Finding.{found_some, some_found, is_steps, row_decides}
use Rattle.drawn_floor.proofs.joined_tiles.JoinedTiles.row_agrees.Goals as goal

pub returns : goal.returns
returns c =
    let numbers = c.args.numbers.now in
    let steps = c.run.new.self.steps in
    let long : length steps ≡ 256 = c.run.ensures.long in
    let room : length numbers ≤ length steps = omega (arith, c.requires, c.args.self.now.fits) in
    let all = all_from_yields_List is_steps c.all.new.self _ _ c.all.ensures.ran (YieldsList-from_zip (YieldsList-from_slice numbers cc) (YieldsList-from_slice steps cc)) (λ x b q k. search (rules, tests)) in
    Decides-at c.all.result _ all (Decides-like _
    (λ h. λ t l. some_found (get_or steps t None) (c.run.ensures.found t) (h t (omega (arith, l, c.requires))))
    (λ h. λ t l. found_some (get_or steps t None) (c.run.ensures.found t) (h t (omega (arith, l, c.requires))))
    (row_decides numbers steps room))
