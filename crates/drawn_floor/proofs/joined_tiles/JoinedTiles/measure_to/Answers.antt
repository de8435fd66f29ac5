use Rattle.std.proofs.Common.{◌≡◌, ◌<◌, length, get_or, set, unwrap_or, None, sym, ap, ◌∙◌, inl, inr, arith}
use Rattle.std.proofs.lemmas.Bool.{cases_lt}
use Rattle.std.proofs.lemmas.List.{get_or-set_same, get_or-set_other}
use Rattle.drawn_floor.proofs.Finding.{found_some, found_cut}
use Rattle.drawn_floor.proofs.joined_tiles.JoinedTiles.measure_to.Goals as goal

pub loop-tile-preserved : goal.loop-tile-preserved
loop-tile-preserved c =
    let row = c.loop-tile.row in
    let old = c.args.row.now in
    let found = c.run.new.self.steps in
    let k = c.loop-tile.tile in
    let v = c.unwrap_or.result in
    let within : k < length row = omega (arith, c.loop-tile-test.true, c.loop-tile.auto.row) in (
      λ t l. elim (cases_lt t k) [
        | inl less ↦ get_or-set_other row k t v 0 (λ e. omega arith) ∙ c.loop-tile.invariant.0 t less
        | inr more ↦
            let is : t ≡ k = omega arith in
            let here = get_or-set_same row k v 0 within ∙ c.unwrap_or.ensures ∙ ap (unwrap_or (get_or found k None)) (c.loop-tile.invariant.1 k (omega arith)) in
            ap (λ j. get_or (set row k v) j 0) is ∙ here ∙ sym (ap (λ j. unwrap_or (get_or found j None) (get_or old j 0)) is)
      ],
      λ t l. get_or-set_other row k t v 0 (λ e. omega arith) ∙ c.loop-tile.invariant.1 t (omega arith),
    )

pub returns-clause-found : goal.returns-clause-found
returns-clause-found c t d l short =
    let passed : t < c.loop-tile.tile = omega (arith, l, c.loop-tile-test.false, c.requires) in
    let here = found_some (get_or c.run.new.self.steps t None) (c.run.ensures.found t) short in
    c.loop-tile.invariant.0 t passed ∙ ap (λ o. unwrap_or o (get_or c.args.row.now t 0)) here

pub returns-clause-kept : goal.returns-clause-kept
returns-clause-kept c t l cut =
    let passed : t < c.loop-tile.tile = omega (arith, l, c.loop-tile-test.false, c.requires) in
    let here = found_cut (get_or c.run.new.self.steps t None) (c.run.ensures.found t) cut in
    c.loop-tile.invariant.0 t passed ∙ ap (λ o. unwrap_or o (get_or c.args.row.now t 0)) here
