use Rattle.std.proofs.Common.{◌≡◌, ◌*◌, ◌≤◌, length, is_ok, Some, None, sym, ap, ◌∙◌, arith, rules}
use Rattle.std.proofs.lemmas.Result.{err_from_is_err_and}
use Rattle.std.proofs.lemmas.Bool.{both_ways, false≢true}
use Rattle.std.specs.Result.{result_err}
use Rattle.base.specs.declared.refusal.Refusal.TheVariants.{ShortList}
use Rattle.floor.proofs.Standing.{surveyed_stands}
use Rattle.drawn_floor.proofs.Measuring.{product, refused_drawing, refused_short, granted, refused_after, measured, survey_means}
use Rattle.drawn_floor.proofs.surveying.survey.Goals as goal

pub returns-in_err-joined : goal.returns-in_err-joined
returns-in_err-joined c =
    let n = c.args.size in
    let links = c.args.links.now in
    let before = c.args.distances.now in
    let p = err_from_is_err_and c.from_residual.result c.from_residual.ensures.1 in
    let refusal = refused_drawing n links before (sym c.in_err-joined.ensures.answer) in
    let answer = ap result_err p.1 ∙ ap Some p.2 ∙ sym refusal in
    let after = refused_after n links before refusal in
    record { answer = answer; after = after; means = survey_means n links before (result_err c.from_residual.result) before answer after; stands = λ ok. absurd (both_ways (is_ok c.from_residual.result) (ap is_ok p.1) ok) }

pub returns-then-distances-width : goal.returns-then-distances-width
returns-then-distances-width c =
    let n = c.args.size in
    let links = c.args.links.now in
    let before = c.args.distances.now in
    let refusal = refused_short n links before (sym c.in_ok-joined.ensures.answer) (omega (arith, c.if-distances-width.true, product c.from-width.ensures c.from-width.ensures)) in
    let after = refused_after n links before refusal in
    record { answer = sym refusal; after = after; means = survey_means n links before (Some ShortList) before (sym refusal) after; stands = λ ok. absurd (false≢true ok) }

pub returns : goal.returns
returns c =
    let n = c.args.size in
    let links = c.args.links.now in
    let before = c.args.distances.now in
    let joined = c.in_ok-joined.joined in
    let told = c.in_ok-joined.ensures in
    let written = c.measure.new.distances in
    let long : length written ≡ length before = search rules in
    let room : n * n ≤ length before = omega (arith, c.if-distances-width.false, product c.from-width.ensures c.from-width.ensures) in
    let answer = sym (granted n links before (sym told.answer) room) in
    let after = measured n joined.size links before written joined.tiles (sym told.answer) told.made room long c.measure.ensures.found c.measure.ensures.beyond in
    record { answer = answer; after = after; means = survey_means n links before None written answer after; stands = λ ok. surveyed_stands n links before written answer after long }
