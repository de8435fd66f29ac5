use Rattle.std.proofs.Common.{Some, [], ◌∷◌, sym, refl, ap, ◌∙◌}
use Rattle.std.proofs.lemmas.Result.{err_from_is_err_and}
use Rattle.std.specs.Result.{result_err}
use Rattle.base.proofs.Testing.{refused_on}
use Rattle.base.specs.Refusals.{first_refusal}
use Rattle.base.specs.declared.refusal.Refusal.TheVariants.{Split, Neck}
use Rattle.floor.specs.Links.{pairs_of}
use Rattle.floor.specs.Survey.{has_neck, link_tests, walk_tests}
use Rattle.drawn_floor.proofs.Finding.{split_made, necked, walk_answer, made_answer}
use Rattle.drawn_floor.proofs.drawing.Drawing.floor.Goals as goal

pub returns-in_err-fill-clause-answer : goal.returns-in_err-fill-clause-answer
returns-in_err-fill-clause-answer c =
    let n = c.args.self.now.size in
    let links = c.args.self.now.links.now in
    let p = err_from_is_err_and c.from_residual.result c.from_residual.ensures.1 in
    ap result_err p.1 ∙ ap Some p.2 ∙ sym (refused_on (link_tests n links) (walk_tests n links) c.in_err-fill.field-0.0 (sym c.in_err-fill.ensures.answer))

pub returns-then-is_split : goal.returns-then-is_split
returns-then-is_split c =
    let n = c.args.self.now.size in
    let links = c.args.self.now.links.now in
    let joined = c.fill.new.joined in
    let told = c.in_ok-fill.ensures in
    let split = split_made n joined.size links joined.tiles told.answer (told.size, told.made) c.is_split.result c.is_split.ensures in
    record {
      answer = sym (ap (λ b. first_refusal ((b, Split) ∷ (has_neck n (pairs_of links), Neck) ∷ [])) c.if-is_split.true) ∙ walk_answer n joined.size links joined.tiles told.answer (told.size, told.made) split refl;
      made = tt;
    }

pub returns-then-has_neck : goal.returns-then-has_neck
returns-then-has_neck c =
    let joined = c.fill.new.joined in
    let told = c.in_ok-fill.ensures in
    record {
      answer = made_answer c.args.self.now.size joined.size c.args.self.now.links.now joined.tiles told.answer (told.size, told.made) c.is_split.result c.has_neck.result c.if-is_split.false c.if-has_neck.true c.is_split.ensures (necked c.has_neck.result joined.tiles c.pairs.ensures c.has_neck.ensures);
      made = tt;
    }

pub returns : goal.returns
returns c =
    let joined = c.fill.new.joined in
    let told = c.in_ok-fill.ensures in
    record {
      answer = made_answer c.args.self.now.size joined.size c.args.self.now.links.now joined.tiles told.answer (told.size, told.made) c.is_split.result c.has_neck.result c.if-is_split.false c.if-has_neck.false c.is_split.ensures (necked c.has_neck.result joined.tiles c.pairs.ensures c.has_neck.ensures);
      made = (told.size, told.made);
    }
