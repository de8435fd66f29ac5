use Rattle.std.proofs.Common.{◌-◌, length, sym, ap, ◌∙◌, arith}
use Rattle.std.proofs.lemmas.Result.{err_from_is_err_and}
use Rattle.sheets.specs.Readings.{first_answer, later_answers, reading}
use Rattle.sheets.proofs.ReadingSteps.{reading_none, reading_granted, reading_refused, shorter, end_stays}
use Rattle.sheets.proofs.reader.Reader.next_field.Goals as goal

pub returns-then-is_empty-clause-answer : goal.returns-then-is_empty-clause-answer
returns-then-is_empty-clause-answer c =
    let r = c.self.inside in
    let e = reading_none r.awaited r.total r.rest.now c.if-is_empty.ensures in
    rw (← c.self.view_is) (c.at_end.ensures ∙ sym (ap first_answer e))

pub returns-then-is_empty-clause-after : goal.returns-then-is_empty-clause-after
returns-then-is_empty-clause-after c =
    let r = c.self.inside in
    let e = reading_none r.awaited r.total r.rest.now c.if-is_empty.ensures in
    rw (← c.self.view_is) (e ∙ end_stays r.awaited (r.total - length r.rest.now) ∙ sym (ap later_answers e))

pub returns-in_err-field-clause-answer : goal.returns-in_err-field-clause-answer
returns-in_err-field-clause-answer c =
    let r = c.self.inside in
    let p = err_from_is_err_and c.from_residual.result c.from_residual.ensures.1 in
    let e = reading_refused r.awaited r.total r.rest.now c.first_field.result c.first_field.ensures c.in_err-field.field-0.0 c.if-is_empty.ensures c.in_err-field.ensures in
    rw (p.1, p.2, ← c.self.view_is) (sym (ap first_answer e))

pub returns-in_err-field-clause-after : goal.returns-in_err-field-clause-after
returns-in_err-field-clause-after c =
    let r = c.self.inside in
    let e = reading_refused r.awaited r.total r.rest.now c.first_field.result c.first_field.ensures c.in_err-field.field-0.0 c.if-is_empty.ensures c.in_err-field.ensures in
    rw (← c.self.view_is) (e ∙ sym (ap later_answers e))

pub invariant_of-self : goal.invariant_of-self
invariant_of-self c =
    let r = c.self.inside in
    omega (arith, shorter r.awaited r.total r.rest.now c.first_field.result c.first_field.ensures (c.in_ok-field.field, c.in_ok-field.rest) c.in_ok-field.ensures)

pub returns-clause-answer : goal.returns-clause-answer
returns-clause-answer c =
    let r = c.self.inside in
    let e = reading_granted r.awaited r.total r.rest.now c.first_field.result c.first_field.ensures (c.in_ok-field.field, c.in_ok-field.rest) c.in_ok-field.ensures in
    rw (← c.self.view_is) (sym (ap first_answer e))

pub returns-clause-after : goal.returns-clause-after
returns-clause-after c =
    let r = c.self.inside in
    let e = reading_granted r.awaited r.total r.rest.now c.first_field.result c.first_field.ensures (c.in_ok-field.field, c.in_ok-field.rest) c.in_ok-field.ensures in
    let after = c.in_ok-field.rest.now in
    rw (← c.self.view_is) (ap (λ a. reading (length after) a r.total after) c.next-self-inside.ensures ∙ sym (ap later_answers e))
