use Rattle.std.proofs.Common.{sym, ap, ◌∙◌}
use Rattle.std.proofs.lemmas.Result.{err_from_is_err_and}
use Rattle.sheets.specs.Readers.{left_in}
use Rattle.sheets.proofs.ReadingSteps.{was_faulty, was_ended, was_read}
use Rattle.runs.specs.Printed.{call_lines}
use Rattle.runs.proofs.reports.Run.read_calls.Goals as goal

pub returns-in_err-_entry-clause-lines : goal.returns-in_err-_entry-clause-lines
unfolding call_lines
returns-in_err-_entry-clause-lines c =
    let p = err_from_is_err_and c.from_residual.result c.from_residual.ensures.1 in
    rw (p.1, p.2) (sym c.loop-entry.invariant.same ∙ ap call_lines (was_faulty (left_in c.loop-entry.self.reader) c.in_err-_entry.field-0.0 c.in_err-_entry.ensures.answer))

pub loop-entry-preserved : goal.loop-entry-preserved
unfolding call_lines
loop-entry-preserved c =
    let told = c.in_ok-_entry.ensures in
    let e = was_read (left_in c.loop-entry.self.reader) (left_in c.next_field.new.self) c.in_ok-_entry.field-0 c.in-Some._entry c.in-Some.is told.answer told.after in
    record { unwritten = c.loop-entry.invariant.unwritten; same = sym (ap call_lines e) ∙ c.loop-entry.invariant.same }

pub returns-clause-lines : goal.returns-clause-lines
unfolding call_lines
returns-clause-lines c =
    sym c.loop-entry.invariant.same ∙ ap call_lines (was_ended (left_in c.loop-entry.self.reader) c.in_ok-_entry.field-0 c.in_default.is c.in_ok-_entry.ensures.answer)
