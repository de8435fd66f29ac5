use Rattle.std.proofs.Common.{ap, string_bytes}
use Rattle.sheets.specs.Readers.{left_in}
use Rattle.sheets.proofs.ReadingSteps.{was_faulty, was_ended, was_read}
use Rattle.runs.specs.Printed.{run_lines}
use Rattle.runs.proofs.LineSteps.{adds_stop, adds_as, adds_nothing}
use Rattle.runs.proofs.reports.Run.carry_out.Goals as goal

pub returns-in_err-first : goal.returns-in_err-first
unfolding run_lines
returns-in_err-first c =
    let run = c.args.self.now in
    let f = c.in_err-first.field-0.0 in
    adds_stop (string_bytes run.out) c.from_residual.result f c.from_residual.ensures.1 (ap run_lines (was_faulty (left_in run.reader) f c.in_err-first.ensures.answer))

pub returns-in-Some : goal.returns-in-Some
unfolding run_lines
returns-in-Some c =
    let run = c.args.self.now in
    let told = c.in_ok-first.ensures in
    let e = was_read (left_in run.reader) (left_in c.next_field.new.self) c.in_ok-first.field-0 c.in-Some.first c.in-Some.is told.answer told.after in
    adds_as (string_bytes run.out) c.lay.result (string_bytes c.lay.new.self.out) (ap run_lines e) c.lay.ensures

pub returns-in-None : goal.returns-in-None
unfolding run_lines
returns-in-None c =
    let run = c.args.self.now in
    adds_nothing (string_bytes run.out) (ap run_lines (was_ended (left_in run.reader) c.in_ok-first.field-0 c.in-None.is c.in_ok-first.ensures.answer))
