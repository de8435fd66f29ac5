use Rattle.std.proofs.Common.{Ok, sym, ap, ◌∙◌, subst, string_bytes}
use Rattle.sheets.specs.Readers.{left_in}
use Rattle.sheets.proofs.ReadingSteps.{was_faulty, was_ended, was_read}
use Rattle.runs.specs.Lines.{ok_line}
use Rattle.runs.specs.Printed.{call_lines, preference_lines}
use Rattle.runs.specs.Written.{Adds}
use Rattle.runs.proofs.LineSteps.{adds_stop, adds_after, adds_nothing}
use Rattle.runs.proofs.reports.Run.prefer.Goals as goal

pub returns-in_err-_entry : goal.returns-in_err-_entry
unfolding preference_lines
returns-in_err-_entry c =
    let run = c.args.self.now in
    let f = c.in_err-_entry.field-0.0 in
    adds_stop (string_bytes run.out) c.from_residual.result f c.from_residual.ensures.1 (ap preference_lines (was_faulty (left_in run.reader) f c.in_err-_entry.ensures.answer))

pub returns-in_default : goal.returns-in_default
unfolding preference_lines
returns-in_default c =
    let run = c.args.self.now in
    adds_nothing (string_bytes run.out) (ap preference_lines (was_ended (left_in run.reader) c.in_ok-_entry.field-0 c.in_default.is c.in_ok-_entry.ensures.answer))

pub returns-in_err-read_calls : goal.returns-in_err-read_calls
unfolding preference_lines
returns-in_err-read_calls c =
    let run = c.args.self.now in
    let read = c.in_ok-_entry.ensures in
    let e = was_read (left_in run.reader) (left_in c.next_field.new.self) c.in_ok-_entry.field-0 c.in-Some._entry c.in-Some.is read.answer read.after in
    let unread = ap (λ r. call_lines (left_in r)) c.in_ok-write.ensures.unread in
    let lines = call_lines (left_in c.next_field.new.self) in
    let stop = c.from_residual-in_err-read_calls in
    let told = c.in_err-read_calls.ensures in
    let written = string_bytes c.write.new.self.out in
    adds_after (string_bytes run.out) stop.result written (string_bytes c.read_calls.new.self.out) ok_line lines c.in_ok-write.ensures.written (ap preference_lines e)
    (subst (λ out. Adds written (string_bytes out) lines stop.result) (sym told.unwritten) (adds_stop written stop.result c.in_err-read_calls.field-0.0 stop.ensures.1 (sym unread ∙ told.lines)))

pub returns : goal.returns
unfolding preference_lines
returns c =
    let run = c.args.self.now in
    let read = c.in_ok-_entry.ensures in
    let e = was_read (left_in run.reader) (left_in c.next_field.new.self) c.in_ok-_entry.field-0 c.in-Some._entry c.in-Some.is read.answer read.after in
    let unread = ap (λ r. call_lines (left_in r)) c.in_ok-write.ensures.unread in
    let told = c.in_ok-read_calls.ensures in
    let written = string_bytes c.write.new.self.out in
    adds_after (string_bytes run.out) (Ok tt) written (string_bytes c.read_calls.new.self.out) ok_line (call_lines (left_in c.next_field.new.self))
    c.in_ok-write.ensures.written (ap preference_lines e) (ap string_bytes told.unwritten ∙ adds_nothing written (sym unread ∙ told.lines))
