use Rattle.std.proofs.Common.{◌≡◌}
use Rattle.sheets.specs.Readers.{left_in}
use Rattle.sheets.proofs.ReadingSteps.{entries}
use Rattle.runs.specs.Printed.{call_lines}
use Rattle.runs.proofs.reports.Run.read_calls.Given as goal

-- nothing is written, and what is left prints what was left
abbrev pub invariant-loop-entry : goal.invariant-loop-entry
invariant-loop-entry l = record {
  unwritten : l.self.out ≡ l.initial.self.out;
  same : call_lines (left_in l.self.reader) ≡ call_lines (left_in l.initial.self.reader);
}

abbrev pub decreases-loop-entry : goal.decreases-loop-entry
decreases-loop-entry l = entries (left_in l.self.reader)
