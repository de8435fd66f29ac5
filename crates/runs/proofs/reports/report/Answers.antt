use Rattle.std.proofs.Common.{◌++◌, sym, ap, ◌∙◌}
use Rattle.sheets.proofs.ReadingSteps.{says_long}
use Rattle.runs.specs.Lines.{stop_line}
use Rattle.runs.specs.Printed.{run_lines}
use Rattle.runs.proofs.reports.report.Goals as goal

pub returns-in_ok-writeln-in-Err : goal.returns-in_ok-writeln-in-Err
unfolding run_lines
returns-in_ok-writeln-in-Err c =
    let e = says_long c.args.sheet.now c.in-Err.fault c.in-Err.ensures.answer in
    c.in_ok-writeln-in-Err.ensures.bytes ∙ ap (λ l. l ++ stop_line c.in-Err.fault) c.new-out.ensures.bytes ∙ sym (ap run_lines e)
