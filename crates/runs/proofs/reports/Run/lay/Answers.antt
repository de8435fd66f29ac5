use Rattle.std.proofs.Common.{string_bytes, sym, ap, ◌∙◌}
use Rattle.std.specs.Result.{result_err}
use Rattle.floor.specs.Grid.{open_model}
use Rattle.sheets.specs.Fields.{said}
use Rattle.sheets.specs.Readers.{left_in}
use Rattle.sheets.specs.declared.fault.Layer.TheVariants.{Floor}
use Rattle.sheets.proofs.FaultSteps.{was_refused}
use Rattle.runs.specs.Lines.{stop_line}
use Rattle.runs.specs.Printed.{floor_lines, asked_lines, laid_lines}
use Rattle.runs.proofs.LineSteps.{adds_stop}
use Rattle.runs.proofs.reports.Run.lay.Goals as goal

pub returns-in_err-floor-in-Open : goal.returns-in_err-floor-in-Open
returns-in_err-floor-in-Open c =
    let run = c.args.self.now in
    let f = c.in_err-floor-in-Open.field-0.0 in
    let q = was_refused Floor c.args.first.place c.new-answer.result f c.in_err-floor-in-Open.ensures in
    let rest = left_in run.reader in
    let lines = laid_lines (open_model c.in-Open.width c.in-Open.height) rest in
    let refused = sym (ap result_err q.1) ∙ c.new-answer.ensures.answer in
    let told = ap stop_line q.2 ∙ ap (λ o. asked_lines o c.args.first.place lines) refused ∙ sym (ap (λ f. floor_lines c.args.first.place (said f) rest) c.in-Open.is) in
    adds_stop (string_bytes run.out) c.from_residual.result f c.from_residual.ensures.1 (sym told)
