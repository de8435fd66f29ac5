-- The lines that a run prints.
use Rattle.std.specs.Prelude.{ℕ, List, ◌++◌, codes, decimal}
use Rattle.sheets.specs.Faults.{fault_text}
use Rattle.sheets.specs.declared.fault.Fault.{Fault}
use Rattle.runs.specs.declared.lines.Line.{Line}
use Rattle.runs.specs.declared.lines.Line.TheVariants as line

abbrev pub line_text : Line → List ℕ
line_text (line.Floor size reach) = codes "floor " ++ (decimal size ++ (codes " " ++ decimal reach))
line_text line.Ok = codes "ok"
line_text (line.Stop f) = codes "stop " ++ fault_text f

-- with the line feed that ends it
abbrev pub whole_line : Line → List ℕ
whole_line l = line_text l ++ codes "\n"

-- the size and the reach of the floor that is laid
abbrev pub floor_line : ℕ → ℕ → List ℕ
floor_line size reach = whole_line (line.Floor size reach)

abbrev pub ok_line : List ℕ
ok_line = whole_line line.Ok

-- why the run ends early
abbrev pub stop_line : Fault → List ℕ
stop_line f = whole_line (line.Stop f)
