-- What a sheet prints, from its bytes.
use Rattle.std.specs.Prelude.{ℕ, List, [], ◌++◌, Some, None, Option}
use Rattle.base.specs.declared.refusal.Refusal.{Refusal}
use Rattle.floor.specs.Floors.{FloorModel}
use Rattle.floor.specs.Grid.{open_model, open_refusal}
use Rattle.sheets.specs.Faults.{fault_at}
use Rattle.sheets.specs.Fields.{Said}
use Rattle.sheets.specs.Readings.{Reading, ended, faulty, then_reads, sheet_says}
use Rattle.sheets.specs.declared.fault.Layer.TheVariants.{Floor}
use Rattle.sheets.specs.declared.field.Field.TheVariants.{Open, Drawn, Prefer, Place, Assign, Lift, Beat}
use Rattle.runs.specs.Lines.{floor_line, ok_line, stop_line}

-- The fields after the preference are read, and print nothing as long as there is no table.
unfoldable pub call_lines : Reading → List ℕ
call_lines ended = []
call_lines (faulty f) = stop_line f
call_lines (then_reads e rest) = call_lines rest

-- The preference is always granted.
unfoldable pub preference_lines : Reading → List ℕ
preference_lines ended = []
preference_lines (faulty f) = stop_line f
preference_lines (then_reads e rest) = ok_line ++ call_lines rest

-- a floor that is laid, and the fields after it
abbrev pub laid_lines : FloorModel → Reading → List ℕ
laid_lines floor rest = floor_line floor.size floor.reach ++ preference_lines rest

-- a floor that is refused ends the run
abbrev pub asked_lines : Option Refusal → ℕ → List ℕ → List ℕ
asked_lines None at lines = lines
asked_lines (Some r) at lines = stop_line (fault_at Floor at r)

-- The first field, at this place. Drawn floors print nothing as long as there is no survey. No other field comes first.
abbrev pub floor_lines : ℕ → Said → Reading → List ℕ
floor_lines at (Open w h) rest = asked_lines (open_refusal w h) at (laid_lines (open_model w h) rest)
floor_lines at (Drawn n links) rest = preference_lines rest
floor_lines at (Prefer p) rest = []
floor_lines at (Place m t) rest = []
floor_lines at (Assign m g) rest = []
floor_lines at (Lift m) rest = []
floor_lines at Beat rest = []

unfoldable pub run_lines : Reading → List ℕ
run_lines ended = []
run_lines (faulty f) = stop_line f
run_lines (then_reads e rest) = floor_lines e.place e.field rest

-- what the program prints for a sheet
abbrev pub printed : List ℕ → List ℕ
printed bytes = run_lines (sheet_says bytes)
