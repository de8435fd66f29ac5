-- What a part of a run has written when it returns.
use Rattle.std.specs.Prelude.{◌≡◌, ℕ, List, ◌++◌, Ok, Err, Result, string_bytes}
use Rattle.runs.specs.declared.reports.Run.{Run}
use Rattle.runs.specs.declared.stop.Stop.{Stop}
use Rattle.runs.specs.declared.stop.Stop.TheVariants.{Faulty, NoMemory}
use Rattle.runs.specs.Lines.{stop_line}

-- All the lines come after the text that was there before, or, at a fault, all but the line that names it. Nothing is
-- said where memory is wanting.
abbrev pub Adds : List ℕ → List ℕ → List ℕ → Result (Unit {0}) Stop → Type 0
Adds before after lines (Ok x) = after ≡ before ++ lines
Adds before after lines (Err (Faulty f)) = after ++ stop_line f ≡ before ++ lines
Adds before after lines (Err (NoMemory e)) = Unit {0}

abbrev pub Wrote : Run → Run → List ℕ → Result (Unit {0}) Stop → Type 0
Wrote before after lines r = Adds (string_bytes before.out) (string_bytes after.out) lines r
