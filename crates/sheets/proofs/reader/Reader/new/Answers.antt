use Rattle.std.proofs.Common.{sym, arith}
use Rattle.sheets.proofs.ReadingSteps.{says_short}
use Rattle.sheets.proofs.SpelledSteps.{faithful}
use Rattle.sheets.proofs.reader.Reader.new.Goals as goal

pub returns-then-sheet-gt-LONGEST-clause-faithful : goal.returns-then-sheet-gt-LONGEST-clause-faithful
returns-then-sheet-gt-LONGEST-clause-faithful c = faithful c.args.sheet.now (λ i. let h = c.type_inv.sheet i in omega arith)

pub returns-clause-starts : goal.returns-clause-starts
returns-clause-starts c = sym (says_short c.args.sheet.now (omega arith))

pub returns-clause-faithful : goal.returns-clause-faithful
returns-clause-faithful c = faithful c.args.sheet.now (λ i. let h = c.type_inv.sheet i in omega arith)
