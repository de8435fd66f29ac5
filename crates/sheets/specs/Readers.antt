-- What a reader has left to read.
use Rattle.std.specs.Prelude.{ℕ, List, length}
use Rattle.std.specs.Borrow.{Bor}
use Rattle.sheets.specs.declared.awaited.Awaited.{Awaited}
use Rattle.sheets.specs.Readings.{Reading, reading}

-- how many bytes the sheet has, what has to come next, and the bytes that are left, which are lent
pub record Unread : Type 0 where
  pub total : ℕ
  pub awaited : Awaited
  pub rest : Bor (List ℕ)

abbrev pub left_in : Unread → Reading
left_in unread = reading (length unread.rest.now) unread.awaited unread.total unread.rest.now
