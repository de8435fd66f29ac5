-- What a whole sheet says: its fields one after the other, up to its end or to the first fault.
use Rattle.std.specs.Prelude.{ℕ, zero, suc, ◌-◌, true, false, List, [], ◌∷◌, length, Some, None, Ok, Err, Option, Result, nat_le}
use Rattle.std.specs.Borrow.{Bor}
use Rattle.base.specs.declared.refusal.Refusal.{Refusal}
use Rattle.base.specs.declared.refusal.Refusal.TheVariants.{Long, Opening}
use Rattle.sheets.specs.declared.awaited.Awaited.{Awaited}
use Rattle.sheets.specs.declared.awaited.Awaited.TheVariants.{Floor, Preference, Call}
use Rattle.sheets.specs.declared.fault.Fault.{Fault}
use Rattle.sheets.specs.declared.fault.Layer.TheVariants.{Sheet}
use Rattle.sheets.specs.declared.field.Entry.{Entry}
use Rattle.sheets.specs.Faults.{fault_at}
use Rattle.sheets.specs.Fields.{Said, said, first_field}
use Rattle.sheets.specs.Opening.{awaited_after}

pub data Reading : Type 0 where
  ended : Reading
  faulty : Fault → Reading
  then_reads : Entry (List ℕ) → Reading → Reading

-- No bytes are left at this place. A sheet may not end before its second field.
abbrev pub reading_at_end : Awaited → ℕ → Reading
reading_at_end Floor place = faulty (fault_at Sheet place Opening)
reading_at_end Preference place = faulty (fault_at Sheet place Opening)
reading_at_end Call place = ended

-- The field at this place, and what `go` makes of the bytes after it.
abbrev pub continued : (List ℕ → Reading) → ℕ → Result (Said × List ℕ) Refusal → Reading
continued go at (Ok x) = then_reads (record { place = at; field = x.0 }) (go x.1)
continued go at (Err r) = faulty (fault_at Sheet at r)

-- What the bytes say that are left of a sheet of `total` bytes. The place of a field is the number of bytes before it.
-- The first number bounds the fields, and is at least the number of bytes left.
unfoldable pub reading : ℕ → Awaited → ℕ → List ℕ → Reading
reading zero awaited total bytes = reading_at_end awaited total
reading (suc most) awaited total [] = reading_at_end awaited total
reading (suc most) awaited total (b ∷ bs) =
    continued (reading most (awaited_after awaited) total) (total - length (b ∷ bs)) (first_field awaited (b ∷ bs))

-- a sheet has at most 60,000 bytes
abbrev pub too_long : List ℕ → Option Fault
too_long bytes = elim (nat_le (length bytes) 60000) [ true ↦ None | false ↦ Some (fault_at Sheet 0 Long) ]

unfoldable pub sheet_says : List ℕ → Reading
sheet_says bytes = elim (too_long bytes) [ Some f ↦ faulty f | None ↦ reading (length bytes) Floor (length bytes) bytes ]

-- the first answer of a reader that has this left to read
abbrev pub first_answer : Reading → Result (Option (Entry (List ℕ))) Fault
first_answer ended = Ok None
first_answer (faulty f) = Err f
first_answer (then_reads e rest) = Ok (Some e)

-- what it has left after that: an end stays an end, and a fault a fault
abbrev pub later_answers : Reading → Reading
later_answers ended = ended
later_answers (faulty f) = faulty f
later_answers (then_reads e rest) = rest

-- an entry whose links are lent, in plain numbers
abbrev pub plain_entry : Entry (Bor (List ℕ)) → Entry (List ℕ)
plain_entry e = record { place = e.place; field = said e.field }

abbrev pub plain_answer : Result (Option (Entry (Bor (List ℕ)))) Fault → Result (Option (Entry (List ℕ))) Fault
plain_answer (Ok None) = Ok None
plain_answer (Ok (Some e)) = Ok (Some (plain_entry e))
plain_answer (Err f) = Err f
