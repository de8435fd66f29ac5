-- The refusals and their numbers, and which of several tests refuses first.
use Rattle.std.specs.Prelude.{ℕ, Bool, true, false, List, [], ◌∷◌, Some, None, Option}
use Rattle.base.specs.declared.refusal.Refusal.{Refusal}
use Rattle.base.specs.declared.refusal.Refusal.TheVariants.{Size, Ragged, Stranger, SelfPair, Twice, Crowded, Split, Neck, ShortList, NoMover, NoTile, Aboard, Absent, Taken, UnderWay, Long, Cut, Tag, Length, Opening, Value}

abbrev pub refusal_number : Refusal → ℕ
refusal_number Size = 1
refusal_number Ragged = 2
refusal_number Stranger = 3
refusal_number SelfPair = 4
refusal_number Twice = 5
refusal_number Crowded = 6
refusal_number Split = 7
refusal_number Neck = 8
refusal_number ShortList = 9
refusal_number NoMover = 10
refusal_number NoTile = 11
refusal_number Aboard = 12
refusal_number Absent = 13
refusal_number Taken = 14
refusal_number UnderWay = 15
refusal_number Long = 16
refusal_number Cut = 17
refusal_number Tag = 18
refusal_number Length = 19
refusal_number Opening = 20
refusal_number Value = 21

-- Each test is true where it refuses, and stands with the refusal that it gives. The first that is true decides.
abbrev pub first_refusal : List (Bool × Refusal) → Option Refusal
first_refusal [] = None
first_refusal (test ∷ tests) = elim test.0 [ true ↦ Some test.1 | false ↦ first_refusal tests ]
