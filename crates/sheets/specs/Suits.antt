-- How many bytes of contents suit each kind of field.
use Rattle.std.specs.Prelude.{ℕ, Bool, ◌==◌, nat_le}
use Rattle.sheets.specs.declared.tag.Tag.{Tag}
use Rattle.sheets.specs.declared.tag.Tag.TheVariants.{OpenFloor, DrawnFloor, Preference, Place, Assign, Lift, Beat}

abbrev pub length_suits : Tag → ℕ → Bool
length_suits OpenFloor n = n == 2
length_suits DrawnFloor n = nat_le 1 n
length_suits Preference n = n == 1
length_suits Place n = n == 2
length_suits Assign n = n == 2
length_suits Lift n = n == 1
length_suits Beat n = n == 0
