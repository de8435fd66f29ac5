-- The rule of the first two fields: a floor, then a preference, and these nowhere else.
use Rattle.std.specs.Prelude.{Bool, ◌==◌, nat_le}
use Rattle.sheets.specs.declared.awaited.Awaited.{Awaited}
use Rattle.sheets.specs.declared.awaited.Awaited.TheVariants.{Floor, Preference, Call}
use Rattle.sheets.specs.declared.tag.Tag.{Tag}
use Rattle.sheets.specs.Numbers.{tag_number}

-- tag 1 or 2 comes first, tag 3 second, and tags 4 to 7 after these
abbrev pub may_stand : Awaited → Tag → Bool
may_stand Floor t = nat_le (tag_number t) 2
may_stand Preference t = tag_number t == 3
may_stand Call t = nat_le 4 (tag_number t)

abbrev pub awaited_after : Awaited → Awaited
awaited_after Floor = Preference
awaited_after Preference = Call
awaited_after Call = Call
