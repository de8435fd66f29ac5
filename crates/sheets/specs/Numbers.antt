-- The numbers by which a sheet names kinds of field and preferences.
use Rattle.std.specs.Prelude.{ℕ, List, [], ◌∷◌, Option, ◌==◌}
use Rattle.std.specs.List.{find}
use Rattle.sheets.specs.declared.tag.Tag.{Tag}
use Rattle.sheets.specs.declared.tag.Tag.TheVariants.{OpenFloor, DrawnFloor, Preference, Place, Assign, Lift, Beat}
use Rattle.sheets.specs.declared.preference.PreferenceKind.{PreferenceKind}
use Rattle.sheets.specs.declared.preference.PreferenceKind.TheVariants.{Plain, Vacant, Hindrance}

abbrev pub tag_number : Tag → ℕ
tag_number OpenFloor = 1
tag_number DrawnFloor = 2
tag_number Preference = 3
tag_number Place = 4
tag_number Assign = 5
tag_number Lift = 6
tag_number Beat = 7

abbrev pub every_tag : List Tag
every_tag = OpenFloor ∷ DrawnFloor ∷ Preference ∷ Place ∷ Assign ∷ Lift ∷ Beat ∷ []

-- the one that has the number n
abbrev pub tag_of : ℕ → Option Tag
tag_of n = find (λ t. n == tag_number t) every_tag

abbrev pub preference_number : PreferenceKind → ℕ
preference_number Plain = 0
preference_number Vacant = 1
preference_number Hindrance = 2

abbrev pub every_preference : List PreferenceKind
every_preference = Plain ∷ Vacant ∷ Hindrance ∷ []

abbrev pub preference_of : ℕ → Option PreferenceKind
preference_of n = find (λ p. n == preference_number p) every_preference
