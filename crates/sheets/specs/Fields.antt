-- What one field says: a byte for its tag, two for its length with the high byte first, and the contents.
use Rattle.std.specs.Prelude.{ℕ, ◌+◌, ◌*◌, true, false, List, [], ◌∷◌, length, take, drop, Some, None, Ok, Err, Result, nat_le, slice_index}
use Rattle.std.specs.Borrow.{Bor}
use Rattle.base.specs.declared.refusal.Refusal.{Refusal}
use Rattle.base.specs.declared.refusal.Refusal.TheVariants as refusal
use Rattle.sheets.specs.declared.awaited.Awaited.{Awaited}
use Rattle.sheets.specs.declared.field.Field.{Field}
use Rattle.sheets.specs.declared.field.Field.TheVariants.{Open, Drawn, Prefer, Place, Assign, Lift, Beat}
use Rattle.sheets.specs.declared.tag.Tag.{Tag}
use Rattle.sheets.specs.declared.tag.Tag.TheVariants as tag
use Rattle.sheets.specs.Numbers.{tag_of, preference_of}
use Rattle.sheets.specs.Opening.{may_stand}
use Rattle.sheets.specs.Suits.{length_suits}

-- a field in plain numbers
abbrev pub Said : Type 0
Said = Field (List ℕ)

-- what a field says whose links are lent
abbrev pub said : Field (Bor (List ℕ)) → Said
said (Open w h) = Open w h
said (Drawn n links) = Drawn n links.now
said (Prefer p) = Prefer p
said (Place m t) = Place m t
said (Assign m g) = Assign m g
said (Lift m) = Lift m
said Beat = Beat

-- the preference that a number names, or a refusal
abbrev pub preferred : ℕ → Result Said Refusal
preferred n = elim (preference_of n) [ None ↦ Err refusal.Value | Some p ↦ Ok (Prefer p) ]

-- contents that suit their tag
abbrev pub contents_say : Tag → List ℕ → Result Said Refusal
contents_say tag.OpenFloor bs = Ok (Open (slice_index bs 0) (slice_index bs 1))
contents_say tag.DrawnFloor bs = Ok (Drawn (slice_index bs 0) (drop 1 bs))
contents_say tag.Preference bs = preferred (slice_index bs 0)
contents_say tag.Place bs = Ok (Place (slice_index bs 0) (slice_index bs 1))
contents_say tag.Assign bs = Ok (Assign (slice_index bs 0) (slice_index bs 1))
contents_say tag.Lift bs = Ok (Lift (slice_index bs 0))
contents_say tag.Beat bs = Ok Beat

-- the tests of a field's tag and contents, in their order
abbrev pub tagged_says : Awaited → Tag → List ℕ → Result Said Refusal
tagged_says awaited t bs =
    elim (length_suits t (length bs)) [
      | false ↦ Err refusal.Length
      | true ↦ elim (may_stand awaited t) [ false ↦ Err refusal.Opening | true ↦ contents_say t bs ]
    ]

abbrev pub field_says : Awaited → ℕ → List ℕ → Result Said Refusal
field_says awaited n bs = elim (tag_of n) [ None ↦ Err refusal.Tag | Some t ↦ tagged_says awaited t bs ]

-- with the bytes that follow the field
abbrev pub followed_by : Result Said Refusal → List ℕ → Result (Said × List ℕ) Refusal
followed_by (Ok x) rest = Ok (x, rest)
followed_by (Err r) rest = Err r

-- the first field of a row of bytes, and the bytes after it
abbrev pub first_field : Awaited → List ℕ → Result (Said × List ℕ) Refusal
first_field awaited [] = Err refusal.Cut
first_field awaited (t ∷ []) = Err refusal.Cut
first_field awaited (t ∷ high ∷ []) = Err refusal.Cut
first_field awaited (t ∷ high ∷ low ∷ rest) =
    let n = high * 256 + low in
    elim (nat_le n (length rest)) [ false ↦ Err refusal.Cut | true ↦ followed_by (field_says awaited t (take n rest)) (drop n rest) ]

-- the answer of a call that lends what it read
abbrev pub plain_field : Result (Field (Bor (List ℕ)) × Bor (List ℕ)) Refusal → Result (Said × List ℕ) Refusal
plain_field (Ok x) = Ok (said x.0, x.1.now)
plain_field (Err r) = Err r

abbrev pub plain_said : Result (Field (Bor (List ℕ))) Refusal → Result Said Refusal
plain_said (Ok x) = Ok (said x)
plain_said (Err r) = Err r
