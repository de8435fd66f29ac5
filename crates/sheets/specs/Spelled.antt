-- A sheet from its fields: the bytes that a field is written with, and the law that what was read is what stands there.
use Rattle.std.specs.Prelude.{◌≡◌, ℕ, ◌+◌, ◌/◌, ◌%◌, List, [], ◌∷◌, ◌++◌, length, take}
use Rattle.sheets.specs.declared.field.Field.TheVariants.{Open, Drawn, Prefer, Place, Assign, Lift, Beat}
use Rattle.sheets.specs.declared.tag.Tag.{Tag}
use Rattle.sheets.specs.declared.tag.Tag.TheVariants as tag
use Rattle.sheets.specs.Fields.{Said}
use Rattle.sheets.specs.Numbers.{tag_number, preference_number}
use Rattle.sheets.specs.Readings.{Reading, ended, faulty, then_reads, sheet_says}

abbrev pub kind_of : Said → Tag
kind_of (Open w h) = tag.OpenFloor
kind_of (Drawn n links) = tag.DrawnFloor
kind_of (Prefer p) = tag.Preference
kind_of (Place m t) = tag.Place
kind_of (Assign m g) = tag.Assign
kind_of (Lift m) = tag.Lift
kind_of Beat = tag.Beat

abbrev pub contents_of : Said → List ℕ
contents_of (Open w h) = w ∷ h ∷ []
contents_of (Drawn n links) = n ∷ links
contents_of (Prefer p) = preference_number p ∷ []
contents_of (Place m t) = m ∷ t ∷ []
contents_of (Assign m g) = m ∷ g ∷ []
contents_of (Lift m) = m ∷ []
contents_of Beat = []

-- the tag, the length with its high byte first, and the contents
abbrev pub field_bytes : Said → List ℕ
field_bytes f = tag_number (kind_of f) ∷ length (contents_of f) / 256 ∷ length (contents_of f) % 256 ∷ contents_of f

-- the fields that are read, written out one after the other
abbrev pub spelled : Reading → List ℕ
spelled ended = []
spelled (faulty f) = []
spelled (then_reads e rest) = field_bytes e.field ++ spelled rest

-- where reading ends: at the place of the fault, or at the end of a sheet of this length
abbrev pub ends_at : ℕ → Reading → ℕ
ends_at total ended = total
ends_at total (faulty f) = f.place
ends_at total (then_reads e rest) = ends_at total rest

-- each field stands where the bytes of those before it end
abbrev pub Placed : ℕ → Reading → Type 0
Placed n ended = Unit {0}
Placed n (faulty f) = Unit {0}
Placed n (then_reads e rest) = (e.place ≡ n) × Placed (n + length (field_bytes e.field)) rest

-- The fields read from a sheet, written out, are the bytes of the sheet up to where reading ends, and each field is named
-- with the place at which it stands.
pub record Faithful (bytes : List ℕ) : Type 0 where
  pub same_bytes : spelled (sheet_says bytes) ≡ take (ends_at (length bytes) (sheet_says bytes)) bytes
  pub same_places : Placed 0 (sheet_says bytes)
