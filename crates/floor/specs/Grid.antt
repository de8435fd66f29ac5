-- The open floor: w columns and h rows of tiles, each joined to the tiles directly left, right, above and below.
use Rattle.std.specs.Int.{abs_diff}
use Rattle.std.specs.Prelude.{ℕ, ◌+◌, ◌-◌, ◌*◌, ◌/◌, ◌%◌, Bool, true, false, ◌&&◌, Some, None, Option, ◌==◌, nat_le, nat_lt}
use Rattle.base.specs.declared.refusal.Refusal.{Refusal}
use Rattle.base.specs.declared.refusal.Refusal.TheVariants.{Size}
use Rattle.floor.specs.Floors.{FloorModel, floor_model}

-- tile y * w + x stands in column x and row y
abbrev pub column : ℕ → ℕ → ℕ
column w t = t % w

abbrev pub row : ℕ → ℕ → ℕ
row w t = t / w

-- the columns between two tiles and the rows between them
abbrev pub steps : ℕ → ℕ → ℕ → ℕ
steps w s t = abs_diff (column w s) (column w t) + abs_diff (row w s) (row w t)

-- one step apart, and both on the floor
abbrev pub beside : ℕ → ℕ → ℕ → ℕ → Bool
beside w h s t = nat_lt s (w * h) && (nat_lt t (w * h) && steps w s t == 1)

-- from corner to corner
abbrev pub corners : ℕ → ℕ → ℕ
corners w h = (w - 1) + (h - 1)

abbrev pub open_model : ℕ → ℕ → FloorModel
open_model w h = floor_model (w * h) (beside w h) (steps w) (corners w h)

-- each at least 2, and at most 255 tiles
abbrev pub open_bounds : ℕ → ℕ → Bool
open_bounds w h = nat_le 2 w && (nat_le 2 h && nat_le (w * h) 255)

abbrev pub open_refusal : ℕ → ℕ → Option Refusal
open_refusal w h = elim (open_bounds w h) [ true ↦ None | false ↦ Some Size ]
