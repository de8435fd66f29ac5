-- The tiles around a tile of an open floor, in ascending number.
use Rattle.std.specs.Bool.{then_some}
use Rattle.std.specs.List.{flat_map}
use Rattle.std.specs.Option.{option_to_list}
use Rattle.std.specs.Prelude.{ℕ, ◌+◌, ◌-◌, ◌%◌, List, [], ◌∷◌, Option, nat_le, nat_lt}

-- the numbers that are there, of some that may be
abbrev pub somes : List (Option ℕ) → List ℕ
somes os = flat_map option_to_list os

-- above, left, right and below
abbrev pub sides : ℕ → ℕ → ℕ → List (Option ℕ)
sides w n t = then_some (nat_le w t) (t - w) ∷ then_some (nat_lt 0 (t % w)) (t - 1) ∷ then_some (nat_lt (t % w + 1) w) (t + 1) ∷ then_some (nat_lt (t + w) n) (t + w) ∷ []
