-- What a search over the table of joined tiles finds.
use Rattle.std.specs.Prelude.{◌≡◌, ℕ, Bool, false, List, Some, None, Option, slice_index_or}
use Rattle.floor.specs.Links.{joins_two}
use Rattle.floor.specs.Walks.{Walk, Shortest}
use Rattle.drawn_floor.specs.Tables.{Listed}

-- the pair that a search leaves out, if there is one, joins a and b
abbrev pub left_out : Option (ℕ × ℕ) → ℕ → ℕ → Bool
left_out None a b = false
left_out (Some p) a b = joins_two p a b

-- A search begins at its goal, so it goes from b to a where a walk goes from a to b.
abbrev pub Passes : List (List (Option ℕ)) → Option (ℕ × ℕ) → ℕ → ℕ → Type 0
Passes tiles cut a b = Listed tiles b a × (left_out cut b a ≡ false)

-- the steps of a shortest walk from t to g, or none where there is no walk
abbrev pub Found : (ℕ → ℕ → Type 0) → ℕ → ℕ → Option ℕ → Type 0
Found Goes t g None = (k : ℕ) → Walk Goes t g k → ⊥
Found Goes t g (Some d) = Shortest Goes t g d

-- what a row holds for each tile
abbrev pub Filled : (ℕ → ℕ → Type 0) → ℕ → List (Option ℕ) → Type 0
Filled Goes g row = (t : ℕ) → Found Goes t g (slice_index_or row t None)

-- d is the steps of a shortest walk from t to g over the table
abbrev pub IsSteps : List (List (Option ℕ)) → ℕ → ℕ → ℕ → Type 0
IsSteps tiles t g d = Shortest (Passes tiles None) t g d

-- no walk over the table leads from t to g
abbrev pub IsCutOff : List (List (Option ℕ)) → ℕ → ℕ → Type 0
IsCutOff tiles t g = (k : ℕ) → Walk (Passes tiles None) t g k → ⊥
