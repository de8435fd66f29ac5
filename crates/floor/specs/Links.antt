-- The links of a drawn floor: every two bytes name two joined tiles.
use Rattle.std.specs.Prelude.{ℕ, Bool, ◌&&◌, ◌||◌, List, [], ◌∷◌, ◌==◌}
use Rattle.std.specs.List.{list_any}
use Rattle.base.specs.Lists.{below, those}

-- the pairs that the bytes name, in their order; an odd byte at the end names none
abbrev pub pairs_of : List ℕ → List (ℕ × ℕ)
pairs_of [] = []
pairs_of (x ∷ []) = []
pairs_of (x ∷ (y ∷ rest)) = (x, y) ∷ pairs_of rest

-- whether a pair joins a and b: either way round
abbrev pub joins_two : ℕ × ℕ → ℕ → ℕ → Bool
joins_two p a b = (p.0 == a && p.1 == b) || (p.0 == b && p.1 == a)

-- whether one of the pairs joins a and b
abbrev pub linked : List (ℕ × ℕ) → ℕ → ℕ → Bool
linked ps a b = list_any (λ p. joins_two p a b) ps

-- the tiles below n that are joined to t, ascending
abbrev pub linked_to : ℕ → List (ℕ × ℕ) → ℕ → List ℕ
linked_to n ps t = those (linked ps t) (below n)
