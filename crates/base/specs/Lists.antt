-- Lists of numbers: those below a bound, those that pass a test, and the greatest of them.
use Rattle.std.specs.Prelude.{◌≡◌, ℕ, max, Bool, true, false, ◌⊎◌, List, [], ◌∷◌, ◌≢◌, nat_eq}
use Rattle.std.specs.List.{range_with_len, list_any}

-- the numbers below n, ascending
unfoldable pub below : ℕ → List ℕ
below n = range_with_len 0 n

-- those that pass a test, in their order
unfoldable pub those : (ℕ → Bool) → List ℕ → List ℕ
those test [] = []
those test (x ∷ xs) = elim (test x) [ true ↦ x ∷ those test xs | false ↦ those test xs ]

-- whether x is one of the list
abbrev pub is_among : ℕ → List ℕ → Bool
is_among x xs = list_any (nat_eq x) xs

-- the greatest of the list, 0 where there is none
abbrev pub greatest : List ℕ → ℕ
greatest [] = 0
greatest (x ∷ xs) = max x (greatest xs)

-- x is one of the list
abbrev pub Among : ℕ → List ℕ → Type 0
Among x [] = ⊥
Among x (y ∷ ys) = (x ≡ y) ⊎ Among x ys

-- x is none of the list
abbrev pub Nowhere : ℕ → List ℕ → Type 0
Nowhere x [] = Unit {0}
Nowhere x (y ∷ ys) = (x ≢ y) × Nowhere x ys

-- no two of the list are the same
abbrev pub Different : List ℕ → Type 0
Different [] = Unit {0}
Different (x ∷ xs) = Nowhere x xs × Different xs
