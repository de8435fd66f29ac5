-- A list that ascends and has just the numbers that pass a test is the list of those numbers.
use Rattle.std.proofs.Common.{◌≡◌, ℕ, zero, suc, ◌+◌, ◌<◌, ◌≤◌, Bool, true, false, List, [], ◌∷◌, sym, refl, ap, ◌∙◌, ⊎_elim, arith}
use Rattle.std.specs.List.{range_with_len}
use Rattle.std.proofs.lemmas.Bool.{cases_lt, false_from_ne_true}
use Rattle.base.specs.Lists.{below, those, Among}

-- each is larger than the one before, and the first at least a
abbrev pub Ascends : ℕ → List ℕ → Type 0
Ascends a [] = Unit {0}
Ascends a (x ∷ xs) = (a ≤ x) × Ascends (x + 1) xs

abbrev pub Each : (ℕ → Type 0) → List ℕ → Type 0
Each P [] = Unit {0}
Each P (x ∷ xs) = P x × Each P xs

pub ascends_low : (a b : ℕ) (xs : List ℕ) → a ≤ b → Ascends b xs → Ascends a xs
ascends_low a b [] l h = tt
ascends_low a b (x ∷ xs) l h = (omega (arith, h.0), h.1)

pub among_above : (a y : ℕ) (xs : List ℕ) → Ascends a xs → Among y xs → a ≤ y
among_above a y [] h i = absurd i
among_above a y (x ∷ xs) h i =
    ⊎_elim (λ (e : y ≡ x). omega (arith, h.0)) (λ j. omega (arith, h.0, among_above (x + 1) y xs h.1 j)) i

pub false_by : (b : Bool) → (b ≡ true → ⊥) → b ≡ false
false_by b never = false_from_ne_true b never

pub those_take : (p : ℕ → Bool) (x : ℕ) (xs : List ℕ) → p x ≡ true → those p (x ∷ xs) ≡ x ∷ those p xs
unfolding those
those_take p x xs e = rw (e, those) refl

pub those_skip : (p : ℕ → Bool) (x : ℕ) (xs : List ℕ) → p x ≡ false → those p (x ∷ xs) ≡ those p xs
unfolding those
those_skip p x xs e = rw (e, those) refl

those_none : (p : ℕ → Bool) → those p [] ≡ []
unfolding those
those_none p = refl

nearer : (p : ℕ → Bool) (n a : ℕ) (xs : List ℕ) → Each (λ x. (x < a + suc n) × (p x ≡ true)) xs → Each (λ x. (x < (a + 1) + n) × (p x ≡ true)) xs
nearer p n a [] each = tt
nearer p n a (x ∷ xs) each = ((omega (arith, each.0.0), each.0.1), nearer p n a xs each.1)

-- n numbers from a on
those-range_with_len : (p : ℕ → Bool) (n a : ℕ) (xs : List ℕ) → Ascends a xs → Each (λ x. (x < a + n) × (p x ≡ true)) xs
    → ((y : ℕ) → a ≤ y → y < a + n → p y ≡ true → Among y xs) → those p (range_with_len a n) ≡ xs
those-range_with_len p zero a [] up each all = those_none p
those-range_with_len p zero a (x ∷ xs) up each all = absurd (omega (arith, up.0, each.0.0))
those-range_with_len p (suc n) a [] up each all =
    let no-a : p a ≡ false = false_by _ (λ t. all a (omega arith) (omega arith) t) in
    those_skip p a (range_with_len (a + 1) n) no-a ∙ those-range_with_len p n (a + 1) [] tt tt (λ y l h t. all y (omega arith) (omega arith) t)
those-range_with_len p (suc n) a (x ∷ xs) up each all =
    ⊎_elim
    (λ (l : a < x).
    let no-a : p a ≡ false = false_by _ (λ t. ⊎_elim (λ (e : a ≡ x). omega arith) (λ i. omega (arith, among_above (x + 1) a xs up.1 i)) (all a (omega arith) (omega arith) t)) in
    those_skip p a (range_with_len (a + 1) n) no-a
    ∙ those-range_with_len p n (a + 1) (x ∷ xs) (omega arith, up.1) (nearer p n a (x ∷ xs) each) (λ y l h t. all y (omega arith) (omega arith) t))
    (λ (l : x ≤ a).
    let e : x ≡ a = omega (arith, up.0) in
    let yes-a : p a ≡ true = ap p (sym e) ∙ each.0.1 in
    let rest = those-range_with_len p n (a + 1) xs (ascends_low (a + 1) (x + 1) xs (omega arith) up.1) (nearer p n a xs each.1)
    (λ y ly h t. ⊎_elim (λ (q : y ≡ x). absurd (omega arith)) (λ i. i) (all y (omega arith) (omega arith) t)) in
    those_take p a (range_with_len (a + 1) n) yes-a ∙ ap (λ ys. a ∷ ys) rest ∙ ap (λ b. b ∷ xs) (sym e))
    (cases_lt a x)

pub those-below : (p : ℕ → Bool) (n : ℕ) (xs : List ℕ) → Ascends 0 xs → Each (λ x. (x < n) × (p x ≡ true)) xs
    → ((y : ℕ) → y < n → p y ≡ true → Among y xs) → those p (below n) ≡ xs
unfolding below
those-below p n xs up each all =
    those-range_with_len p n 0 xs up (from_zero p n xs each) (λ y low h t. all y (omega arith) t)
  where
    from_zero : (p : ℕ → Bool) (n : ℕ) (xs : List ℕ) → Each (λ x. (x < n) × (p x ≡ true)) xs → Each (λ x. (x < 0 + n) × (p x ≡ true)) xs
    from_zero p n [] each = tt
    from_zero p n (x ∷ xs) each = ((omega (arith, each.0.0), each.0.1), from_zero p n xs each.1)
