-- A table cut into its rows, one after the other.
use Rattle.std.proofs.Common.{◌≡◌, ℕ, zero, suc, ◌+◌, ◌*◌, ◌/◌, ◌%◌, ◌<◌, ◌≤◌, Bool, true, false, List, [], ◌∷◌, ◌++◌, length, get_or, take, drop, sym, refl, ap, ◌∙◌, subst, add-mul, arith, Decides, MatchBool}
use Rattle.std.specs.List.{zip, range_with_len, AllWithin, HoldsAt}
use Rattle.std.specs.Slice.Iter.{chunks_exact_rest, chunks_exact_size, chunks_exact_steps}
use Rattle.std.proofs.lemmas.Nat.{mod_below, div_below, div-add-mod', div-mul-add, le-div}
use Rattle.std.proofs.lemmas.List.{take_at, drop_at, drop-drop, length-append, length-drop, length-take-le}
use Rattle.std.proofs.lemmas.List.FromFn.{length-range_with_len, get_or-range_with_len}
use Rattle.std.proofs.lemmas.Slice.Zip.{get_or-zip, length-zip}
use Rattle.std.proofs.lemmas.Iterator.{YieldsList}
use Rattle.std.proofs.lemmas.Iterator.Splits.{YieldsList-from_shown_while}
use Rattle.std.proofs.lemmas.Bool.{false≢true}
use Rattle.drawn_floor.proofs.Measuring.{row_end, row_part}

-- the first m rows of n numbers
abbrev rows : ℕ → ℕ → List ℕ → List (List ℕ)
rows zero n xs = []
rows (suc m) n xs = take n xs ∷ rows m n (drop n xs)

length-rows : (m n : ℕ) (xs : List ℕ) → length (rows m n xs) ≡ m
length-rows zero n xs = refl
length-rows (suc m) n xs = omega (arith, length-rows m n (drop n xs))

row_at : (m n i : ℕ) (xs d : List ℕ) → i < m → get_or (rows m n xs) i d ≡ take n (drop (i * n) xs)
row_at zero n i xs d l = absurd (omega arith)
row_at (suc m) n zero xs d l = let none : 0 * n ≡ 0 = omega arith in sym (ap (λ k. take n (drop k xs)) none)
row_at (suc m) n (suc i) xs d l =
    let past : n + i * n ≡ suc i * n = omega (arith, add-mul i 1 n) in
    row_at m n i (drop n xs) d (omega arith) ∙ ap (λ ys. take n ys) (drop-drop (i * n) n xs ∙ ap (λ k. drop k xs) past)

one_more : (n l : ℕ) → 0 < n → (n + l) / n ≡ suc (l / n)
one_more n l some =
    let all : n + l ≡ suc (l / n) * n + l % n = omega (arith, add-mul (l / n) 1 n, div-add-mod' l n) in
    ap (λ k. k / n) all ∙ div-mul-add (suc (l / n)) n (l % n) (mod_below l n some)

-- the whole rows that are left
abbrev pub rows_left : ℕ → List ℕ → List (List ℕ)
rows_left n xs = rows (length xs / n) n xs

-- none is left
no_row : (n : ℕ) (xs : List ℕ) → 0 < n → length xs < n → length (rows_left n xs) ≡ 0
no_row n xs some few = omega (arith, length-rows (length xs / n) n xs, div_below (length xs) n 1 some (omega (arith, few)))

-- one is taken
next_row : (n : ℕ) (xs row left : List ℕ) → 0 < n → xs ≡ row ++ left → length row ≡ n → rows_left n xs ≡ row ∷ rows_left n left
next_row n xs row left some split long =
    let count : length xs ≡ n + length left = omega (arith, ap length split, length-append row left, long) in
    ap (λ m. rows m n xs) (ap (λ l. l / n) count ∙ one_more n (length left) some)
    ∙ ap (λ ys. rows (suc (length left / n)) n ys) split
    ∙ ap (λ ys. ys ∷ rows (length left / n) n (drop n (row ++ left))) (take_at row left n long)
    ∙ ap (λ ys. row ∷ rows (length left / n) n ys) (drop_at row left n long)

-- what `chunks_exact` gives
pub YieldsList-from_rows : {s : _} (n : ℕ) (xs : List ℕ) → 0 < n → chunks_exact_size s ≡ n → chunks_exact_rest s ≡ xs → YieldsList chunks_exact_steps (λ x. x.now) s (rows_left n xs)
YieldsList-from_rows {s} n xs some size rest = subst (λ ys. YieldsList chunks_exact_steps (λ x. x.now) s (rows_left n ys)) rest
    (YieldsList-from_shown_while chunks_exact_steps (λ x. x.now) (λ u. rows_left n (chunks_exact_rest u)) (λ u. chunks_exact_size u ≡ n)
    (λ u t is h. no_row n (chunks_exact_rest u) some (omega (arith, is, h.1.0)))
    (λ u x t is h. (h.0 ∙ is, next_row n (chunks_exact_rest u) x.now (chunks_exact_rest t) some h.1.0 (h.1.1 ∙ is)))
    s size)

-- the numbers below n, each with its row
abbrev pub numbered : ℕ → List ℕ → List (ℕ × List ℕ)
numbered n xs = zip (range_with_len 0 n) (rows_left n xs)

module _ (n : ℕ) (xs : List ℕ) (some : 0 < n) (room : n * n ≤ length xs) where
  enough : n ≤ length (rows_left n xs)
  enough = omega (arith, length-rows (length xs / n) n xs, le-div n (length xs) n some room)

  length-numbered : length (numbered n xs) ≡ n
  length-numbered = omega (arith, length-zip (range_with_len 0 n) (rows_left n xs), length-range_with_len 0 n, enough)

  numbered_at : (k : ℕ) (d : ℕ × List ℕ) → k < n → get_or (numbered n xs) k d ≡ (k, take n (drop (k * n) xs))
  numbered_at k d l =
      get_or-zip (range_with_len 0 n) (rows_left n xs) k d (omega (arith, length-range_with_len 0 n)) (omega (arith, enough))
      ∙ ap (λ g. (g, get_or (rows_left n xs) k d.1)) (get_or-range_with_len 0 n k d.0 l ∙ omega arith)
      ∙ ap (λ row. (k, row)) (row_at (length xs / n) n k xs d.1 (omega (arith, le-div n (length xs) n some room)))

  -- an item has a number below n and a row of n numbers
  pub numbered_fits : (k : ℕ) (x : ℕ × List ℕ) → k < length (numbered n xs) → x ≡ get_or (numbered n xs) k x → (x.0 < n) × (length x.1 ≡ n)
  numbered_fits k x l is =
      let low : k < n = omega (arith, length-numbered) in
      let here = is ∙ numbered_at k x low in
      let past = row_end n k (length xs) low room in
      (omega (arith, ap (λ y. y.0) here), ap (λ y. length y.1) here ∙ length-take-le n (drop (k * n) xs) (omega (arith, length-drop (k * n) xs, past)))

  -- Each row agrees or some row does not.
  pub rows_agree : (r : Bool) (Agrees : ℕ → ℕ → ℕ → Type 0)
      → MatchBool r (AllWithin (λ x. (t : ℕ) → t < n → Agrees x.0 t (get_or x.1 t 0)) (numbered n xs) 0 (length (numbered n xs))) ((k : ℕ) × (k < length (numbered n xs)) × HoldsAt (λ x. ((t : ℕ) → t < n → Agrees x.0 t (get_or x.1 t 0)) → ⊥) (numbered n xs) k)
      → Decides r ((g t : ℕ) → g < n → t < n → Agrees g t (get_or xs (g * n + t) 0))
  rows_agree true Agrees all = (
    λ e g t a b.
        subst (λ d. Agrees g t d) (row_part n g t xs b)
        (subst (λ x. (t : ℕ) → t < n → Agrees x.0 t (get_or x.1 t 0)) (numbered_at g (0, []) a) (all g (0, []) (omega arith) (omega (arith, length-numbered))) t b),
    λ h. refl,
  )
  rows_agree false Agrees (k, l, differs) = (
    λ e. absurd (false≢true e),
    λ h.
        let low : k < n = omega (arith, l, length-numbered) in
        absurd (subst (λ x. ((t : ℕ) → t < n → Agrees x.0 t (get_or x.1 t 0)) → ⊥) (numbered_at k (0, []) low) (differs (0, [])) (λ t b. subst (λ d. Agrees k t d) (sym (row_part n k t xs b)) (h k t low b))),
  )
