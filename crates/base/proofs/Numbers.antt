-- Lists of numbers: what is in them, the greatest of them, and how many numbers fit below a bound.
use Rattle.std.proofs.Common.{◌≡◌, ℕ, zero, suc, ◌+◌, ◌-◌, ◌<◌, ◌≤◌, min, Bool, true, false, cond, ◌&&◌, eqb, ltb, List, [], ◌∷◌, ◌++◌, length, get_or, Decides, sym, refl, ap, ◌∙◌, ⊎_elim, add-one, arith}
use Rattle.std.specs.List.{range_with_len, list_any}
use Rattle.std.proofs.lemmas.List.FromFn.{length-range_with_len, get_or-range_with_len, map-range_with_len_more}
use Rattle.std.proofs.lemmas.List.{append-nil, get_or_default, length_push, map-id}
use Rattle.std.proofs.lemmas.Bool.{both_ways, cases_lt, cases_Bool, eqb-true, eq-eqb, lt-ltb, le-ltb}
use Rattle.std.proofs.lemmas.Bool.Decides.{Decides-at, Decides-like, Decides-and, Decides-ltb, Decides-by_or, same_from_decides, nat_tests}
use Rattle.base.specs.Lists.{below, those, is_among, greatest}
use Rattle.base.proofs.Ascending.{those_take, those_skip, false_by}

pub greatest_bound : (xs : List ℕ) (i : ℕ) → i < length xs → get_or xs i 0 ≤ greatest xs
greatest_bound [] i l = absurd (omega arith)
greatest_bound (x ∷ xs) zero l = omega arith
greatest_bound (x ∷ xs) (suc i) l = omega (arith, greatest_bound xs i (omega arith))

pub greatest_reached : (xs : List ℕ) → 0 < length xs → (i : ℕ) × (i < length xs) × (get_or xs i 0 ≡ greatest xs)
greatest_reached [] l = absurd (omega arith)
greatest_reached (x ∷ []) l = (0, omega arith, omega arith)
greatest_reached (x ∷ (y ∷ ys)) l =
    let r = greatest_reached (y ∷ ys) (omega arith) in
    ⊎_elim (λ (h : x < greatest (y ∷ ys)). (suc r.0, omega arith, r.2 ∙ omega arith)) (λ (h : greatest (y ∷ ys) ≤ x). (0, omega arith, omega arith))
    (cases_lt x (greatest (y ∷ ys)))

pub length-below : (n : ℕ) → length (below n) ≡ n
unfolding below
length-below n = length-range_with_len 0 n

pub get_or-below : (n i d : ℕ) → i < n → get_or (below n) i d ≡ i
unfolding below
get_or-below n i d l = get_or-range_with_len 0 n i d l ∙ omega arith

-- a test decides that it passes
pub decides_itself : (b : Bool) → Decides b (b ≡ true)
decides_itself b = (λ e. e, λ e. e)

-- one number more below the bound
pub below_more : (n : ℕ) → below (n + 1) ≡ below n ++ n ∷ []
unfolding below
below_more n =
    sym (map-id (range_with_len 0 (n + 1))) ∙ map-range_with_len_more (λ k. k) 0 n n (omega arith) ∙ ap (λ ks. ks ++ n ∷ []) (map-id (range_with_len 0 n))

those-append : (p : ℕ → Bool) (xs ys : List ℕ) → those p (xs ++ ys) ≡ those p xs ++ those p ys
unfolding those
those-append p [] ys = refl
those-append p (x ∷ xs) ys = ⊎_elim
    (λ e. those_take p x (xs ++ ys) e ∙ ap (λ zs. x ∷ zs) (those-append p xs ys) ∙ ap (λ zs. zs ++ those p ys) (sym (those_take p x xs e)))
    (λ e. those_skip p x (xs ++ ys) e ∙ those-append p xs ys ∙ ap (λ zs. zs ++ those p ys) (sym (those_skip p x xs e)))
    (cases_Bool (p x))

pub those_below_none : (p : ℕ → Bool) → those p (below 0) ≡ []
unfolding those below
those_below_none p = refl

module _ (p : ℕ → Bool) (n : ℕ) where
  pub those_more_yes : p n ≡ true → those p (below (n + 1)) ≡ those p (below n) ++ n ∷ []
  unfolding those
  those_more_yes e = ap (those p) (below_more n) ∙ those-append p (below n) (n ∷ []) ∙ ap (λ zs. those p (below n) ++ zs) (those_take p n [] e)

  pub those_more_no : p n ≡ false → those p (below (n + 1)) ≡ those p (below n)
  unfolding those
  those_more_no e = ap (those p) (below_more n) ∙ those-append p (below n) (n ∷ []) ∙ ap (λ zs. those p (below n) ++ zs) (those_skip p n [] e) ∙ append-nil (those p (below n))

  -- a larger bound takes none away
  those_grow : length (those p (below n)) ≤ length (those p (below (n + 1)))
  those_grow = ⊎_elim
      (λ e. omega (arith, ap length (those_more_yes e), length_push (those p (below n)) n))
      (λ e. omega (arith, ap length (those_more_no e)))
      (cases_Bool (p n))

pub length-those_le : (p : ℕ → Bool) (m n : ℕ) → m ≤ n → length (those p (below m)) ≤ length (those p (below n))
length-those_le p m zero l = let e : m ≡ 0 = omega arith in omega (arith, ap (λ k. length (those p (below k))) e)
length-those_le p m (suc n) l = ⊎_elim
    (λ (h : m < suc n). omega (arith, length-those_le p m n (omega arith), those_grow p n, ap (λ k. length (those p (below k))) (add-one n)))
    (λ (h : suc n ≤ m). let e : m ≡ suc n = omega arith in omega (arith, ap (λ k. length (those p (below k))) e))
    (cases_lt m (suc n))

-- tests that agree below the bound
pub those_same : (p q : ℕ → Bool) (n : ℕ) → ((k : ℕ) → k < n → p k ≡ q k) → those p (below n) ≡ those q (below n)
those_same p q zero same = those_below_none p ∙ sym (those_below_none q)
those_same p q (suc n) same =
    let old = those_same p q n (λ k l. same k (omega arith)) in
    let here = same n (omega arith) in
    ap (λ k. those p (below k)) (sym (add-one n))
    ∙ ⊎_elim
    (λ e. those_more_yes p n e ∙ ap (λ zs. zs ++ n ∷ []) old ∙ sym (those_more_yes q n (sym here ∙ e)))
    (λ e. those_more_no p n e ∙ old ∙ sym (those_more_no q n (sym here ∙ e)))
    (cases_Bool (p n))
    ∙ ap (λ k. those q (below k)) (add-one n)

pub some_in : {X : Type 0} (p : X → Bool) (xs : List X) (d : X) → Decides (list_any p xs) ((i : ℕ) × (i < length xs) × (p (get_or xs i d) ≡ true))
some_in p xs d = Decides-like (list_any p xs) (λ h. (h.0, h.1, h.2 d)) (λ h. (h.0, h.1, λ e. ap p (get_or_default xs h.0 e d h.1) ∙ h.2))
    (Decides-by_or p (λ x. p x ≡ true) (list_any p) (λ x. decides_itself (p x)) refl (λ _ _. refl) xs)

pub some_below : (p : ℕ → Bool) (n : ℕ) → Decides (list_any p (below n)) ((t : ℕ) × (t < n) × (p t ≡ true))
some_below p n = Decides-like (list_any p (below n))
    (λ h. let l : h.0 < n = omega (arith, length-below n, h.1) in (h.0, l, ap p (sym (get_or-below n h.0 0 l)) ∙ h.2))
    (λ h. (h.0, omega (arith, length-below n, h.1), ap p (get_or-below n h.0 0 h.1) ∙ h.2))
    (some_in p (below n) 0)

-- each of a list fails a test that none passes
pub none_in : {X : Type 0} (p : X → Bool) (xs : List X) (d : X) → list_any p xs ≡ false → (i : ℕ) → i < length xs → p (get_or xs i d) ≡ false
none_in p xs d none i l = false_by (p (get_or xs i d)) (λ e. both_ways (list_any p xs) none ((some_in p xs d).1 (i, l, e)))

pub none_below : (p : ℕ → Bool) (n : ℕ) → list_any p (below n) ≡ false → (t : ℕ) → t < n → p t ≡ false
none_below p n none t l = false_by (p t) (λ e. both_ways (list_any p (below n)) none ((some_below p n).1 (t, l, e)))

pub some_same : (p q : ℕ → Bool) (n : ℕ) → ((k : ℕ) → k < n → p k ≡ q k) → list_any p (below n) ≡ list_any q (below n)
some_same p q n same = same_from_decides (list_any p (below n)) (list_any q (below n))
    (Decides-like (list_any p (below n)) (λ h. (h.0, h.1, sym (same h.0 h.1) ∙ h.2)) (λ h. (h.0, h.1, same h.0 h.1 ∙ h.2)) (some_below p n))
    (some_below q n)

-- some one of the list passes
pub some_among : (p : ℕ → Bool) (xs : List ℕ) → Decides (list_any p xs) ((u : ℕ) × (is_among u xs ≡ true) × (p u ≡ true))
some_among p xs = Decides-like (list_any p xs)
    (λ h. let u = get_or xs h.0 0 in (u, (some_in (eqb u) xs 0).1 (h.0, h.1, eq-eqb u u refl), h.2))
    (λ h. let r = (some_in (eqb h.0) xs 0).0 h.1 in (r.0, r.1, ap p (sym (eqb-true h.0 (get_or xs r.0 0) r.2)) ∙ h.2))
    (some_in p xs 0)

-- one of those that pass is one of the list, and passes
in_those : (p : ℕ → Bool) (y : ℕ) (xs : List ℕ) → is_among y (those p xs) ≡ (is_among y xs && p y)
unfolding those
in_those p y [] = refl
in_those p y (x ∷ xs) =
    let rest = in_those p y xs in
    let same : y ≡ x → p y ≡ p x = λ e. ap p e in
    ⊎_elim (λ e. ap (is_among y) (those_take p x xs e) ∙ grind (arith, nat_tests)) (λ e. ap (is_among y) (those_skip p x xs e) ∙ grind (arith, nat_tests)) (cases_Bool (p x))

pub below_decides : (n y : ℕ) → Decides (is_among y (below n)) (y < n)
below_decides n y = Decides-like (is_among y (below n)) (λ h. omega (arith, eqb-true y h.0 h.2, h.1)) (λ l. (y, l, eq-eqb y y refl)) (some_below (eqb y) n)

pub those_among : (p : ℕ → Bool) (n y : ℕ) → Decides (is_among y (those p (below n))) ((y < n) × (p y ≡ true))
those_among p n y = Decides-at (is_among y (those p (below n))) (is_among y (below n) && p y) (in_those p y (below n))
    (Decides-and (is_among y (below n)) (p y) (below_decides n y) (decides_itself (p y)))

length-those-range_with_len : (p : ℕ → Bool) (d : ℕ) → ((k : ℕ) → p k ≡ ltb k d) → (a n : ℕ) → length (those p (range_with_len a n)) ≡ min (d - a) n
unfolding those
length-those-range_with_len p d tell a zero = omega arith
length-those-range_with_len p d tell a (suc n) =
    let rest = length-those-range_with_len p d tell (a + 1) n in
    ⊎_elim
    (λ (l : a < d). ap length (those_take p a (range_with_len (a + 1) n) (tell a ∙ lt-ltb a d l)) ∙ omega arith)
    (λ (l : d ≤ a). ap length (those_skip p a (range_with_len (a + 1) n) (tell a ∙ le-ltb a d l)) ∙ omega arith)
    (cases_lt a d)

-- where just the numbers below d pass, d of those below n do
pub length-those-below : (p : ℕ → Bool) (d n : ℕ) → d ≤ n → ((k : ℕ) → Decides (p k) (k < d)) → length (those p (below n)) ≡ d
unfolding below
length-those-below p d n l tell =
    length-those-range_with_len p d (λ k. same_from_decides (p k) (ltb k d) (tell k) (Decides-ltb k d)) 0 n ∙ omega arith

-- d passes, and no smaller number does
pub record Least (p : ℕ → Bool) (d : ℕ) : Type 0 where
  pub passes : p d ≡ true
  pub least : (k : ℕ) → p k ≡ true → d ≤ k

least_later : (p : ℕ → Bool) (d : ℕ) → p 0 ≡ false → Least (λ k. p (suc k)) d → (k : ℕ) → p k ≡ true → suc d ≤ k
least_later p d none r zero h = absurd (both_ways (p 0) none h)
least_later p d none r (suc k) h = omega (arith, r.least k h)

pub least_passing : (p : ℕ → Bool) (m : ℕ) → p m ≡ true → (d : ℕ) × Least p d
least_passing p zero e = (0, record { passes = e; least = λ k h. omega arith })
least_passing p (suc m) e =
    let r = least_passing (λ k. p (suc k)) m e in
    ⊎_elim (λ here. (0, record { passes = here; least = λ k h. omega arith })) (λ none. (suc r.0, record { passes = r.1.passes; least = least_later p r.0 none r.1 }))
    (cases_Bool (p 0))

-- m different numbers below n are at most n. Where one is the greatest possible, the last stands in for it.
pub pigeons : (n m : ℕ) (f : ℕ → ℕ) → ((i : ℕ) → i < m → f i < n) → ((i j : ℕ) → i < j → j < m → f i ≡ f j → ⊥) → m ≤ n
pigeons n zero f low apart = omega arith
pigeons zero (suc m) f low apart = absurd (omega (arith, low 0 (omega arith)))
pigeons (suc n) (suc m) f low apart =
    let last = low m (omega arith) in
    omega (
      arith,
      pigeons n m (λ i. cond (eqb (f i) n) (f m) (f i))
          (λ i l. let a = low i (omega arith) in let b = apart i m l (omega arith) in grind (arith, nat_tests))
          (λ i j l h e. let a = apart i m (omega arith) (omega arith) in let b = apart j m h (omega arith) in let c = apart i j l (omega arith) in absurd (grind (arith, nat_tests))),
    )
