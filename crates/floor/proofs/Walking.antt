-- Walks, shortest walks, and that the counted distance is the length of a shortest one.
use Rattle.std.proofs.Common.{◌≡◌, ℕ, zero, suc, ◌+◌, ◌-◌, ◌<◌, ◌≤◌, min, Bool, true, false, not, ◌||◌, eqb, ◌⊎◌, List, Decides, sym, refl, subst, inl, inr, ⊎_elim, arith}
use Rattle.std.specs.List.{list_any}
use Rattle.std.proofs.lemmas.Bool.{false≢true, cases_lt, eqb-true, eq-eqb, or_cases, or_left}
use Rattle.std.proofs.lemmas.Bool.Decides.{Decides-like, Decides-or, Decides-eqb, Decides-not}
use Rattle.base.specs.Lists.{is_among}
use Rattle.base.proofs.Numbers.{decides_itself, some_among, those_among, length-those-below, Least, least_passing, pigeons}
use Rattle.floor.specs.Walks.{Walk, stay, step, Shortest, By, one_step_more, within, comes_to, distance}

module _ {Goes : ℕ → ℕ → Type 0} where
  pub walk_on : {a b c i m : ℕ} → Walk Goes a b i → Walk Goes b c m → Walk Goes a c (i + m)
  walk_on {a} {b} {c} stay w = subst (λ k. Walk Goes a c k) (omega arith) w
  walk_on {a} {b} {c} (step j v) w = subst (λ k. Walk Goes a c k) (omega arith) (step j (walk_on v w))

  pub walk_back : ((a b : ℕ) → Goes a b → Goes b a) → {a b k : ℕ} → Walk Goes a b k → Walk Goes b a k
  walk_back turn stay = stay
  walk_back turn {a} {b} (step {b = c} j w) = subst (λ k. Walk Goes b a k) (omega arith) (walk_on (walk_back turn w) (step (turn a c j) stay))

  pub shortest_once : {t g d e : ℕ} → Shortest Goes t g d → Shortest Goes t g e → d ≡ e
  shortest_once {d = d} {e = e} p q = omega (arith, p.least e q.walk, q.least d p.walk)

  first_step : {t g d : ℕ} → Walk Goes t g (suc d) → ((k : ℕ) → Walk Goes t g k → suc d ≤ k) → (u : ℕ) × Goes t u × Shortest Goes u g d
  first_step (step {b = b} j w) least = (b, j, record { walk = w; least = λ k v. omega (arith, least (suc k) (step j v)) })

  -- a shortest walk goes on with a shortest walk
  pub shortest_step : {t g d : ℕ} → Shortest Goes t g (suc d) → (u : ℕ) × Goes t u × Shortest Goes u g d
  shortest_step s = first_step s.walk s.least

  -- a tile k steps on, with i steps left
  tile_at : (k i d : ℕ) {t g : ℕ} → d ≡ k + i → Shortest Goes t g d → (u : ℕ) × Shortest Goes u g i
  tile_at zero i d {t} {g} e s = (t, subst (λ m. Shortest Goes t g m) (omega arith) s)
  tile_at (suc k) i d {t} {g} e s =
      let more : d ≡ suc (k + i) = omega arith in
      tile_at k i (k + i) refl (shortest_step (subst (λ m. Shortest Goes t g m) more s)).2

module _ {P Q : ℕ → ℕ → Type 0} (to : (a b : ℕ) → P a b → Q a b) where
  pub walk_along : {a b k : ℕ} → Walk P a b k → Walk Q a b k
  walk_along stay = stay
  walk_along {a} (step {b = b} j w) = step (to a b j) (walk_along w)

pub shortest_along : {P Q : ℕ → ℕ → Type 0} → ((a b : ℕ) → P a b → Q a b) → ((a b : ℕ) → Q a b → P a b) → {t g d : ℕ} → Shortest P t g d → Shortest Q t g d
shortest_along to from s = record { walk = walk_along to s.walk; least = λ k w. s.least k (walk_along from w) }

-- a tile is in the list or one step from it
pub near_decides : (joins : ℕ → ℕ → Bool) (n : ℕ) (near : List ℕ) (t : ℕ)
    → Decides (is_among t (one_step_more joins n near)) ((t < n) × ((u : ℕ) × (is_among u near ≡ true) × ((t ≡ u) ⊎ By joins t u)))
near_decides joins n near t =
    let test : ℕ → ℕ → Bool = λ t u. eqb t u || joins t u in
    let tests : (u : ℕ) → Decides (test t u) ((t ≡ u) ⊎ By joins t u) = λ u. Decides-or (eqb t u) (joins t u) (Decides-eqb t u) (decides_itself (joins t u)) in
    let found = some_among (test t) near in
    Decides-like (is_among t (one_step_more joins n near))
    (λ h. let r = found.0 h.1 in (h.0, (r.0, r.1, (tests r.0).0 r.2)))
    (λ h. (h.0, found.1 (h.1.0, h.1.1, (tests h.1.0).1 h.1.2)))
    (those_among (λ t. list_any (test t) near) n t)

pub within_sound : (joins : ℕ → ℕ → Bool) (n g k t : ℕ) → is_among t (within joins n g k) ≡ true → (m : ℕ) × (m ≤ k) × Walk (By joins) t g m
unfolding within
within_sound joins n g zero t e =
    ⊎_elim (λ h. (0, omega arith, subst (λ x. Walk (By joins) x g zero) (sym (eqb-true t g h)) stay)) (λ h. absurd (false≢true h)) (or_cases (eqb t g) false e)
within_sound joins n g (suc k) t e =
    let at = ((near_decides joins n (within joins n g k) t).0 e).1 in
    let r = within_sound joins n g k at.0 at.1 in
    ⊎_elim (λ same. (r.0, omega (arith, r.1), subst (λ x. Walk (By joins) x g r.0) (sym same) r.2)) (λ j. (suc r.0, omega (arith, r.1), step j r.2))
    at.2

module _ (joins : ℕ → ℕ → Bool) (n : ℕ) (inside : (a b : ℕ) → joins a b ≡ true → (a < n) × (b < n)) where
  pub start_below : {t g m : ℕ} → g < n → Walk (By joins) t g m → t < n
  start_below l stay = l
  start_below {t} l (step {b = b} j w) = (inside t b j).0

  pub within_complete : (g k t m : ℕ) → g < n → m ≤ k → Walk (By joins) t g m → is_among t (within joins n g k) ≡ true
  unfolding within
  within_complete g zero t m lg l stay = or_left (eqb t t) false (eq-eqb t t refl)
  within_complete g zero t m lg l (step j w) = absurd (omega arith)
  within_complete g (suc k) t m lg l stay = (near_decides joins n (within joins n t k) t).1 (lg, (t, within_complete t k t 0 lg (omega arith) stay, inl refl))
  within_complete g (suc k) t m lg l (step {b = b} {k = i} j w) =
      (near_decides joins n (within joins n g k) t).1 ((inside t b j).0, (b, within_complete g k b i lg (omega arith) w, inr j))

  -- The tiles at 0, 1 .. d steps from g are different.
  pub shortest_small : (t g d : ℕ) → g < n → Shortest (By joins) t g d → d < n
  shortest_small t g d lg s =
      let at : (i : ℕ) → (u : ℕ) × Shortest (By joins) u g (min i d) = λ i. tile_at (d - min i d) (min i d) d (omega arith) s in
      pigeons n (suc d) (λ i. (at i).0) (λ i l. start_below lg (at i).1.walk)
      (λ i j l h e. omega (arith, shortest_once (at i).1 (subst (λ u. Shortest (By joins) u g (min j d)) (sym e) (at j).1)))

  within_least : (t g d : ℕ) → g < n → Least (λ k. is_among t (within joins n g k)) d → Shortest (By joins) t g d
  within_least t g d lg h =
      let r = within_sound joins n g d t h.passes in
      let as_long : r.0 ≡ d = omega (arith, r.1, h.least r.0 (within_complete g r.0 t r.0 lg (omega arith) r.2)) in
      record { walk = subst (λ k. Walk (By joins) t g k) as_long r.2; least = λ k w. h.least k (within_complete g k t k lg (omega arith) w) }

  -- the search for the least k that is enough
  pub shortest_exists : (t g m : ℕ) → g < n → Walk (By joins) t g m → (d : ℕ) × Shortest (By joins) t g d
  shortest_exists t g m lg w =
      let r = least_passing (λ k. is_among t (within joins n g k)) m (within_complete g m t m lg (omega arith) w) in
      (r.0, within_least t g r.0 lg r.1)

  -- the numbers of steps that are too few are those below d
  too_few : (t g d k : ℕ) → g < n → Shortest (By joins) t g d → Decides (not (is_among t (within joins n g k))) (k < d)
  too_few t g d k lg s = Decides-like (not (is_among t (within joins n g k)))
      (λ never. ⊎_elim (λ l. l) (λ l. absurd (never l)) (cases_lt k d)) (λ l h. omega arith)
      (Decides-not (is_among t (within joins n g k))
      (λ e. let r = within_sound joins n g k t e in omega (arith, r.1, s.least r.0 r.2), λ l. within_complete g k t d lg l s.walk))

  pub distance_is : (t g d : ℕ) → g < n → Shortest (By joins) t g d → distance joins n t g ≡ d
  unfolding distance
  distance_is t g d lg s = length-those-below (λ k. not (is_among t (within joins n g k))) d n (omega (arith, shortest_small t g d lg s)) (λ k. too_few t g d k lg s)

  pub distance_shortest : (t g m : ℕ) → g < n → Walk (By joins) t g m → Shortest (By joins) t g (distance joins n t g) × (distance joins n t g < n)
  distance_shortest t g m lg w =
      let r = shortest_exists t g m lg w in
      let same = distance_is t g r.0 lg r.1 in
      (subst (λ k. Shortest (By joins) t g k) (sym same) r.1, omega (arith, shortest_small t g r.0 lg r.1))

  pub comes_to_decides : (t g : ℕ) → g < n → Decides (comes_to joins n t g) ((k : ℕ) × Walk (By joins) t g k)
  comes_to_decides t g lg = (
    λ e. let r = within_sound joins n g n t e in (r.0, r.2),
    λ h. let r = shortest_exists t g h.0 lg h.1 in within_complete g n t r.0 lg (omega (arith, shortest_small t g r.0 lg r.1)) r.1.walk,
  )
