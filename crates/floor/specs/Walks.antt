-- Walks from tile to joined tile, shortest walks, and how their steps are counted.
use Rattle.std.specs.Prelude.{◌≡◌, ℕ, zero, suc, ◌≤◌, Bool, true, not, ◌||◌, List, [], ◌∷◌, length, ◌==◌}
use Rattle.std.specs.List.{list_any}
use Rattle.base.specs.Lists.{below, those, is_among}

-- a walk of so many steps from a to b, where `Goes a b` says that one may go from a to b in one step
pub data Walk (Goes : ℕ → ℕ → Type 0) : ℕ → ℕ → ℕ → Type 0 where
  stay : {a : ℕ} → Walk Goes a a zero
  step : {a b c k : ℕ} → Goes a b → Walk Goes b c k → Walk Goes a c (suc k)

-- some walk from t to g has d steps, and none has fewer
pub record Shortest (Goes : ℕ → ℕ → Type 0) (t g d : ℕ) : Type 0 where
  pub walk : Walk Goes t g d
  pub least : (k : ℕ) → Walk Goes t g k → d ≤ k

-- one may go from a to b where the test passes
abbrev pub By : (ℕ → ℕ → Bool) → ℕ → ℕ → Type 0
By joins a b = joins a b ≡ true

-- of n tiles, those that are in `near` or from which one may go to a tile of it, ascending
abbrev pub one_step_more : (ℕ → ℕ → Bool) → ℕ → List ℕ → List ℕ
one_step_more joins n near = those (λ t. list_any (λ u. (t == u) || joins t u) near) (below n)

-- of n tiles, those from which one comes to g in at most so many steps
unfoldable pub within : (ℕ → ℕ → Bool) → ℕ → ℕ → ℕ → List ℕ
within joins n g zero = g ∷ []
within joins n g (suc k) = one_step_more joins n (within joins n g k)

-- whether some walk leads from t to g: n tiles leave no walk that needs more than n steps
abbrev pub comes_to : (ℕ → ℕ → Bool) → ℕ → ℕ → ℕ → Bool
comes_to joins n t g = is_among t (within joins n g n)

-- the steps of a shortest walk from t to g: how many of the numbers 0, 1, 2 .. are too few steps
unfoldable pub distance : (ℕ → ℕ → Bool) → ℕ → ℕ → ℕ → ℕ
distance joins n t g = length (those (λ k. not (is_among t (within joins n g k))) (below n))
