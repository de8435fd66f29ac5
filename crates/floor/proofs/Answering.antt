-- What a floor that keeps the laws answers: at places that no tile has, and of pulls.
use Rattle.std.proofs.Common.{◌≡◌, ℕ, ◌≤◌, true, false, ltb, [], length, Some, None, Option, sym, ap, inl, inr, arith}
use Rattle.std.proofs.lemmas.Bool.{and_from, cases_lt, lt-ltb}
use Rattle.base.proofs.Ascending.{those-below}
use Rattle.floor.specs.Floors.{FloorModel, Laws, IsTile, Joined, joined_to, pull_between}

module _ (floor : FloorModel) where
  module _ (only : (a b : ℕ) → Joined floor a b → IsTile floor a × IsTile floor b) where
    -- nothing is joined to what is no tile
    pub none_joined : (t : ℕ) → floor.size ≤ t → joined_to floor t ≡ []
    unfolding joined_to
    none_joined t l = those-below (floor.joined t) floor.size [] tt tt (λ u k e. absurd (omega (arith, (only t u e).0)))

    -- so it is enough to count at each tile
    pub six_from_tiles : ((t : ℕ) → IsTile floor t → length (joined_to floor t) ≤ 6) → (t : ℕ) → length (joined_to floor t) ≤ 6
    six_from_tiles on t = elim (cases_lt t floor.size) [ inl l ↦ on t l | inr l ↦ omega (arith, ap length (none_joined t l)) ]

  pub joined_none : Laws floor → (t : ℕ) → floor.size ≤ t → joined_to floor t ≡ []
  joined_none laws = none_joined laws.tiles_only

  pub pull_known : (t g : ℕ) → IsTile floor t → IsTile floor g → Some (floor.pull t g) ≡ pull_between floor t g
  pull_known t g lt lg = sym (ap (λ b. elim b as (λ x. Option ℕ) [ true ↦ Some (floor.pull t g) | false ↦ None ]) (and_from (ltb t floor.size) (ltb g floor.size) (lt-ltb t floor.size lt) (lt-ltb g floor.size lg)))
