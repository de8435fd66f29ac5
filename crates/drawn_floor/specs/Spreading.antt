-- How a search spreads: it meets tiles that it has not met before, layer by layer.
use Rattle.std.specs.Prelude.{◌≡◌, ℕ, ◌+◌, ◌<◌, ◌≤◌, ◌⊎◌, List, [], ◌∷◌, ◌++◌, drop, length, replicate, Some, None, Option, IsSome, slice_index, slice_index_or}
use Rattle.floor.specs.Walks.{Walk, Shortest}
use Rattle.drawn_floor.specs.declared.search.Search.{Search}

-- how many tiles a search has not met
abbrev pub unmet : List (Option ℕ) → ℕ
unmet [] = 0
unmet (None ∷ os) = 1 + unmet os
unmet (Some d ∷ os) = unmet os

-- the steps of the tile t; none where the search has not met it
abbrev pub steps_of : List (Option ℕ) → ℕ → Option ℕ
steps_of steps t = slice_index_or steps t None

-- From `before` to `after` all tiles that `Next` names are met. Those of them that were not met before are d steps from
-- the goal and stand in `added`.
pub record Spreads (Next : ℕ → Type 0) (d : ℕ) (before after : List (Option ℕ)) (added : List ℕ) : Type 0 where
  pub long : length after ≡ length before
  pub kept : (u e : ℕ) → steps_of before u ≡ Some e → steps_of after u ≡ Some e
  pub new : (u e : ℕ) → steps_of after u ≡ Some e → (steps_of before u ≡ Some e) ⊎ ((steps_of before u ≡ None) × (e ≡ d) × Next u)
  pub all : (u : ℕ) → Next u → IsSome (steps_of after u)
  pub listed : (i : ℕ) → i < length added → (steps_of before (slice_index added i) ≡ None) × (steps_of after (slice_index added i) ≡ Some d)
  pub back : (u e : ℕ) → steps_of before u ≡ None → steps_of after u ≡ Some e → (i : ℕ) × (i < length added) × (slice_index added i ≡ u)
  pub count : unmet after + length added ≡ unmet before

-- the tiles that a search met last
abbrev pub layer_of : Search → List ℕ
layer_of s = drop s.nearer s.met.items

-- the search has met no tile
abbrev pub IsNew : Search → Type 0
IsNew s = (s.steps ≡ replicate 256 None) × (s.met.items ≡ []) × (s.nearer ≡ 0) × (s.far ≡ 0)

-- From s to t a search meets all tiles that `Next` names, and adds those that are new to its layer.
abbrev pub Meets : (ℕ → Type 0) → Search → Search → Type 0
Meets Next s t = (t.far ≡ s.far) × (t.nearer ≡ s.nearer) × ((added : List ℕ) × (t.met.items ≡ s.met.items ++ added) × Spreads Next s.far s.steps t.steps added)

-- the list of met tiles has room for each tile that is not met
abbrev pub HasRoom : Search → Type 0
HasRoom s = unmet s.steps + length s.met.items ≤ 256

-- a tile from which one comes to a tile of the layer in one step
abbrev pub Behind : (ℕ → ℕ → Type 0) → List ℕ → ℕ → Type 0
Behind Goes layer u = (i : ℕ) × (i < length layer) × Goes u (slice_index layer i)

-- The search has met each tile from which a walk of at most `far` steps leads to g, and no other. The tiles of its layer
-- are those that are `far` steps from g.
pub record Layered (Goes : ℕ → ℕ → Type 0) (g : ℕ) (s : Search) : Type 0 where
  pub long : length s.steps ≡ 256
  pub met : (t e : ℕ) → steps_of s.steps t ≡ Some e → Shortest Goes t g e × (e ≤ s.far)
  pub near : (t k : ℕ) → Walk Goes t g k → k ≤ s.far → IsSome (steps_of s.steps t)
  pub back : (t : ℕ) → steps_of s.steps t ≡ Some s.far → (i : ℕ) × (i < length (layer_of s)) × (slice_index (layer_of s) i ≡ t)
  pub listed : (i : ℕ) → i < length (layer_of s) → steps_of s.steps (slice_index (layer_of s) i) ≡ Some s.far
  -- so many tiles can still be met
  pub few : s.far + (unmet s.steps + length (layer_of s)) ≤ 256
  -- and the list of met tiles has room for them
  pub room : HasRoom s
  -- the layer is a part of that list
  pub within : s.nearer ≤ length s.met.items
