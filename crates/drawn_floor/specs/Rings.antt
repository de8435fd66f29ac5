-- The ring of three tiles with which a drawn floor begins.
use Rattle.std.specs.Prelude.{ℕ, List, [], ◌∷◌}

abbrev pub ring_links : List ℕ
ring_links = 0 ∷ 1 ∷ 1 ∷ 2 ∷ 0 ∷ 2 ∷ []

-- each tile is one step from the two others
abbrev pub ring_pulls : List ℕ
ring_pulls = 0 ∷ 1 ∷ 1 ∷ 1 ∷ 0 ∷ 1 ∷ 1 ∷ 1 ∷ 0 ∷ []
