-- The survey of a drawn floor: its tests, in their order, and the distances that it writes.
use Rattle.std.specs.Prelude.{ℕ, ◌*◌, ◌/◌, ◌%◌, Bool, false, not, ◌&&◌, ◌||◌, ltb, List, [], ◌∷◌, ◌++◌, map, length, drop, Some, None, Option, ◌==◌, nat_eq, nat_le, nat_lt}
use Rattle.std.specs.List.{list_any}
use Rattle.base.specs.Lists.{below}
use Rattle.base.specs.Refusals.{first_refusal}
use Rattle.base.specs.declared.refusal.Refusal.{Refusal}
use Rattle.base.specs.declared.refusal.Refusal.TheVariants.{Size, Ragged, Stranger, SelfPair, Twice, Crowded, Split, Neck, ShortList}
use Rattle.floor.specs.Links.{pairs_of, joins_two, linked, linked_to}
use Rattle.floor.specs.Walks.{comes_to, distance}

-- a pair names a tile that is not below n
abbrev pub names_stranger : ℕ → List (ℕ × ℕ) → Bool
names_stranger n ps = list_any (λ p. nat_le n p.0 || nat_le n p.1) ps

-- a pair names one tile twice
abbrev pub names_itself : List (ℕ × ℕ) → Bool
names_itself ps = list_any (λ p. nat_eq p.0 p.1) ps

-- two pairs join the same tiles
abbrev pub joins_again : List (ℕ × ℕ) → Bool
joins_again [] = false
joins_again (p ∷ ps) = linked ps p.0 p.1 || joins_again ps

-- a tile has more than six joined tiles
abbrev pub is_crowded : ℕ → List (ℕ × ℕ) → Bool
is_crowded n ps = list_any (λ t. ltb 6 (length (linked_to n ps t))) (below n)

-- a tile has no walk to tile 0
abbrev pub is_split : ℕ → List (ℕ × ℕ) → Bool
is_split n ps = list_any (λ t. not (comes_to (linked ps) n t 0)) (below n)

-- two tiles are joined, and not by the pair p
abbrev pub linked_without : List (ℕ × ℕ) → ℕ × ℕ → ℕ → ℕ → Bool
linked_without ps p a b = linked ps a b && not (joins_two p a b)

-- A pair is in a ring where another way leads from one of its tiles to the other.
abbrev pub is_in_ring : ℕ → List (ℕ × ℕ) → ℕ × ℕ → Bool
is_in_ring n ps p = comes_to (linked_without ps p) n p.0 p.1

-- a joined pair is in no ring
abbrev pub has_neck : ℕ → List (ℕ × ℕ) → Bool
has_neck n ps = list_any (λ p. not (is_in_ring n ps p)) ps

-- the tests of the links alone
abbrev pub link_tests : ℕ → List ℕ → List (Bool × Refusal)
link_tests n links =
    (nat_lt n 3 || nat_lt 255 n, Size)
    ∷ ((length links % 2 == 1), Ragged)
    ∷ (names_stranger n (pairs_of links), Stranger)
    ∷ (names_itself (pairs_of links), SelfPair)
    ∷ (joins_again (pairs_of links), Twice)
    ∷ (is_crowded n (pairs_of links), Crowded)
    ∷ []

-- the tests that follow walks
abbrev pub walk_tests : ℕ → List ℕ → List (Bool × Refusal)
walk_tests n links = (is_split n (pairs_of links), Split) ∷ (has_neck n (pairs_of links), Neck) ∷ []

-- Why n tiles with these links are no floor, if they are none.
abbrev pub drawing_refusal : ℕ → List ℕ → Option Refusal
drawing_refusal n links = first_refusal (link_tests n links ++ walk_tests n links)

-- Why a survey is refused that is handed a list of so many places.
abbrev pub survey_refusal : ℕ → List ℕ → ℕ → Option Refusal
survey_refusal n links places = first_refusal (link_tests n links ++ (walk_tests n links ++ ((nat_lt places (n * n), ShortList) ∷ [])))

-- place g * n + t holds the steps of a shortest walk from t to g
abbrev pub distances : ℕ → List ℕ → List ℕ
distances n links = map (λ i. distance (linked (pairs_of links)) n (i % n) (i / n)) (below (n * n))

-- the list after a survey: the distances if it is granted, with the places beyond them as they were
abbrev pub after_survey : ℕ → List ℕ → List ℕ → List ℕ
after_survey n links before = elim (survey_refusal n links (length before)) [ None ↦ distances n links ++ drop (n * n) before | Some r ↦ before ]
