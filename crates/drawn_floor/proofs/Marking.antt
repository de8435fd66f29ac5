-- Marks for the tiles that pairs join, one pair after the other.
use Rattle.std.proofs.Common.{◌≡◌, ℕ, ◌<◌, Bool, true, false, ◌&&◌, ◌||◌, eqb, List, [], ◌∷◌, ◌++◌, length, get_or, set, replicate, sym, refl, ap, ◌∙◌, inl, inr, arith}
use Rattle.std.proofs.Math.Bool.{or-false, or-true, or_assoc}
use Rattle.std.proofs.lemmas.List.{get_or-set_same, get_or-set_other, append_assoc}
use Rattle.std.proofs.lemmas.Bool.{or_cases, or_left, or_right, or_parts, cases_eq, true≢false}
use Rattle.std.proofs.lemmas.Bool.Decides.{nat_tests}
use Rattle.base.specs.Lists.{below, those}
use Rattle.floor.specs.Links.{joins_two, linked, linked_to}
use Rattle.floor.specs.Survey.{joins_again}
use Rattle.drawn_floor.specs.Marks.{marked, Marked, marked_to}
use Rattle.drawn_floor.proofs.Tabling.{same_rows}

-- one place of a row is set
row_set : (row : List Bool) (b y : ℕ) → b < length row → get_or (set row b true) y false ≡ (get_or row y false || eqb b y)
row_set row b y lb = elim (cases_eq y b)
    [ inl e ↦ grind (arith, nat_tests, get_or-set_same row b true false lb, or-true) | inr n ↦ grind (arith, nat_tests, get_or-set_other row b y true false n, or-false) ]

-- one place of one row is set
pub marked_set : (marks : List (List Bool)) (a b : ℕ) → a < length marks → b < length (get_or marks a []) → (x y : ℕ)
    → marked (set marks a (set (get_or marks a []) b true)) x y ≡ (marked marks x y || (eqb a x && eqb b y))
marked_set marks a b la lb x y =
    let row = set (get_or marks a []) b true in
    elim (cases_eq x a) [
      | inl e ↦ grind (arith, nat_tests, get_or-set_same marks a row [] la, row_set (get_or marks a []) b y lb)
      | inr n ↦ grind (arith, nat_tests, get_or-set_other marks a x row [] n, or-false)
    ]

linked_push : (ps : List (ℕ × ℕ)) (p : ℕ × ℕ) (a b : ℕ) → linked (ps ++ p ∷ []) a b ≡ (linked ps a b || joins_two p a b)
linked_push [] p a b = or-false (joins_two p a b)
linked_push (q ∷ qs) p a b = ap (λ r. joins_two q a b || r) (linked_push qs p a b) ∙ sym (or_assoc (joins_two q a b) (linked qs a b) (joins_two p a b))

-- two pairs join the same tiles whichever is asked of the other
same_two : (p q : ℕ × ℕ) → joins_two p q.0 q.1 ≡ joins_two q p.0 p.1
same_two p q = grind (arith, nat_tests)

-- a pair after others that join no tiles twice
again_push : (ps : List (ℕ × ℕ)) (p : ℕ × ℕ) → joins_again ps ≡ false → joins_again (ps ++ p ∷ []) ≡ linked ps p.0 p.1
again_push [] p e = refl
again_push (q ∷ qs) p e =
    let old = or_parts (linked qs q.0 q.1) (joins_again qs) e in
    let first : linked (qs ++ p ∷ []) q.0 q.1 ≡ joins_two q p.0 p.1 =
    linked_push qs p q.0 q.1 ∙ ap (λ r. r || joins_two p q.0 q.1) old.0 ∙ same_two p q in
    ap (λ r. r || joins_again (qs ++ p ∷ [])) first ∙ ap (λ r. joins_two q p.0 p.1 || r) (again_push qs p old.1)

linked_more : (ps more : List (ℕ × ℕ)) (a b : ℕ) → linked ps a b ≡ true → linked (ps ++ more) a b ≡ true
linked_more [] more a b e = absurd (true≢false (sym e))
linked_more (q ∷ qs) more a b e = elim (or_cases (joins_two q a b) (linked qs a b) e)
    [ inl here ↦ or_left (joins_two q a b) _ here | inr later ↦ or_right (joins_two q a b) _ (linked_more qs more a b later) ]

again_more : (ps more : List (ℕ × ℕ)) → joins_again ps ≡ true → joins_again (ps ++ more) ≡ true
again_more [] more e = absurd (true≢false (sym e))
again_more (q ∷ qs) more e = elim (or_cases (linked qs q.0 q.1) (joins_again qs) e) [
  | inl here ↦ or_left (linked (qs ++ more) q.0 q.1) _ (linked_more qs more q.0 q.1 here)
  | inr later ↦ or_right (linked (qs ++ more) q.0 q.1) _ (again_more qs more later)
]

-- Of all pairs those that were met are marked, no two of them join the same tiles, and these are left.
pub record Marking (all met left : List (ℕ × ℕ)) (marks : List (List Bool)) : Type 0 where
  pub whole : met ++ left ≡ all
  pub once : joins_again met ≡ false
  pub here : Marked met marks

pub marking_start : (all left : List (ℕ × ℕ)) (marks : List (List Bool)) → left ≡ all → Marked [] marks → Marking all [] left marks
marking_start all left marks e none = record { whole = e; once = refl; here = none }

-- nothing is marked yet
pub unmarked : (m n : ℕ) → Marked [] (replicate m (replicate n false))
unmarked m n = same_rows m n false

module _ {all met left : List (ℕ × ℕ)} {marks : List (List Bool)} (so_far : Marking all met left marks) where
  module _ (p : ℕ × ℕ) (rest : List (ℕ × ℕ)) (next : left ≡ p ∷ rest) where
    with_next : (met ++ p ∷ []) ++ rest ≡ all
    with_next = append_assoc met (p ∷ []) rest ∙ ap (λ more. met ++ more) (sym next) ∙ so_far.whole

    again_next : joins_again (met ++ p ∷ []) ≡ marked marks p.0 p.1
    again_next = again_push met p so_far.once ∙ sym (so_far.here p.0 p.1)

    pub marking_met : marked marks p.0 p.1 ≡ true → joins_again all ≡ true
    marking_met e = ap joins_again (sym with_next) ∙ again_more (met ++ p ∷ []) rest (again_next ∙ e)

    pub marking_more : (after : List (List Bool)) → marked marks p.0 p.1 ≡ false → ((x y : ℕ) → marked after x y ≡ (marked marks x y || joins_two p x y))
        → Marking all (met ++ p ∷ []) rest after
    marking_more after e added = record {
      whole = with_next;
      once = again_next ∙ e;
      here = λ x y. added x y ∙ ap (λ b. b || joins_two p x y) (so_far.here x y) ∙ sym (linked_push met p x y);
    }

-- the tiles that are marked are those that the pairs join
pub marked_linked : (n : ℕ) (ps : List (ℕ × ℕ)) (marks : List (List Bool)) → Marked ps marks → marked_to n marks ≡ linked_to n ps
marked_linked n ps marks is = λ i t. those (λ u. is t u i) (below n)
