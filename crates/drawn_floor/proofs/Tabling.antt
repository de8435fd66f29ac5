-- A row of joined tiles, filled tile by tile, and the table of such rows.
use Rattle.std.proofs.Common.{◌≡◌, ℕ, zero, suc, ◌+◌, ◌<◌, ◌≤◌, Bool, eqb, List, [], length, get_or, set, replicate, Some, None, Option, sym, refl, ap, ◌∙◌, inl, inr, arith}
use Rattle.std.specs.Array.{IsFromFnResultFrom, IsFromFnResult}
use Rattle.std.specs.Fn.{Called}
use Rattle.std.specs.List.{slice_get}
use Rattle.std.proofs.lemmas.List.{get_or-set_same, get_or-set_other, get_or-replicate, get_or_past, length-replicate}
use Rattle.std.proofs.lemmas.Option.{slice_get_past, slice_get_within, get_or_from_slice_get}
use Rattle.std.proofs.lemmas.Bool.{cases_eq, cases_lt, eq-eqb}
use denote.Param.Members.{Mut}
use Rattle.base.specs.Lists.{below, those}
use Rattle.base.proofs.Numbers.{some_in, those_among}
use Rattle.drawn_floor.specs.Tables.{at_place, IsBare, Rowed, SixPlaces, Tabled}

-- a closure that computes h and stays as it is gave h of each index
module _ {F B : Type 0} (g : Mut F (ℕ × Unit {0}) B) (h : ℕ → B) (f : F) (computes : (i : ℕ) (y : B) (q : F) → Called g f (i, tt) y q → (q ≡ f) × (y ≡ h i)) (ys : List B) where
  from_fn_from : (p : F) (i n k : ℕ) (d : B) → p ≡ f → IsFromFnResultFrom g p ys i n → i ≤ k → k < i + n → get_or ys k d ≡ h k
  from_fn_from p i zero k d same r low high = absurd (omega arith)
  from_fn_from p i (suc n) k d same (q, y, element, called, rest) low high =
      let now = computes i y q (rw same at called) in
      elim (cases_eq k i) [
        | inl e ↦ ap (λ j. get_or ys j d) e ∙ element.1 d ∙ now.1 ∙ ap h (sym e)
        | inr differs ↦ from_fn_from q (i + 1) n k d now.0 rest (omega arith) (omega arith)
      ]

  pub from_fn_at : (n k : ℕ) (d : B) → IsFromFnResult g f ys n → k < n → get_or ys k d ≡ h k
  from_fn_at n k d r l = from_fn_from f 0 n k d refl r.each (omega arith) (omega arith)

pub rowed : (us : List ℕ) (row : List (Option ℕ)) → length row ≡ 6 → length us ≤ 6 → ((k : ℕ) → k < 6 → get_or row k None ≡ slice_get us k) → Rowed us row
rowed us row long few same = (
  long,
  λ k. elim (cases_lt k 6) [
    | inl l ↦ same k l
    | inr l ↦ get_or_past row k None (omega arith) ∙ sym (slice_get_past us k (omega arith))
  ],
)

one_value : {X : Type 0} (n i : ℕ) (d : X) → get_or (replicate n d) i d ≡ d
one_value n i d = elim (cases_lt i n) [ inl l ↦ get_or-replicate n i d d l | inr l ↦ get_or_past (replicate n d) i d (omega (arith, length-replicate n d)) ]

-- rows that hold one value alone, also past their ends
pub same_rows : {X : Type 0} (m n : ℕ) (d : X) (a b : ℕ) → get_or (get_or (replicate m (replicate n d)) a []) b d ≡ d
same_rows m n d a b = elim (cases_lt a m) [
  | inl l ↦ ap (λ row. get_or row b d) (get_or-replicate m a (replicate n d) [] l) ∙ one_value n b d
  | inr l ↦ ap (λ row. get_or row b d) (get_or_past (replicate m (replicate n d)) a [] (omega (arith, length-replicate m (replicate n d))))
]

-- nothing is listed yet
pub tabled_none : (joined_to : ℕ → List ℕ) (tiles : List (List (Option ℕ))) → IsBare tiles → Tabled 0 joined_to tiles
tabled_none joined_to tiles bare = (λ t k l. absurd (omega arith), λ t k l. bare t k)

pub six_none : SixPlaces (replicate 256 (replicate 6 None))
six_none t l = ap length (get_or-replicate 256 t (replicate 6 None) [] l) ∙ length-replicate {A = Option ℕ} 6 None

-- what passes a test among the tiles below n is below n
those_fit : (test : ℕ → Bool) (n k u : ℕ) → slice_get (those test (below n)) k ≡ Some u → u < n
those_fit test n k u is =
    let us = those test (below n) in
    let among = (some_in (eqb u) us 0).1 (k, slice_get_within us k u is, eq-eqb u (get_or us k 0) (sym (get_or_from_slice_get us k u 0 is))) in
    ((those_among test n u).0 among).0

-- one row of the table is written
module _ (tiles : List (List (Option ℕ))) (i : ℕ) (row : List (Option ℕ)) (within : i < length tiles) where
  pub six_set : length row ≡ 6 → SixPlaces tiles → SixPlaces (set tiles i row)
  six_set six old t l = elim (cases_eq t i) [
    | inl is ↦ ap (λ j. length (get_or (set tiles i row) j [])) is ∙ ap length (get_or-set_same tiles i row [] within) ∙ six
    | inr ne ↦ ap length (get_or-set_other tiles i t row [] ne) ∙ old t l
  ]

  pub below_set : (n : ℕ) (test : ℕ → Bool) → Rowed (those test (below n)) row → ((t k u : ℕ) → at_place tiles t k ≡ Some u → u < n) → (t k u : ℕ) → at_place (set tiles i row) t k ≡ Some u → u < n
  below_set n test listed old t k u e = elim (cases_eq t i) [
    | inl is ↦ those_fit test n k u (sym (ap (λ j. at_place (set tiles i row) j k) is ∙ ap (λ r. get_or r k None) (get_or-set_same tiles i row [] within) ∙ listed.1 k) ∙ e)
    | inr ne ↦ old t k u (sym (ap (λ r. get_or r k None) (get_or-set_other tiles i t row [] ne)) ∙ e)
  ]
