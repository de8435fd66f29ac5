-- Which of several tests refuses first: where all pass, and what tests that follow change.
use Rattle.std.proofs.Common.{◌≡◌, ℕ, Bool, true, false, ◌⊎◌, List, [], ◌∷◌, ◌++◌, IfSome, IfOk, Some, None, Option, refl, inl, inr, MatchOption}
use Rattle.std.specs.Option.{ok_or}
use Rattle.std.specs.Result.{result_err}
use Rattle.std.specs.List.{AllByRecursion as All}
use Rattle.base.specs.Refusals.{first_refusal, refusal_number}
use Rattle.base.specs.declared.refusal.Refusal.{Refusal}

pub some_not_none : {X : Type 0} {x : X} {o : Option X} → o ≡ Some x → o ≡ None → ⊥
some_not_none p q = cc

pub cases_option : {X : Type 0} (o : Option X) → (o ≡ None) ⊎ ((x : X) × (o ≡ Some x))
cases_option None = inl refl
cases_option (Some x) = inr (x, refl)

pub passed_first : (b : Bool) (r : Refusal) (rest : List (Bool × Refusal)) → first_refusal ((b, r) ∷ rest) ≡ None → (b ≡ false) × (first_refusal rest ≡ None)
passed_first true r rest e = cc
passed_first false r rest e = (refl, e)

pub passed_all : (xs : List (Bool × Refusal)) → first_refusal xs ≡ None → All (λ x. x.0 ≡ false) xs
passed_all [] e = tt
passed_all ((b, r) ∷ xs) e = let h = passed_first b r xs e in (h.0, passed_all xs h.1)

pub all_passed : (xs : List (Bool × Refusal)) → All (λ x. x.0 ≡ false) xs → first_refusal xs ≡ None
all_passed [] h = refl
all_passed ((b, r) ∷ xs) h = rw (h.0, first_refusal) (all_passed xs h.1)

pub passed_on : (xs ys : List (Bool × Refusal)) → first_refusal xs ≡ None → first_refusal (xs ++ ys) ≡ first_refusal ys
passed_on [] ys e = refl
passed_on ((true, r) ∷ xs) ys e = cc
passed_on ((false, r) ∷ xs) ys e = passed_on xs ys e

pub refused_on : (xs ys : List (Bool × Refusal)) (r : Refusal) → first_refusal xs ≡ Some r → first_refusal (xs ++ ys) ≡ Some r
refused_on [] ys r e = cc
refused_on ((true, q) ∷ xs) ys r e = e
refused_on ((false, q) ∷ xs) ys r e = refused_on xs ys r e

pub passed_both : (xs ys : List (Bool × Refusal)) → first_refusal (xs ++ ys) ≡ None → (first_refusal xs ≡ None) × (first_refusal ys ≡ None)
passed_both [] ys e = (refl, e)
passed_both ((true, r) ∷ xs) ys e = cc
passed_both ((false, r) ∷ xs) ys e = passed_both xs ys e

-- the number of the refusal given is that of a test
pub number_given : (P : ℕ → Type 0) (xs : List (Bool × Refusal)) (r : Refusal) → All (λ x. P (refusal_number x.1)) xs → first_refusal xs ≡ Some r → P (refusal_number r)
number_given P [] r all e = absurd cc
number_given P ((true, q) ∷ xs) r all e = let s : q ≡ r = cc in rw s at all.0
number_given P ((false, q) ∷ xs) r all e = number_given P xs r all.1 e

-- a value that may be missing, refused where it is
pub refused_by : {X : Type 0} (o : Option X) (b : Bool) (r : Refusal) → MatchOption o (b ≡ true) (λ _. b ≡ false) → result_err (ok_or o r) ≡ first_refusal ((b, r) ∷ [])
refused_by None b r e = rw (e, first_refusal)
refused_by (Some x) b r e = rw (e, first_refusal)

pub made_of : {X : Type 0} (o : Option X) (r : Refusal) (P : X → Type 0) → IfSome o P → IfOk (ok_or o r) P
made_of None r P h = tt
made_of (Some x) r P h = h

pub cases_map : {X : Type 0} {P Q : X → Type 0} (o : Option X) → ((x : X) → P x → Q x) → IfSome o P → IfSome o Q
cases_map None f h = tt
cases_map (Some x) f h = f x h
