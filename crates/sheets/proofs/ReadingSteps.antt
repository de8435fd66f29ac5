-- A sheet read field by field.
use Rattle.std.proofs.Common.{◌≡◌, ℕ, zero, suc, ◌+◌, ◌-◌, ◌*◌, ◌<◌, ◌≤◌, Bool, true, false, leb, List, [], ◌∷◌, length, take, drop, Some, None, Ok, Err, Option, Result, sym, refl, ap, ◌∙◌, arith, length-drop, Bor}
use Rattle.std.specs.Prelude.{◌==◌}
use Rattle.std.proofs.lemmas.Bool.{le-leb, eqb-true, eqb-false}
use Rattle.base.specs.declared.refusal.Refusal.{Refusal}
use Rattle.base.specs.declared.refusal.Refusal.TheVariants.{Cut, Long}
use Rattle.sheets.specs.declared.awaited.Awaited.{Awaited}
use Rattle.sheets.specs.declared.awaited.Awaited.TheVariants.{Floor, Preference, Call}
use Rattle.sheets.specs.declared.fault.Fault.{Fault}
use Rattle.sheets.specs.declared.field.Entry.{Entry}
use Rattle.sheets.specs.declared.fault.Layer.TheVariants.{Sheet}
use Rattle.sheets.specs.Faults.{fault_at}
use Rattle.sheets.specs.Fields.{Said, said, plain_field, first_field, followed_by, field_says}
use Rattle.sheets.specs.declared.field.Field.{Field}
use Rattle.sheets.proofs.FaultSteps.{was_granted, was_refused}
use Rattle.std.specs.Result.{result_map_both}
use Rattle.sheets.specs.Opening.{awaited_after}
use Rattle.sheets.specs.Readings.{Reading, ended, faulty, then_reads, reading_at_end, continued, reading, too_long, sheet_says, first_answer, later_answers, plain_entry, plain_answer}

-- the bytes after a field are fewer than the bytes from it on
fewer : (r : Result Said Refusal) (rest : List ℕ) (n : ℕ) (x : Said × List ℕ) → followed_by r (drop n rest) ≡ Ok x → length x.1 ≤ length rest
fewer (Ok y) rest n x e =
    let same : ◌≡◌ {A = Said × List ℕ} (y, drop n rest) x = cc in
    omega (arith, length-drop n rest, ap (λ (z : Said × List ℕ). length z.1) same)
fewer (Err r) rest n x e = absurd cc

fewer_if : (b : Bool) (r : Result Said Refusal) (rest : List ℕ) (n : ℕ) (x : Said × List ℕ)
    → elim b as (λ _. Result (Said × List ℕ) Refusal) [ false ↦ Err Cut | true ↦ followed_by r (drop n rest) ] ≡ Ok x → length x.1 ≤ length rest
fewer_if true r rest n x e = fewer r rest n x e
fewer_if false r rest n x e = absurd cc

pub shrinks : (a : Awaited) (bs : List ℕ) (x : Said × List ℕ) → first_field a bs ≡ Ok x → length x.1 < length bs
shrinks a [] x e = absurd cc
shrinks a (t ∷ []) x e = absurd cc
shrinks a (t ∷ (h ∷ [])) x e = absurd cc
shrinks a (t ∷ (h ∷ (l ∷ rest))) x e =
    let n = h * 256 + l in
    omega (arith, fewer_if (leb n (length rest)) (field_says a t (take n rest)) rest n x e)

same_continued : (go go' : List ℕ → Reading) (at : ℕ) (r : Result (Said × List ℕ) Refusal) → ((x : Said × List ℕ) → r ≡ Ok x → go x.1 ≡ go' x.1)
    → continued go at r ≡ continued go' at r
same_continued go go' at (Ok x) same = ap (then_reads (record { place = at; field = x.0 })) (same x refl)
same_continued go go' at (Err r) same = refl

-- the bound does not matter, where it is large enough
pub reading_enough : (j k : ℕ) (a : Awaited) (total : ℕ) (bs : List ℕ) → length bs ≤ j → length bs ≤ k → reading j a total bs ≡ reading k a total bs
unfolding reading
reading_enough zero zero a total bs lj lk = refl
reading_enough zero (suc k) a total [] lj lk = refl
reading_enough zero (suc k) a total (b ∷ bs) lj lk = absurd (omega arith)
reading_enough (suc j) zero a total [] lj lk = refl
reading_enough (suc j) zero a total (b ∷ bs) lj lk = absurd (omega arith)
reading_enough (suc j) (suc k) a total [] lj lk = refl
reading_enough (suc j) (suc k) a total (b ∷ bs) lj lk =
    same_continued (reading j (awaited_after a) total) (reading k (awaited_after a) total) (total - length (b ∷ bs)) (first_field a (b ∷ bs))
    (λ x e. let l = shrinks a (b ∷ bs) x e in reading_enough j k (awaited_after a) total x.1 (omega arith) (omega arith))

pub reading_none : (a : Awaited) (total : ℕ) (bs : List ℕ) → true ≡ (length bs == 0) → reading (length bs) a total bs ≡ reading_at_end a (total - length bs)
unfolding reading
reading_none a total [] e = let all : total ≡ total - 0 = omega arith in ap (reading_at_end a) all
reading_none a total (b ∷ bs) e = absurd (omega (arith, eqb-true (length (b ∷ bs)) 0 (sym e)))

reading_step : (a : Awaited) (total : ℕ) (bs : List ℕ) → 0 < length bs
    → reading (length bs) a total bs ≡ continued (λ rest. reading (length rest) (awaited_after a) total rest) (total - length bs) (first_field a bs)
unfolding reading
reading_step a total [] some = absurd (omega arith)
reading_step a total (b ∷ bs) some =
    same_continued (reading (length bs) (awaited_after a) total) (λ rest. reading (length rest) (awaited_after a) total rest) (total - length (b ∷ bs)) (first_field a (b ∷ bs))
    (λ x e. let l = shrinks a (b ∷ bs) x e in reading_enough (length bs) (length x.1) (awaited_after a) total x.1 (omega arith) (omega arith))

module _ (a : Awaited) (total : ℕ) (bs : List ℕ) (some : 0 < length bs) where
  pub reading_more : (x : Said × List ℕ) → first_field a bs ≡ Ok x
      → reading (length bs) a total bs ≡ then_reads (record { place = total - length bs; field = x.0 }) (reading (length x.1) (awaited_after a) total x.1)
  reading_more x e = reading_step a total bs some ∙ ap (continued (λ rest. reading (length rest) (awaited_after a) total rest) (total - length bs)) e

  pub reading_bad : (r : Refusal) → first_field a bs ≡ Err r → reading (length bs) a total bs ≡ faulty (fault_at Sheet (total - length bs) r)
  reading_bad r e = reading_step a total bs some ∙ ap (continued (λ rest. reading (length rest) (awaited_after a) total rest) (total - length bs)) e

-- The same from the answers of the functions: what stands first in the bytes, and what that is at its place.
abbrev pub located : ℕ → Result (Field (Bor (List ℕ)) × Bor (List ℕ)) Refusal → Result (Field (Bor (List ℕ)) × Bor (List ℕ)) Fault
located at r = result_map_both (λ x. x) (fault_at Sheet at) r

module _ (a : Awaited) (total : ℕ) (bs : List ℕ) (r : Result (Field (Bor (List ℕ)) × Bor (List ℕ)) Refusal) (told : plain_field r ≡ first_field a bs) where
  pub reading_refused : (f : Fault) → false ≡ (length bs == 0) → Err f ≡ located (total - length bs) r → reading (length bs) a total bs ≡ faulty f
  reading_refused f some e =
      let q = was_refused Sheet (total - length bs) r f e in
      reading_bad a total bs (omega (arith, eqb-false (length bs) 0 (sym some))) q.0 (sym told ∙ ap plain_field q.1) ∙ ap faulty (sym q.2)

  pub shorter : (x : Field (Bor (List ℕ)) × Bor (List ℕ)) → Ok x ≡ located (total - length bs) r → length x.1.now < length bs
  shorter x e = shrinks a bs (said x.0, x.1.now) (sym told ∙ ap plain_field (was_granted Sheet (total - length bs) r x e))

  pub reading_granted : (x : Field (Bor (List ℕ)) × Bor (List ℕ)) → Ok x ≡ located (total - length bs) r
      → reading (length bs) a total bs ≡ then_reads (record { place = total - length bs; field = said x.0 }) (reading (length x.1.now) (awaited_after a) total x.1.now)
  reading_granted x e =
      reading_more a total bs (omega (arith, shorter x e)) (said x.0, x.1.now) (sym told ∙ ap plain_field (was_granted Sheet (total - length bs) r x e))

pub says_short : (bs : List ℕ) → length bs ≤ 60000 → sheet_says bs ≡ reading (length bs) Floor (length bs) bs
unfolding sheet_says
says_short bs short = ap (λ (b : Bool). elim (elim b as (λ _. Option Fault) [ true ↦ None | false ↦ Some (fault_at Sheet 0 Long) ]) as (λ _. Reading)
    [ Some f ↦ faulty f | None ↦ reading (length bs) Floor (length bs) bs ]) (le-leb (length bs) 60000 short)

pub says_long : (bs : List ℕ) (f : Fault) → Some f ≡ too_long bs → sheet_says bs ≡ faulty f
unfolding sheet_says
says_long bs f e = ap (λ (o : Option Fault). elim o as (λ _. Reading) [ Some f ↦ faulty f | None ↦ reading (length bs) Floor (length bs) bs ]) (sym e)

-- at the end a reader answers the same for ever
pub end_stays : (a : Awaited) (p : ℕ) → reading_at_end a p ≡ later_answers (reading_at_end a p)
end_stays Floor p = refl
end_stays Preference p = refl
end_stays Call p = refl

-- how many fields are left
abbrev pub entries : Reading → ℕ
entries ended = 0
entries (faulty f) = 0
entries (then_reads e rest) = suc (entries rest)

-- what was left to read, from the answer; `later` is what is left then
pub was_faulty : (r : Reading) (f : Fault) → Err f ≡ first_answer r → r ≡ faulty f
was_faulty ended f e = absurd cc
was_faulty (faulty g) f e = ap faulty (let h : g ≡ f = cc in h)
was_faulty (then_reads x rest) f e = absurd cc

pub was_ended : (r : Reading) (o : Option (Entry (Bor (List ℕ)))) → o ≡ None → plain_answer (Ok o) ≡ first_answer r → r ≡ ended
was_ended r o none e = elim r as (λ r. Ok None ≡ first_answer r → r ≡ ended)
    [ ended ↦ λ _. refl | faulty g ↦ λ e. absurd cc | then_reads x rest ↦ λ e. absurd cc ]
    (sym (ap (λ o. plain_answer (Ok o)) none) ∙ e)

pub was_read : (r later : Reading) (o : Option (Entry (Bor (List ℕ)))) (x : Entry (Bor (List ℕ))) → o ≡ Some x → plain_answer (Ok o) ≡ first_answer r
    → later ≡ later_answers r → r ≡ then_reads (plain_entry x) later
was_read r later o x some e after = elim r as (λ r. Ok (Some (plain_entry x)) ≡ first_answer r → later ≡ later_answers r → r ≡ then_reads (plain_entry x) later) [
  | ended ↦ λ e _. absurd cc
  | faulty g ↦ λ e _. absurd cc
  | then_reads y rest ↦ λ e l. let h : y ≡ plain_entry x = cc in ap (λ z. then_reads z rest) h ∙ ap (then_reads (plain_entry x)) (sym l)
]
    (sym (ap (λ o. plain_answer (Ok o)) some) ∙ e) after
