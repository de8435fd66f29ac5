-- What was read is what stands in the sheet.
use Rattle.std.proofs.Common.{◌≡◌, ℕ, zero, suc, ◌+◌, ◌-◌, ◌*◌, ◌/◌, ◌%◌, ◌<◌, ◌≤◌, Bool, true, false, leb, List, [], ◌∷◌, ◌++◌, length, get_or, take, drop, Some, None, Ok, Err, Option, Result, sym, refl, ap, ◌∙◌, inl, inr, append_assoc, arith, length-append, take-append-drop, length-take}
use Rattle.std.specs.Prelude.{◌==◌, cond}
use Rattle.std.specs.List.{find}
use Rattle.std.proofs.lemmas.Nat.{div-mul-add, mod-mul-add}
use Rattle.std.proofs.lemmas.List.{take_at, nil_from_length}
use Rattle.std.proofs.lemmas.Bool.{eqb-true, leb-true, lt-leb, cases_lt}
use Rattle.base.specs.declared.refusal.Refusal.{Refusal}
use Rattle.base.specs.declared.refusal.Refusal.TheVariants.{Cut, Long}
use Rattle.base.specs.declared.refusal.Refusal.TheVariants as refusal
use Rattle.sheets.specs.declared.awaited.Awaited.{Awaited}
use Rattle.sheets.specs.declared.awaited.Awaited.TheVariants.{Floor, Preference, Call}
use Rattle.sheets.specs.declared.fault.Fault.{Fault}
use Rattle.sheets.specs.declared.fault.Layer.TheVariants.{Sheet}
use Rattle.sheets.specs.declared.preference.PreferenceKind.{PreferenceKind}
use Rattle.sheets.specs.declared.field.Field.TheVariants.{Prefer}
use Rattle.sheets.specs.declared.tag.Tag.{Tag}
use Rattle.sheets.specs.declared.tag.Tag.TheVariants as tag
use Rattle.sheets.specs.Faults.{fault_at}
use Rattle.sheets.specs.Fields.{Said, contents_say, tagged_says, field_says, followed_by, first_field}
use Rattle.sheets.specs.Numbers.{tag_number, every_tag, tag_of, preference_number, every_preference, preference_of}
use Rattle.sheets.specs.Opening.{may_stand, awaited_after}
use Rattle.sheets.specs.Suits.{length_suits}
use Rattle.sheets.specs.Readings.{Reading, reading_at_end, continued, reading}
use Rattle.sheets.specs.Spelled.{kind_of, contents_of, field_bytes, spelled, ends_at, Placed, Faithful}
use Rattle.sheets.proofs.ReadingSteps.{shrinks, says_short, says_long}

module _ {X : Type 0} (number : X → ℕ) where
  -- what has a number has that number
  numbered : (xs : List X) (n : ℕ) (x : X) → find (λ y. n == number y) xs ≡ Some x → n ≡ number x
  numbered [] n x e = absurd cc
  numbered (y ∷ ys) n x e =
      elim (n == number y) as (λ b. (n == number y) ≡ b → cond b (Some y) (find (λ y. n == number y) ys) ≡ Some x → n ≡ number x)
      [ true ↦ λ t e. (let same : y ≡ x = cc in eqb-true n (number y) t ∙ ap number same) | false ↦ λ _ e. numbered ys n x e ] refl e

-- contents that say x are those of x
record Says (t : Tag) (bs : List ℕ) (x : Said) : Type 0 where
  kind : t ≡ kind_of x
  whole : bs ≡ contents_of x

two_bytes : (bs : List ℕ) → length bs ≡ 2 → bs ≡ get_or bs 0 0 ∷ get_or bs 1 0 ∷ []
two_bytes [] e = absurd (omega arith)
two_bytes (a ∷ []) e = absurd (omega arith)
two_bytes (a ∷ (b ∷ [])) e = refl
two_bytes (a ∷ (b ∷ (c ∷ cs))) e = absurd (omega arith)

one_byte : (bs : List ℕ) → length bs ≡ 1 → bs ≡ get_or bs 0 0 ∷ []
one_byte [] e = absurd (omega arith)
one_byte (a ∷ []) e = refl
one_byte (a ∷ (b ∷ cs)) e = absurd (omega arith)

some_bytes : (bs : List ℕ) → 1 ≤ length bs → bs ≡ get_or bs 0 0 ∷ drop 1 bs
some_bytes [] e = absurd (omega arith)
some_bytes (a ∷ bs) e = refl

it_says : (t : Tag) (bs : List ℕ) (y x : Said) → ◌≡◌ {A = Result Said Refusal} (Ok y) (Ok x) → t ≡ kind_of y → bs ≡ contents_of y → Says t bs x
it_says t bs y x e k w = let same : y ≡ x = cc in record { kind = k ∙ ap kind_of same; whole = w ∙ ap contents_of same }

prefers : (bs : List ℕ) (x : Said) (o : Option PreferenceKind) → preference_of (get_or bs 0 0) ≡ o → length bs ≡ 1
    → elim o as (λ _. Result Said Refusal) [ None ↦ Err refusal.Value | Some p ↦ Ok (Prefer p) ] ≡ Ok x → Says tag.Preference bs x
prefers bs x None q long e = absurd cc
prefers bs x (Some p) q long e =
    it_says tag.Preference bs (Prefer p) x e refl (one_byte bs long ∙ ap (λ n. n ∷ []) (numbered preference_number every_preference (get_or bs 0 0) p q))

contents_said : (t : Tag) (bs : List ℕ) (x : Said) → length_suits t (length bs) ≡ true → contents_say t bs ≡ Ok x → Says t bs x
contents_said tag.OpenFloor bs x s e = it_says tag.OpenFloor bs _ x e refl (two_bytes bs (eqb-true (length bs) 2 s))
contents_said tag.DrawnFloor bs x s e = it_says tag.DrawnFloor bs _ x e refl (some_bytes bs (leb-true 1 (length bs) s))
contents_said tag.Preference bs x s e = prefers bs x (preference_of (get_or bs 0 0)) refl (eqb-true (length bs) 1 s) e
contents_said tag.Place bs x s e = it_says tag.Place bs _ x e refl (two_bytes bs (eqb-true (length bs) 2 s))
contents_said tag.Assign bs x s e = it_says tag.Assign bs _ x e refl (two_bytes bs (eqb-true (length bs) 2 s))
contents_said tag.Lift bs x s e = it_says tag.Lift bs _ x e refl (one_byte bs (eqb-true (length bs) 1 s))
contents_said tag.Beat bs x s e = it_says tag.Beat bs _ x e refl (nil_from_length bs (eqb-true (length bs) 0 s))

admitted : (a : Awaited) (t : Tag) (bs : List ℕ) (x : Said) (b : Bool) → length_suits t (length bs) ≡ true
    → elim b as (λ _. Result Said Refusal) [ false ↦ Err refusal.Opening | true ↦ contents_say t bs ] ≡ Ok x → Says t bs x
admitted a t bs x true s e = contents_said t bs x s e
admitted a t bs x false s e = absurd cc

suited : (a : Awaited) (t : Tag) (bs : List ℕ) (x : Said) (b : Bool) → length_suits t (length bs) ≡ b
    → elim b as (λ _. Result Said Refusal) [ false ↦ Err refusal.Length | true ↦ elim (may_stand a t) as (λ _. Result Said Refusal) [ false ↦ Err refusal.Opening | true ↦ contents_say t bs ] ] ≡ Ok x
    → Says t bs x
suited a t bs x true s e = admitted a t bs x (may_stand a t) s e
suited a t bs x false s e = absurd cc

known : (a : Awaited) (n : ℕ) (bs : List ℕ) (x : Said) (o : Option Tag) → tag_of n ≡ o
    → elim o as (λ _. Result Said Refusal) [ None ↦ Err refusal.Tag | Some t ↦ tagged_says a t bs ] ≡ Ok x → (n ≡ tag_number (kind_of x)) × (bs ≡ contents_of x)
known a n bs x None q e = absurd cc
known a n bs x (Some t) q e =
    let s = suited a t bs x (length_suits t (length bs)) refl e in
    (numbered tag_number every_tag n t q ∙ ap tag_number s.kind, s.whole)

field_said : (a : Awaited) (n : ℕ) (bs : List ℕ) (x : Said) → field_says a n bs ≡ Ok x → (n ≡ tag_number (kind_of x)) × (bs ≡ contents_of x)
field_said a n bs x e = known a n bs x (tag_of n) refl e

-- every byte is below 256
abbrev pub Bytes : List ℕ → Type 0
Bytes bs = (i : ℕ) → get_or bs i 0 < 256

halves : (high low n : ℕ) → high < 256 → low < 256 → n ≡ high * 256 + low → (high ≡ n / 256) × (low ≡ n % 256)
halves high low n h l e = (sym (ap (λ m. m / 256) e ∙ div-mul-add high 256 low l), sym (ap (λ m. m % 256) e ∙ mod-mul-add high 256 low l))

-- the parts of a field that is read, put together again
together : (t high low : ℕ) (rest : List ℕ) (r : Result Said Refusal) (x : Said × List ℕ) (b : Bool) → high < 256 → low < 256 → leb (high * 256 + low) (length rest) ≡ b
    → ((y : Said) → r ≡ Ok y → (t ≡ tag_number (kind_of y)) × (take (high * 256 + low) rest ≡ contents_of y))
    → elim b as (λ _. Result (Said × List ℕ) Refusal) [ false ↦ Err Cut | true ↦ followed_by r (drop (high * 256 + low) rest) ] ≡ Ok x
    → field_bytes x.0 ++ x.1 ≡ t ∷ high ∷ low ∷ rest
together t high low rest r x false h l fits parts e = absurd cc
together t high low rest (Err q) x true h l fits parts e = absurd cc
together t high low rest (Ok y) x true h l fits parts e =
    let n = high * 256 + low in
    let same : ◌≡◌ {A = Said × List ℕ} (y, drop n rest) x = cc in
    let p = parts y refl in
    let long : length (contents_of y) ≡ n = ap length (sym p.1) ∙ length-take n rest ∙ omega (arith, leb-true n (length rest) fits) in
    let hl = halves high low (length (contents_of y)) h l long in
    let whole : contents_of y ++ drop n rest ≡ rest = ap (λ bs. bs ++ drop n rest) (sym p.1) ∙ take-append-drop n rest in
    sym (ap (λ (z : Said × List ℕ). field_bytes z.0 ++ z.1) same)
    ∙ ap (λ k. k ∷ length (contents_of y) / 256 ∷ length (contents_of y) % 256 ∷ (contents_of y ++ drop n rest)) (sym p.0)
    ∙ ap (λ k. t ∷ k ∷ length (contents_of y) % 256 ∷ (contents_of y ++ drop n rest)) (sym hl.0)
    ∙ ap (λ k. t ∷ high ∷ k ∷ (contents_of y ++ drop n rest)) (sym hl.1)
    ∙ ap (λ k. t ∷ high ∷ low ∷ k) whole

pub first_spelled : (a : Awaited) (bs : List ℕ) (x : Said × List ℕ) → Bytes bs → first_field a bs ≡ Ok x → field_bytes x.0 ++ x.1 ≡ bs
first_spelled a [] x small e = absurd cc
first_spelled a (t ∷ []) x small e = absurd cc
first_spelled a (t ∷ (h ∷ [])) x small e = absurd cc
first_spelled a (t ∷ (h ∷ (l ∷ rest))) x small e =
    together t h l rest (field_says a t (take (h * 256 + l) rest)) x (leb (h * 256 + l) (length rest)) (small 1) (small 2) refl
    (λ y q. field_said a t (take (h * 256 + l) rest) y q) e

-- bytes that are not read, after those that are
record Accounted (total : ℕ) (bs : List ℕ) (r : Reading) : Type 0 where
  unread : List ℕ
  whole : spelled r ++ unread ≡ bs
  ends : ends_at total r ≡ total - length unread
  places : Placed (total - length bs) r

at_end_accounted : (a : Awaited) (total : ℕ) (bs : List ℕ) → length bs ≡ 0 → Accounted total bs (reading_at_end a total)
at_end_accounted a total (b ∷ bs) e = absurd (omega arith)
at_end_accounted Floor total [] e = record { unread = []; whole = refl; ends = omega arith; places = tt }
at_end_accounted Preference total [] e = record { unread = []; whole = refl; ends = omega arith; places = tt }
at_end_accounted Call total [] e = record { unread = []; whole = refl; ends = omega arith; places = tt }

later_bytes : (front back : List ℕ) → Bytes (front ++ back) → Bytes back
later_bytes [] back small i = small i
later_bytes (b ∷ front) back small i = later_bytes front back (λ j. small (suc j)) i

step_accounted : (a : Awaited) (total : ℕ) (bs : List ℕ) (go : List ℕ → Reading) (r : Result (Said × List ℕ) Refusal) → Bytes bs → length bs ≤ total → r ≡ first_field a bs
    → ((x : Said × List ℕ) → r ≡ Ok x → Bytes x.1 → Accounted total x.1 (go x.1)) → Accounted total bs (continued go (total - length bs) r)
step_accounted a total bs go (Err q) small within e rest = record { unread = bs; whole = refl; ends = refl; places = tt }
step_accounted a total bs go (Ok x) small within e rest =
    let front = first_spelled a bs x small (sym e) in
    let after = rest x refl (later_bytes (field_bytes x.0) x.1 (λ i. omega (arith, small i, ap (λ l. get_or l i 0) front))) in
    let long : length (field_bytes x.0) + length x.1 ≡ length bs = sym (length-append (field_bytes x.0) x.1) ∙ ap length front in
    let next : total - length x.1 ≡ (total - length bs) + length (field_bytes x.0) = omega (arith, long) in
    record {
      unread = after.unread;
      whole = append_assoc (field_bytes x.0) (spelled (go x.1)) after.unread ∙ ap (λ l. field_bytes x.0 ++ l) after.whole ∙ front;
      ends = after.ends;
      places = (refl, rw next at after.places);
    }

accounted : (k : ℕ) (a : Awaited) (total : ℕ) (bs : List ℕ) → Bytes bs → length bs ≤ k → length bs ≤ total → Accounted total bs (reading k a total bs)
unfolding reading
accounted zero a total bs small lk lt = at_end_accounted a total bs (omega arith)
accounted (suc k) a total [] small lk lt = at_end_accounted a total [] refl
accounted (suc k) a total (b ∷ bs) small lk lt =
    step_accounted a total (b ∷ bs) (reading k (awaited_after a) total) (first_field a (b ∷ bs)) small lt refl
    (λ x e fits. let l = shrinks a (b ∷ bs) x e in accounted k (awaited_after a) total x.1 fits (omega arith) (omega arith))

pub faithful : (bs : List ℕ) → Bytes bs → Faithful bs
faithful bs small =
    elim (cases_lt 60000 (length bs)) [
      | inl long ↦ (let e = says_long bs (fault_at Sheet 0 Long) (sym (ap (λ b. elim b as (λ _. Option Fault) [ true ↦ None | false ↦ Some (fault_at Sheet 0 Long) ]) (lt-leb (length bs) 60000 long))) in
          record { same_bytes = rw e refl; same_places = rw e tt })
      | inr short ↦ (let e = says_short bs short in
          let a = accounted (length bs) Floor (length bs) bs small (omega arith) (omega arith) in
          let long : length (spelled (reading (length bs) Floor (length bs) bs)) ≡ length bs - length a.unread = omega (arith, length-append (spelled (reading (length bs) Floor (length bs) bs)) a.unread, ap length a.whole) in
          let start : length bs - length bs ≡ 0 = omega arith in
          record {
            same_bytes = rw (e, a.ends) (sym (take_at (spelled (reading (length bs) Floor (length bs) bs)) a.unread (length bs - length a.unread) long) ∙ ap (take (length bs - length a.unread)) a.whole);
            same_places = rw (e, ← start) a.places;
          })
    ]
