-- What the tests of a survey tell of links, walks and rings, and what a survey answers and writes.
use Rattle.std.proofs.Common.{◌≡◌, ℕ, ◌+◌, ◌*◌, ◌/◌, ◌%◌, ◌<◌, ◌≤◌, Bool, true, false, not, ◌||◌, eqb, ltb, leb, List, [], ◌∷◌, ◌++◌, length, get_or, drop, Some, None, Decides, Option, sym, refl, ap, ◌∙◌, subst, inl, inr, arith}
use Rattle.std.proofs.lemmas.Nat.{mul-add-lt, div-mul-add, mod-mul-add}
use Rattle.std.proofs.lemmas.List.{get_or-map, get_or_append_left, length-map}
use Rattle.std.proofs.lemmas.Bool.{and_parts, and_from, or_parts, eqb-false, leb-false, ltb-false, both_ways, true≢false, false≢true, not-true, not-false, not_from_false}
use Rattle.std.proofs.lemmas.Bool.Decides.{not_from_Decides, Decides-not, Decides-like, Decides-and, Decides-or, Decides-eqb}
use Rattle.base.proofs.Ascending.{false_by}
use Rattle.base.proofs.Numbers.{some_in, some_below, none_in, none_below, get_or-below, length-below}
use Rattle.base.proofs.Testing.{passed_all, passed_both, passed_on, refused_on, number_given, cases_option}
use Rattle.base.specs.Lists.{below}
use Rattle.base.specs.Refusals.{first_refusal, refusal_number}
use Rattle.base.specs.declared.refusal.Refusal.{Refusal}
use Rattle.base.specs.declared.refusal.Refusal.TheVariants.{Split, Neck, ShortList}
use Rattle.floor.proofs.Rings.{Pair, ring_from, ring_walk}
use Rattle.floor.proofs.Walking.{walk_on, walk_along, walk_back, distance_shortest, comes_to_decides}
use Rattle.floor.specs.Drawn.{drawn_model, CutOff, Unringed, Exactly, Surveyed}
use Rattle.floor.specs.Floors.{Joined, Ring}
use Rattle.floor.specs.Links.{pairs_of, joins_two, linked}
use Rattle.floor.specs.Survey.{names_stranger, names_itself, is_split, linked_without, is_in_ring, has_neck, is_crowded, link_tests, walk_tests, survey_refusal, distances, after_survey}
use Rattle.floor.specs.Walks.{Walk, Shortest, By, comes_to, distance}

-- links
pub joins_two_decides : (p : ℕ × ℕ) (a b : ℕ) → Decides (joins_two p a b) (Pair p.0 p.1 a b)
joins_two_decides p a b =
    Decides-or _ _ (Decides-and _ _ (Decides-eqb p.0 a) (Decides-eqb p.1 b)) (Decides-and _ _ (Decides-eqb p.0 b) (Decides-eqb p.1 a))

pub joins_two_back : (p : ℕ × ℕ) (a b : ℕ) → joins_two p a b ≡ true → joins_two p b a ≡ true
joins_two_back p a b e = elim ((joins_two_decides p a b).0 e) [ inl s ↦ (joins_two_decides p b a).1 (inr s) | inr s ↦ (joins_two_decides p b a).1 (inl s) ]

pub linked_at : (ps : List (ℕ × ℕ)) (a b : ℕ) → Decides (linked ps a b) ((i : ℕ) × (i < length ps) × (joins_two (get_or ps i (0, 0)) a b ≡ true))
linked_at ps a b = some_in (λ p. joins_two p a b) ps (0, 0)

pub linked_back : (ps : List (ℕ × ℕ)) (a b : ℕ) → linked ps a b ≡ true → linked ps b a ≡ true
linked_back ps a b e = let at = (linked_at ps a b).0 e in (linked_at ps b a).1 (at.0, at.1, joins_two_back (get_or ps at.0 (0, 0)) a b at.2)

pub pair_linked : (ps : List (ℕ × ℕ)) (i : ℕ) → i < length ps → let p = get_or ps i (0, 0) in linked ps p.0 p.1 ≡ true
pair_linked ps i l = let p = get_or ps i (0, 0) in (linked_at ps p.0 p.1).1 (i, l, (joins_two_decides p p.0 p.1).1 (inl (refl, refl)))

pub linked_differ : (ps : List (ℕ × ℕ)) → names_itself ps ≡ false → (a b : ℕ) → linked ps a b ≡ true → a ≡ b → ⊥
linked_differ ps apart a b e same =
    let at = (linked_at ps a b).0 e in
    let p = get_or ps at.0 (0, 0) in
    let differ = eqb-false p.0 p.1 (none_in (λ p. eqb p.0 p.1) ps (0, 0) apart at.0 at.1) in
    elim ((joins_two_decides p a b).0 at.2) [ inl s ↦ differ (s.0 ∙ same ∙ sym s.1) | inr s ↦ differ (s.0 ∙ sym same ∙ sym s.1) ]

pub without_back : (ps : List (ℕ × ℕ)) (p : ℕ × ℕ) (a b : ℕ) → linked_without ps p a b ≡ true → linked_without ps p b a ≡ true
without_back ps p a b e =
    let both = and_parts (linked ps a b) (not (joins_two p a b)) e in
    and_from (linked ps b a) (not (joins_two p b a)) (linked_back ps a b both.0)
    (not_from_false (joins_two p b a) (false_by (joins_two p b a) (λ j. both_ways (joins_two p a b) (not-true (joins_two p a b) both.1) (joins_two_back p b a j))))

pub without_decides : (ps : List (ℕ × ℕ)) (a b x y : ℕ) → Decides (linked_without ps (a, b) x y) ((linked ps x y ≡ true) × (Pair a b x y → ⊥))
without_decides ps a b x y = Decides-and _ _ (λ e. e, λ e. e) (Decides-not _ (joins_two_decides (a, b) x y))

module _ (n : ℕ) (ps : List (ℕ × ℕ)) (known : names_stranger n ps ≡ false) where
  pub linked_inside : (a b : ℕ) → linked ps a b ≡ true → (a < n) × (b < n)
  linked_inside a b e =
      let at = (linked_at ps a b).0 e in
      let p = get_or ps at.0 (0, 0) in
      let low = or_parts (leb n p.0) (leb n p.1) (none_in (λ p. leb n p.0 || leb n p.1) ps (0, 0) known at.0 at.1) in
      let one = leb-false n p.0 low.0 in
      let two = leb-false n p.1 low.1 in
      elim ((joins_two_decides p a b).0 at.2) [ inl s ↦ (omega (arith, s.0), omega (arith, s.1)) | inr s ↦ (omega (arith, s.1), omega (arith, s.0)) ]

  pub without_inside : (p : ℕ × ℕ) (a b : ℕ) → linked_without ps p a b ≡ true → (a < n) × (b < n)
  without_inside p a b e = linked_inside a b (and_parts (linked ps a b) (not (joins_two p a b)) e).0

  pub comes_decides : (t g : ℕ) → g < n → Decides (comes_to (linked ps) n t g) ((k : ℕ) × Walk (By (linked ps)) t g k)
  comes_decides = comes_to_decides (linked ps) n linked_inside

pub split_decides : (n : ℕ) (links : List ℕ) → 0 < n → names_stranger n (pairs_of links) ≡ false → Decides (is_split n (pairs_of links)) (CutOff n links)
split_decides n links some known =
    let ps = pairs_of links in
    let off : (t : ℕ) → Decides (not (comes_to (linked ps) n t 0)) (((k : ℕ) × Walk (By (linked ps)) t 0 k) → ⊥) = λ t. Decides-not (comes_to (linked ps) n t 0) (comes_decides n ps known t 0 some) in
    Decides-like (is_split n ps) (λ h. (h.0, h.1, λ k w. (off h.0).0 h.2 (k, w))) (λ h. (h.0, h.1, (off h.0).1 (λ w. h.2 w.0 w.1)))
    (some_below (λ t. not (comes_to (linked ps) n t 0)) n)

module _ (n : ℕ) (links : List ℕ) (known : names_stranger n (pairs_of links) ≡ false) where
  -- a walk that avoids a joined pair makes a ring with it
  ring_by : (a b k : ℕ) → linked (pairs_of links) a b ≡ true → (a ≡ b → ⊥) → Walk (By (linked_without (pairs_of links) (a, b))) b a k → Ring (drawn_model n links) a b
  ring_by a b k e differ w =
      let ps = pairs_of links in
      let joins = linked_without ps (a, b) in
      let parts = without_decides ps a b in
      ring_from (drawn_model n links) a b (distance joins n b a) e differ (By joins) (λ x y j. ((parts x y).0 j).0) (λ j. ((parts b a).0 j).1 (inr (refl, refl)))
      (distance_shortest joins n (without_inside n ps known (a, b)) b a k (linked_inside n ps known a b e).0 w).0

  -- the same ring, walked the other way round
  pub ring_back : (a b : ℕ) → linked (pairs_of links) a b ≡ true → Ring (drawn_model n links) b a → Ring (drawn_model n links) a b
  ring_back a b e r =
      let ps = pairs_of links in
      let w = ring_walk (drawn_model n links) b a r in
      ring_by a b w.0 e (λ same. r.different.0.0 (sym same))
      (walk_back (without_back ps (a, b)) (walk_along (λ x y j. (without_decides ps a b x y).1 (j.0, λ p. j.1 (swapped p))) w.1))
    where
      swapped : {a b x y : ℕ} → Pair a b x y → Pair b a x y
      swapped (inl e) = inr (e.1, e.0)
      swapped (inr e) = inl (e.1, e.0)

  pub ring_decides : (a b : ℕ) → linked (pairs_of links) a b ≡ true → (a ≡ b → ⊥) → Decides (is_in_ring n (pairs_of links) (a, b)) (Ring (drawn_model n links) a b)
  ring_decides a b e differ =
      let ps = pairs_of links in
      let turn = without_back ps (a, b) in
      Decides-like (is_in_ring n ps (a, b)) (λ w. ring_by a b w.0 e differ (walk_back turn w.1))
      (λ r. let w = ring_walk (drawn_model n links) a b r in (w.0, walk_back turn (walk_along (λ x y. (without_decides ps a b x y).1) w.1)))
      (comes_to_decides (linked_without ps (a, b)) n (without_inside n ps known (a, b)) a b (linked_inside n ps known a b e).1)

  -- the pair in place i of the list
  off_ring : names_itself (pairs_of links) ≡ false → (i : ℕ) → i < length (pairs_of links)
      → let p = get_or (pairs_of links) i (0, 0) in Decides (not (is_in_ring n (pairs_of links) p)) (Ring (drawn_model n links) p.0 p.1 → ⊥)
  off_ring apart i l =
      let ps = pairs_of links in
      let p = get_or ps i (0, 0) in
      let e = pair_linked ps i l in
      Decides-not (is_in_ring n ps p) (ring_decides p.0 p.1 e (linked_differ ps apart p.0 p.1 e))

  pub neck_decides : names_itself (pairs_of links) ≡ false → Decides (has_neck n (pairs_of links)) (Unringed n links)
  neck_decides apart =
      let ps = pairs_of links in
      Decides-like (has_neck n ps)
      (λ h. let p = get_or ps h.0 (0, 0) in (p.0, p.1, pair_linked ps h.0 h.1, (off_ring apart h.0 h.1).0 h.2))
      (λ h. let at = (linked_at ps h.0 h.1).0 h.2 in (at.0, at.1, (off_ring apart at.0 at.1).1 (λ r. h.3 (either (get_or ps at.0 (0, 0)) h.0 h.1 h.2 at.2 r))))
      (some_in (λ p. not (is_in_ring n ps p)) ps (0, 0))
    where
      either : (p : ℕ × ℕ) (a b : ℕ) → linked (pairs_of links) a b ≡ true → joins_two p a b ≡ true → Ring (drawn_model n links) p.0 p.1 → Ring (drawn_model n links) a b
      either p a b e j r = elim ((joins_two_decides p a b).0 j) [
        | inl s ↦ rw (s.0, s.1) at r
        | inr s ↦ ring_back a b e (rw (s.0, s.1) at r)
      ]

-- what the tests of the links tell where none refuses
pub record LinksPass (n : ℕ) (links : List ℕ) : Type 0 where
  pub least : 3 ≤ n
  pub most : n ≤ 255
  pub known : names_stranger n (pairs_of links) ≡ false
  pub apart : names_itself (pairs_of links) ≡ false
  pub roomy : is_crowded n (pairs_of links) ≡ false

pub links_pass : (n : ℕ) (links : List ℕ) → first_refusal (link_tests n links) ≡ None → LinksPass n links
links_pass n links e =
    let all = passed_all (link_tests n links) e in
    let size = or_parts (ltb n 3) (ltb 255 n) all.0 in
    record {
      least = ltb-false n 3 size.0;
      most = ltb-false 255 n size.1;
      known = all.1.1.0;
      apart = all.1.1.1.0;
      roomy = all.1.1.1.1.1.0;
    }

pub length-distances : (n : ℕ) (links : List ℕ) → length (distances n links) ≡ n * n
length-distances n links = length-map (below (n * n)) (λ i. distance (linked (pairs_of links)) n (i % n) (i / n)) ∙ length-below (n * n)

-- place g * n + t of the distances
pub distance_place : (n : ℕ) (links : List ℕ) (i : ℕ) → i < n * n → get_or (distances n links) i 0 ≡ distance (linked (pairs_of links)) n (i % n) (i / n)
distance_place n links i l =
    let f : ℕ → ℕ = λ i. distance (linked (pairs_of links)) n (i % n) (i / n) in
    get_or-map f (below (n * n)) i 0 0 (omega (arith, length-below (n * n))) ∙ ap f (get_or-below (n * n) i 0 l)

pub distance_at : (n : ℕ) (links : List ℕ) (t g : ℕ) → t < n → g < n → get_or (distances n links) (g * n + t) 0 ≡ distance (linked (pairs_of links)) n t g
distance_at n links t g lt lg =
    distance_place n links (g * n + t) (mul-add-lt g n t n lg lt)
    ∙ ap (λ x. distance (linked (pairs_of links)) n x ((g * n + t) / n)) (mod-mul-add g n t lt)
    ∙ ap (λ x. distance (linked (pairs_of links)) n t x) (div-mul-add g n t lt)

-- where no tile is cut off, walks lead from each tile to each, by way of tile 0
pub distance_drawn : (n : ℕ) (links : List ℕ) → names_stranger n (pairs_of links) ≡ false → is_split n (pairs_of links) ≡ false → (t g : ℕ) → t < n → g < n
    → Shortest (By (linked (pairs_of links))) t g (distance (linked (pairs_of links)) n t g) × (distance (linked (pairs_of links)) n t g < n)
distance_drawn n links known whole t g lt lg =
    let ps = pairs_of links in
    let home : (t : ℕ) → t < n → (k : ℕ) × Walk (By (linked ps)) t 0 k = λ t l.
    (comes_decides n ps known t 0 (omega arith)).0 (not-false (comes_to (linked ps) n t 0) (none_below (λ t. not (comes_to (linked ps) n t 0)) n whole t l)) in
    let out = home t lt in
    let back = home g lg in
    distance_shortest (linked ps) n (linked_inside n ps known) t g (out.0 + back.0) lg (walk_on out.1 (walk_back (linked_back ps) back.1))

-- which of the last three tests of a survey refuses
abbrev walk_answer : Bool → Bool → Bool → Option Refusal
walk_answer split neck short = first_refusal ((split, Split) ∷ (neck, Neck) ∷ (short, ShortList) ∷ [])

split_first : (split neck short : Bool) → Exactly (walk_answer split neck short ≡ Some Split) (split ≡ true)
split_first true neck short = (λ e. refl, λ e. refl)
split_first false neck short = (λ e. absurd (omega (arith, number_given (λ k. 7 < k) ((neck, Neck) ∷ (short, ShortList) ∷ []) Split (omega arith, (omega arith, tt)) e)), λ e. absurd (false≢true e))

neck_second : (split neck short : Bool) → Exactly (walk_answer split neck short ≡ Some Neck) ((split ≡ false) × (neck ≡ true))
neck_second true neck short = (λ e. absurd (let z : ◌≡◌ {A = ℕ} 0 1 = cc in omega arith), λ e. absurd (true≢false e.0))
neck_second false true short = (λ e. (refl, refl), λ e. refl)
neck_second false false short = (λ e. absurd (omega (arith, number_given (λ k. 8 < k) ((short, ShortList) ∷ []) Neck (omega arith, tt) e)), λ e. absurd (false≢true e.1))

module _ (n : ℕ) (links before : List ℕ) where
  abbrev last_tests : List (Bool × Refusal)
  last_tests = walk_tests n links ++ ((ltb (length before) (n * n), ShortList) ∷ [])

  -- the tests of the links refuse with the numbers 1 to 6
  links_first : (r : Refusal) → 6 < refusal_number r → survey_refusal n links (length before) ≡ Some r → first_refusal (link_tests n links) ≡ None
  links_first r late e = elim (cases_option (first_refusal (link_tests n links))) [
    | inl none ↦ none
    | inr given ↦
        let q = given.0 in
        let low : refusal_number q < 7 = number_given (λ k. k < 7) (link_tests n links) q (omega arith, (omega arith, (omega arith, (omega arith, (omega arith, (omega arith, tt)))))) given.1 in
        let there = refused_on (link_tests n links) last_tests q given.1 in
        let same : q ≡ r = cc in
        absurd (omega (arith, ap refusal_number same))
  ]

  last_answer : first_refusal (link_tests n links) ≡ None
      → survey_refusal n links (length before) ≡ walk_answer (is_split n (pairs_of links)) (has_neck n (pairs_of links)) (ltb (length before) (n * n))
  last_answer none = passed_on (link_tests n links) last_tests none

  split_is : first_refusal (link_tests n links) ≡ None → Decides (is_split n (pairs_of links)) (CutOff n links)
  split_is none = let pass = links_pass n links none in split_decides n links (omega (arith, pass.least)) pass.known

  neck_is : first_refusal (link_tests n links) ≡ None → Decides (has_neck n (pairs_of links)) (Unringed n links)
  neck_is none = let pass = links_pass n links none in neck_decides n links pass.known pass.apart

  written_at : survey_refusal n links (length before) ≡ None → (t g : ℕ) → t < n → g < n → Shortest (Joined (drawn_model n links)) t g (get_or (after_survey n links before) (g * n + t) 0)
  written_at e t g lt lg =
      let tests = passed_both (link_tests n links) last_tests e in
      let whole = (passed_all last_tests tests.1).0 in
      let short = (distance_drawn n links (links_pass n links tests.0).known whole t g lt lg).0 in
      let after = distances n links ++ drop (n * n) before in
      let at : get_or after (g * n + t) 0 ≡ distance (linked (pairs_of links)) n t g =
      get_or_append_left (distances n links) (drop (n * n) before) 0 (g * n + t) (omega (arith, length-distances n links, mul-add-lt g n t n lg lt)) ∙ distance_at n links t g lt lg in
      subst (λ o. Shortest (Joined (drawn_model n links)) t g (get_or (elim o as (λ x. List ℕ) [ None ↦ after | Some r ↦ before ]) (g * n + t) 0)) (sym e)
      (subst (λ d. Shortest (Joined (drawn_model n links)) t g d) (sym at) short)

  pub surveyed : Surveyed n links (survey_refusal n links (length before)) (after_survey n links before)
  surveyed =
      let split = is_split n (pairs_of links) in
      let neck = has_neck n (pairs_of links) in
      let short = ltb (length before) (n * n) in
      record {
        split_given = (
          λ e. let none = links_first Split (omega arith) e in (none, (split_is none).0 ((split_first split neck short).0 (sym (last_answer none) ∙ e))),
          λ h. last_answer h.0 ∙ (split_first split neck short).1 ((split_is h.0).1 h.1),
        );
        neck_given = (
          λ e.
              let none = links_first Neck (omega arith) e in
              let tests = (neck_second split neck short).0 (sym (last_answer none) ∙ e) in
              (none, not_from_Decides split (split_is none) tests.0, (neck_is none).0 tests.1),
          λ h. last_answer h.0 ∙ (neck_second split neck short).1 (false_by split (λ e. h.1 ((split_is h.0).0 e)), (neck_is h.0).1 h.2),
        );
        written = written_at;
      }
