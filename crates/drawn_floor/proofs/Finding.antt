-- What a search finds, said of the links that the table was made of.
use Rattle.std.proofs.Common.{◌≡◌, ℕ, ◌<◌, ◌≤◌, Bool, true, false, not, ◌&&◌, zero, suc, eqb, List, [], ◌∷◌, length, get_or, take, Some, None, Decides, Option, sym, refl, ap, ◌∙◌, subst, inl, inr, arith}
use Rattle.std.specs.Bool.{MatchBool}
use Rattle.std.specs.List.{slice_get, list_all, list_any, zip, AllWithin, HoldsAt}
use Rattle.std.proofs.lemmas.List.{get_or_default, get_or-take, length-take-le}
use Rattle.std.proofs.lemmas.Option.{slice_get-get_or, slice_get_past}
use Rattle.std.proofs.lemmas.Bool.{false≢true, and_parts, and_from, cases_lt, eqb-true, eq-eqb, both_ways, not-true, not_from_false}
use Rattle.std.proofs.lemmas.Bool.Decides.{Decides-and, Decides-like, Decides-by_or, Decides-not, same_from_decides}
use Rattle.base.specs.Lists.{is_among}
use Rattle.base.proofs.Ascending.{false_by}
use Rattle.base.proofs.Numbers.{some_in, those_among}
use Rattle.base.proofs.Testing.{some_not_none, passed_on}
use Rattle.base.specs.Refusals.{first_refusal}
use Rattle.base.specs.declared.refusal.Refusal.TheVariants.{Split, Neck}
use Rattle.floor.specs.Links.{pairs_of, joins_two, linked, linked_to}
use Rattle.floor.specs.Survey.{names_stranger, linked_without, is_in_ring, is_split, has_neck, link_tests, walk_tests, drawing_refusal}
use Rattle.floor.specs.Walks.{Walk, By, Shortest}
use Rattle.floor.proofs.SurveyFacts.{linked_back, linked_inside, without_inside, pair_linked, joins_two_back, split_decides, LinksPass, links_pass}
use Rattle.floor.proofs.Walking.{walk_along, shortest_once, comes_to_decides}
use Rattle.drawn_floor.specs.Searches.{Passes, Found}
use Rattle.drawn_floor.specs.Tables.{Tabled, Listed}

-- a search finds one answer only
pub found_some : {Goes : ℕ → ℕ → Type 0} {t g d : ℕ} (o : Option ℕ) → Found Goes t g o → Shortest Goes t g d → o ≡ Some d
found_some {d = d} None none short = absurd (none d short.walk)
found_some (Some e) near short = ap Some (shortest_once near short)

pub some_found : {Goes : ℕ → ℕ → Type 0} {t g d : ℕ} (o : Option ℕ) → Found Goes t g o → o ≡ Some d → Shortest Goes t g d
some_found None none is = absurd (some_not_none is refl)
some_found {Goes} {t} {g} (Some e) near is = let same : e ≡ _ = cc in subst (λ k. Shortest Goes t g k) same near

pub found_cut : {Goes : ℕ → ℕ → Type 0} {t g : ℕ} (o : Option ℕ) → Found Goes t g o → ((k : ℕ) → Walk Goes t g k → ⊥) → o ≡ None
found_cut None none cut = refl
found_cut (Some d) near cut = absurd (cut d near.walk)

pub found_none : {Goes : ℕ → ℕ → Type 0} {t g : ℕ} (o : Option ℕ) → Found Goes t g o → o ≡ None → (k : ℕ) → Walk Goes t g k → ⊥
found_none None none is = none
found_none (Some d) near is = absurd (some_not_none refl is)

pub none_found : {Goes : ℕ → ℕ → Type 0} {t g : ℕ} (o : Option ℕ) → Found Goes t g o → ((k : ℕ) → Walk Goes t g k → ⊥) → o ≡ None
none_found None none away = refl
none_found (Some d) near away = absurd (away d near.walk)

-- a test for None, over the first n of a row
pub missing_decides : (test : Option ℕ → Bool) → test None ≡ true → ((d : ℕ) → test (Some d) ≡ false) → (n : ℕ) (row : List (Option ℕ)) → n ≤ length row → Decides (list_any test (take n row)) ((t : ℕ) × (t < n) × (get_or row t None ≡ None))
missing_decides test is not n row room =
    Decides-like (list_any test (take n row))
    (λ h. let l : h.0 < n = omega (arith, h.1, length-take-le n row room) in (h.0, l, sym (get_or-take n row h.0 None l) ∙ h.2 None))
    (λ h. (h.0, omega (arith, h.1, length-take-le n row room), λ d. get_or_default (take n row) h.0 d None (omega (arith, h.1, length-take-le n row room)) ∙ get_or-take n row h.0 None h.1 ∙ h.2))
    (Decides-by_or test (λ o. o ≡ None) (list_any test) each refl (λ o os. refl) (take n row))
  where
    each : (o : Option ℕ) → Decides (test o) (o ≡ None)
    each None = (λ e. refl, λ e. is)
    each (Some d) = (λ e. absurd (both_ways (test (Some d)) (not d) e), λ e. absurd (some_not_none refl e))

-- a number, and the steps that a search found
abbrev pub is_steps : ℕ × Option ℕ → Bool
is_steps (d, None) = false
is_steps (d, Some e) = eqb e d

is_steps_decides : (d : ℕ) (o : Option ℕ) → Decides (is_steps (d, o)) (o ≡ Some d)
is_steps_decides d None = (λ e. absurd (false≢true e), λ e. absurd (some_not_none e refl))
is_steps_decides d (Some e) = (λ is. ap Some (eqb-true e d is), λ is. let same : e ≡ d = cc in eq-eqb e d same)

-- a row of numbers agrees with a row of steps
pub row_decides : (numbers : List ℕ) (row : List (Option ℕ)) → length numbers ≤ length row → Decides (list_all is_steps (zip numbers row)) ((t : ℕ) → t < length numbers → get_or row t None ≡ Some (get_or numbers t 0))
row_decides [] row room = (λ e t l. absurd (omega arith), λ h. refl)
row_decides (d ∷ ds) [] room = absurd (omega arith)
row_decides (d ∷ ds) (o ∷ os) room =
    Decides-like (is_steps (d, o) && list_all is_steps (zip ds os))
    (λ h. both_places h.0 h.1)
    (λ h. (h 0 (omega arith), λ t l. h (suc t) (omega arith)))
    (Decides-and (is_steps (d, o)) (list_all is_steps (zip ds os)) (is_steps_decides d o) (row_decides ds os (omega arith)))
  where
    both_places : o ≡ Some d → ((t : ℕ) → t < length ds → get_or os t None ≡ Some (get_or ds t 0)) → (t : ℕ) → t < length (d ∷ ds) → get_or (o ∷ os) t None ≡ Some (get_or (d ∷ ds) t 0)
    both_places here later zero l = here
    both_places here later (suc t) l = later t (omega arith)

nth_in : (xs : List ℕ) (y : ℕ) → is_among y xs ≡ true → (k : ℕ) × (k < length xs) × (slice_get xs k ≡ Some y)
nth_in xs y e =
    let at = (some_in (eqb y) xs 0).0 e in
    (at.0, at.1, slice_get-get_or xs at.0 0 at.1 ∙ ap Some (sym (eqb-true y (get_or xs at.0 0) at.2)))

in_nth : (xs : List ℕ) (k y : ℕ) → slice_get xs k ≡ Some y → is_among y xs ≡ true
in_nth xs k y e = elim (cases_lt k (length xs)) [
  | inl l ↦ let here = slice_get-get_or xs k 0 l in let same : y ≡ get_or xs k 0 = cc in (some_in (eqb y) xs 0).1 (k, l, eq-eqb y (get_or xs k 0) same)
  | inr l ↦ absurd (some_not_none e (slice_get_past xs k l))
]

-- r says whether some pair has no walk round it
abbrev pub NeckFound : Bool → List (List (Option ℕ)) → List (ℕ × ℕ) → Type 0
NeckFound r tiles ps = Decides r ((i : ℕ) × (i < length ps) × (((k : ℕ) × Walk (Passes tiles (Some (get_or ps i (0, 0)))) (get_or ps i (0, 0)).0 (get_or ps i (0, 0)).1 k) → ⊥))

-- the answer of a test of all pairs
pub neck_decides : (r : Bool) (tiles : List (List (Option ℕ))) (ps : List (ℕ × ℕ)) →
    let Round : ℕ × ℕ → Type 0 = λ p. (k : ℕ) × Walk (Passes tiles (Some p)) p.0 p.1 k in
    MatchBool r ((i : ℕ) × (i < length ps) × HoldsAt (λ p. Round p → ⊥) ps i) (AllWithin Round ps 0 (length ps)) → NeckFound r tiles ps
neck_decides true tiles ps some = (λ e. (some.0, some.1, some.2 (0, 0)), λ h. refl)
neck_decides false tiles ps all = (λ e. absurd (false≢true e), λ h. absurd (h.2 (all h.0 (0, 0) (omega arith) h.1)))

-- a table of n tiles that holds for each tile those that the pairs join to it, at most six
module _ (n : ℕ) (ps : List (ℕ × ℕ)) (tiles : List (List (Option ℕ))) (known : names_stranger n ps ≡ false) (tabled : Tabled n (linked_to n ps) tiles) where
  linked_listed : (a b : ℕ) → linked ps a b ≡ true → Listed tiles b a
  linked_listed a b e =
      let low = linked_inside n ps known a b e in
      let at = nth_in (linked_to n ps b) a ((those_among (linked ps b) n a).1 (low.0, linked_back ps a b e)) in
      (at.0, tabled.0 b at.0 low.1 ∙ at.2)

  listed_linked : (a b : ℕ) → Listed tiles b a → linked ps a b ≡ true
  listed_linked a b l = elim (cases_lt b n) [
    | inl low ↦ linked_back ps b a ((those_among (linked ps b) n a).0 (in_nth (linked_to n ps b) l.0 a (sym (tabled.0 b l.0 low) ∙ l.1))).1
    | inr high ↦ absurd (some_not_none l.1 (tabled.1 b l.0 high))
  ]

  pub linked_passes : (a b : ℕ) → By (linked ps) a b → Passes tiles None a b
  linked_passes a b e = (linked_listed a b e, refl)

  pub passes_linked : (a b : ℕ) → Passes tiles None a b → By (linked ps) a b
  passes_linked a b h = listed_linked a b h.0

  module _ (p : ℕ × ℕ) where
    pub without_passes : (a b : ℕ) → By (linked_without ps p) a b → Passes tiles (Some p) a b
    without_passes a b e =
        let both = and_parts (linked ps a b) (not (joins_two p a b)) e in
        (linked_listed a b both.0, false_by (joins_two p b a) (λ j. both_ways (joins_two p a b) (not-true (joins_two p a b) both.1) (joins_two_back p b a j)))

    pub passes_without : (a b : ℕ) → Passes tiles (Some p) a b → By (linked_without ps p) a b
    passes_without a b h =
        and_from (linked ps a b) (not (joins_two p a b)) (listed_linked a b h.0)
        (not_from_false (joins_two p a b) (false_by (joins_two p a b) (λ j. both_ways (joins_two p b a) h.1 (joins_two_back p a b j))))

-- links that pass their tests, and a table made of them
module _ (n : ℕ) (links : List ℕ) (tiles : List (List (Option ℕ))) (pass : LinksPass n links) (tabled : Tabled n (linked_to n (pairs_of links)) tiles) where
  pub to_linked : (a b : ℕ) → Passes tiles None a b → By (linked (pairs_of links)) a b
  to_linked = passes_linked n (pairs_of links) tiles pass.known tabled

  pub from_linked : (a b : ℕ) → By (linked (pairs_of links)) a b → Passes tiles None a b
  from_linked = linked_passes n (pairs_of links) tiles pass.known tabled

  pub from_walk : {a b k : ℕ} → Walk (By (linked (pairs_of links))) a b k → Walk (Passes tiles None) a b k
  from_walk = walk_along from_linked

  -- a test that looks for a tile without a walk is that of the survey
  pub split_found : (r : Bool) → Decides r ((t : ℕ) × (t < n) × ((k : ℕ) → Walk (Passes tiles None) t 0 k → ⊥)) → r ≡ is_split n (pairs_of links)
  split_found r found = same_from_decides r (is_split n (pairs_of links))
      (Decides-like r (λ h. (h.0, h.1, λ k w. h.2 k (from_walk w))) (λ h. (h.0, h.1, λ k w. h.2 k (walk_along to_linked w))) found)
      (split_decides n links (omega (arith, pass.least)) pass.known)

  -- the pair at place i of the links has no walk round it
  off_ring : (i : ℕ) → i < length (pairs_of links) → let p = get_or (pairs_of links) i (0, 0) in Decides (not (is_in_ring n (pairs_of links) p)) (((k : ℕ) × Walk (Passes tiles (Some p)) p.0 p.1 k) → ⊥)
  off_ring i l =
      let ps = pairs_of links in
      let p = get_or ps i (0, 0) in
      let inside = linked_inside n ps pass.known p.0 p.1 (pair_linked ps i l) in
      Decides-not (is_in_ring n ps p) (Decides-like (is_in_ring n ps p)
      (λ w. (w.0, walk_along (without_passes n ps tiles pass.known tabled p) w.1))
      (λ w. (w.0, walk_along (passes_without n ps tiles pass.known tabled p) w.1))
      (comes_to_decides (linked_without ps p) n (without_inside n ps pass.known p) p.0 p.1 inside.1))

  -- a test that looks for such a pair is that of the survey
  pub neck_found : (r : Bool)
      → NeckFound r tiles (pairs_of links)
      → r ≡ has_neck n (pairs_of links)
  neck_found r found =
      let ps = pairs_of links in
      same_from_decides r (has_neck n ps)
      (Decides-like r (λ h. (h.0, h.1, (off_ring h.0 h.1).1 h.2)) (λ h. (h.0, h.1, (off_ring h.0 h.1).0 h.2)) found)
      (some_in (λ p. not (is_in_ring n ps p)) ps (0, 0))

-- a test that looks for such a pair, of the same pairs
pub necked : (r : Bool) (tiles : List (List (Option ℕ))) {ps qs : List (ℕ × ℕ)} → ps ≡ qs → NeckFound r tiles ps → NeckFound r tiles qs
necked r tiles same found = subst (NeckFound r tiles) same found

both : {a b c d : Bool} → a ≡ b → c ≡ d → ◌≡◌ {A = Bool × Bool} (a, c) (b, d)
both {b = b} {c = c} e f = ap (λ x. (x, c)) e ∙ ap (λ y. (b, y)) f

-- what `Drawing::fill` listed, and what the searches over it say of the links
module _ (n m : ℕ) (links : List ℕ) (tiles : List (List (Option ℕ))) (none : None ≡ first_refusal (link_tests n links)) (made : (m ≡ n) × Tabled n (linked_to n (pairs_of links)) tiles) where
  pub split_made : (r : Bool) → Decides r ((t : ℕ) × (t < m) × ((k : ℕ) → Walk (Passes tiles None) t 0 k → ⊥)) → r ≡ is_split n (pairs_of links)
  split_made r found = split_found n links tiles (links_pass n links (sym none)) made.1 r (subst (λ l. Decides r ((t : ℕ) × (t < l) × ((k : ℕ) → Walk (Passes tiles None) t 0 k → ⊥))) made.0 found)

  pub walk_answer : {split neck : Bool} → split ≡ is_split n (pairs_of links) → neck ≡ has_neck n (pairs_of links) → first_refusal ((split, Split) ∷ (neck, Neck) ∷ []) ≡ drawing_refusal n links
  walk_answer {split} {neck} s k =
      ap (λ b. first_refusal ((b, Split) ∷ (neck, Neck) ∷ [])) s ∙ ap (λ b. first_refusal ((is_split n (pairs_of links), Split) ∷ (b, Neck) ∷ [])) k
      ∙ sym (passed_on (link_tests n links) (walk_tests n links) (sym none))

  -- both searches together
  pub made_answer : {split neck : Bool} (r q : Bool) → r ≡ split → q ≡ neck → Decides r ((t : ℕ) × (t < m) × ((k : ℕ) → Walk (Passes tiles None) t 0 k → ⊥))
      → NeckFound q tiles (pairs_of links)
      → first_refusal ((split, Split) ∷ (neck, Neck) ∷ []) ≡ drawing_refusal n links
  made_answer r q s k found round =
      sym (ap (λ b. first_refusal ((b.0, Split) ∷ (b.1, Neck) ∷ [])) (both s k))
      ∙ walk_answer (split_made r found) (neck_found n links tiles (links_pass n links (sym none)) made.1 q round)
