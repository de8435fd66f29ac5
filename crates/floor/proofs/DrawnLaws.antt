-- The laws of a floor hold of every drawn floor whose survey finds nothing to refuse.
use Rattle.std.proofs.Common.{◌≡◌, ℕ, ◌+◌, ◌*◌, ◌/◌, ◌%◌, ◌<◌, ◌≤◌, true, false, ltb, List, length, None, sym, refl, ◌∙◌, inl, inr, arith}
use Rattle.std.proofs.lemmas.Nat.{mul-le, mul-add-lt, div_below, mod_below}
use Rattle.std.proofs.lemmas.Bool.{both_ways, cases_Bool, ltb-false}
use Rattle.std.proofs.lemmas.Bool.Decides.{not_from_Decides}
use Rattle.base.proofs.Numbers.{greatest_bound, greatest_reached, none_below}
use Rattle.base.proofs.Testing.{passed_all, passed_both}
use Rattle.floor.proofs.Answering.{six_from_tiles}
use Rattle.floor.proofs.SurveyFacts.{linked_back, linked_differ, linked_inside, ring_decides, neck_decides, links_pass, length-distances, distance_place, distance_at, distance_drawn}
use Rattle.floor.specs.Drawn.{drawn_model}
use Rattle.floor.specs.Floors.{Laws, Nearer, Farthest, Ring, joined_to}
use Rattle.floor.specs.Links.{pairs_of, linked, linked_to}
use Rattle.floor.specs.Survey.{names_stranger, names_itself, is_crowded, is_split, has_neck, is_in_ring, drawing_refusal, link_tests, walk_tests, distances}
use Rattle.floor.specs.Walks.{Walk, stay, step}

-- the first step of a shortest walk comes nearer
first_step : {Goes : ℕ → ℕ → Type 0} {t g d : ℕ} → (t ≡ g → ⊥) → Walk Goes t g d → (u : ℕ) × (k : ℕ) × Goes t u × Walk Goes u g k × (k < d)
first_step differ stay = absurd (differ refl)
first_step differ (step {b = u} {k = k} goes walk) = (u, k, goes, walk, omega arith)

no_steps : {Goes : ℕ → ℕ → Type 0} {t g d : ℕ} → Walk Goes t g d → d ≡ 0 → t ≡ g
no_steps stay e = refl
no_steps (step goes walk) e = absurd (omega arith)

-- the greatest of the distances stands in some place
reached : (n : ℕ) (links : List ℕ) → 0 < n → Farthest (drawn_model n links)
reached n links some =
    let far = greatest_reached (distances n links) (omega (arith, length-distances n links, mul-le 1 1 n n some some)) in
    let i = far.0 in
    let l : i < n * n = omega (arith, far.1, length-distances n links) in
    record {
      tile = i % n;
      goal = i / n;
      tile_is = mod_below i n some;
      goal_is = div_below i n n some l;
      pull_is = sym (distance_place n links i l) ∙ far.2;
    }

module _ (n : ℕ) (links : List ℕ) (known : names_stranger n (pairs_of links) ≡ false) where
  at_most_six : is_crowded n (pairs_of links) ≡ false → (t : ℕ) → length (joined_to (drawn_model n links) t) ≤ 6
  unfolding joined_to
  at_most_six roomy = six_from_tiles (drawn_model n links) (linked_inside n (pairs_of links) known)
      (λ t l. ltb-false 6 _ (none_below (λ t. ltb 6 (length (linked_to n (pairs_of links) t))) n roomy t l))

  ring : names_itself (pairs_of links) ≡ false → has_neck n (pairs_of links) ≡ false → (a b : ℕ) → linked (pairs_of links) a b ≡ true → Ring (drawn_model n links) a b
  ring apart none a b e =
      let ps = pairs_of links in
      let through = ring_decides n links known a b e (linked_differ ps apart a b e) in
      elim (cases_Bool (is_in_ring n ps (a, b))) [
        | inl h ↦ through.0 h
        | inr h ↦ absurd (both_ways (has_neck n ps) none ((neck_decides n links known apart).1 (a, b, e, not_from_Decides (is_in_ring n ps (a, b)) through h)))
      ]

  nearer : is_split n (pairs_of links) ≡ false → (t g : ℕ) → t < n → g < n → (t ≡ g → ⊥) → Nearer (drawn_model n links) t g
  nearer whole t g lt lg differ =
      let far = distance_drawn n links known whole in
      let on = first_step differ (far t g lt lg).0.walk in
      let u = on.0 in
      let lu : u < n = (linked_inside n (pairs_of links) known t u on.2).1 in
      record { tile = u; joined = on.2; smaller = omega (arith, (far u g lu lg).0.least on.1 on.3, on.4) }

pub drawn_laws : (n : ℕ) (links : List ℕ) → drawing_refusal n links ≡ None → Laws (drawn_model n links)
drawn_laws n links e =
    let ps = pairs_of links in
    let tests = passed_both (link_tests n links) (walk_tests n links) e in
    let pass = links_pass n links tests.0 in
    let walks = passed_all (walk_tests n links) tests.1 in
    let far = distance_drawn n links pass.known walks.0 in
    record {
      least_size = pass.least;
      greatest_size = pass.most;
      tiles_only = linked_inside n ps pass.known;
      never_itself = λ a j. linked_differ ps pass.apart a a j refl;
      both_ways = linked_back ps;
      at_most_six = at_most_six n links pass.known pass.roomy;
      ring = ring n links pass.known pass.apart walks.1.0;
      greatest_pull = λ t g lt lg. omega (arith, (far t g lt lg).1, pass.most);
      no_pull_at_goal = λ g lg. omega (arith, (far g g lg lg).0.least 0 stay);
      pull_elsewhere = λ t g lt lg none. no_steps (far t g lt lg).0.walk none;
      nearer = nearer n links pass.known walks.0;
      within_reach = λ t g lt lg. omega (arith, distance_at n links t g lt lg, greatest_bound (distances n links) (g * n + t) (omega (arith, length-distances n links, mul-add-lt g n t n lg lt)));
      reached = reached n links (omega (arith, pass.least));
    }
