-- The laws of a floor hold of every open floor. A ring through two joined tiles is a unit square.
use Rattle.std.proofs.Common.{◌≡◌, ℕ, ◌+◌, ◌-◌, ◌*◌, ◌/◌, ◌%◌, ◌<◌, ◌≤◌, true, ltb, leb, List, [], ◌∷◌, length, Option, sym, refl, ap, ◌∙◌, subst, ⊎_elim, mul_comm, arith}
use Rattle.std.specs.Bool.{then_some}
use Rattle.std.specs.Int.{abs_diff}
use Rattle.std.proofs.lemmas.Nat.{div-add-mod', mul-le, mul-add-lt, div-mul-add, mod-mul-add, div_below, le-div, mod_below}
use Rattle.std.proofs.lemmas.Bool.{and_parts, and_from, lt-ltb, ltb-true, eq-eqb, eqb-true, cases_order, cases_lt, leb-true, le-leb, cases_eq}
use Rattle.base.specs.Lists.{Among}
use Rattle.base.proofs.Ascending.{Ascends, Each, those-below}
use Rattle.floor.specs.Floors.{Laws, Nearer, Farthest, Ring, joined_to}
use Rattle.floor.specs.Grid.{steps, beside, corners, open_model}
use Rattle.floor.specs.Sides.{somes, sides}
use Rattle.floor.proofs.Answering.{none_joined, six_from_tiles}
use Rattle.floor.proofs.Optional.{ascends_if, each_if, among_if, among_rest, at_most_one}

-- column x of row y
abbrev place : ℕ → ℕ → ℕ → ℕ
place w x y = y * w + x

abbrev last_side : ℕ → ℕ → ℕ → List (Option ℕ)
last_side w n t = then_some (ltb (t + w) n) (t + w) ∷ []

abbrev later_sides : ℕ → ℕ → ℕ → List (Option ℕ)
later_sides w n t = then_some (ltb (t % w + 1) w) (t + 1) ∷ last_side w n t

abbrev low_sides : ℕ → ℕ → ℕ → List (Option ℕ)
low_sides w n t = then_some (ltb 0 (t % w)) (t - 1) ∷ later_sides w n t

-- another number below m, one from y
other : (m y : ℕ) → 2 ≤ m → y < m → (z : ℕ) × (z < m) × (abs_diff y z ≡ 1)
other m y two l = ⊎_elim (λ (k : y + 1 < m). (y + 1, k, omega arith)) (λ (k : m ≤ y + 1). (y - 1, omega arith, omega arith)) (cases_lt (y + 1) m)

-- small facts of distances, each with few numbers in reach
one_apart : (a b : ℕ) → abs_diff a b ≡ 1 → a ≡ b → ⊥
one_apart a b one e = omega arith

not_same : (x y u v : ℕ) → abs_diff x u + abs_diff y v ≡ 1 → x ≡ u → y ≡ v → ⊥
not_same x y u v one e f = omega arith

swapped : (a b : ℕ) → abs_diff a b ≡ abs_diff b a
swapped a b = omega arith

none : (a : ℕ) → abs_diff a a ≡ 0
none a = omega arith

one_way : (x y u v : ℕ) → abs_diff x u + abs_diff y v ≡ 1 → y ≡ v → abs_diff x u ≡ 1
one_way x y u v one e = omega arith

other_way : (x y u v : ℕ) → abs_diff x u + abs_diff y v ≡ 1 → (y ≡ v → ⊥) → (x ≡ u) × (abs_diff y v ≡ 1)
other_way x y u v one n = (omega arith, omega arith)

along : (a b c d : ℕ) → a ≡ b → abs_diff c d ≡ 1 → abs_diff a b + abs_diff c d ≡ 1
along a b c d e one = omega (arith, none a)

over : (a b c d : ℕ) → c ≡ d → abs_diff a b ≡ 1 → abs_diff a b + abs_diff c d ≡ 1
over a b c d e one = omega (arith, none c)

module _ (w h : ℕ) (wide : 2 ≤ w) (high : 2 ≤ h) (small : w * h ≤ 255) where
  col_place : (x y : ℕ) → x < w → place w x y % w ≡ x
  col_place x y l = mod-mul-add y w x l

  row_place : (x y : ℕ) → x < w → place w x y / w ≡ y
  row_place x y l = div-mul-add y w x l

  place_below : (x y : ℕ) → x < w → y < h → place w x y < w * h
  place_below x y l k = mul-add-lt y w x h k l

  of_place : (t : ℕ) → place w (t % w) (t / w) ≡ t
  of_place t = div-add-mod' t w

  col_below : (t : ℕ) → t % w < w
  col_below t = mod_below t w (omega arith)

  row_below : (t : ℕ) → t < w * h → t / w < h
  row_below t l = div_below t w h (omega arith) (omega (arith, mul_comm w h))

  beside_true : (s t : ℕ) → s < w * h → t < w * h → steps w s t ≡ 1 → beside w h s t ≡ true
  beside_true s t ls lt e = and_from _ _ (lt-ltb s (w * h) ls) (and_from _ _ (lt-ltb t (w * h) lt) (eq-eqb _ 1 e))

  beside_parts : (s t : ℕ) → beside w h s t ≡ true → (s < w * h) × (t < w * h) × (steps w s t ≡ 1)
  beside_parts s t e =
      let a = and_parts _ _ e in
      let b = and_parts _ _ a.1 in
      (ltb-true s (w * h) a.0, ltb-true t (w * h) b.0, eqb-true _ 1 b.1)

  steps-place : (x y u v : ℕ) → x < w → u < w → steps w (place w x y) (place w u v) ≡ abs_diff x u + abs_diff y v
  steps-place x y u v lx lu = rw (col_place x y lx, row_place x y lx, col_place u v lu, row_place u v lu)

  joins_place : (x y u v : ℕ) → x < w → y < h → u < w → v < h → abs_diff x u + abs_diff y v ≡ 1 → beside w h (place w x y) (place w u v) ≡ true
  joins_place x y u v lx ly lu lv e = beside_true (place w x y) (place w u v) (place_below x y lx ly) (place_below u v lu lv) (steps-place x y u v lx lu ∙ e)

  symmetric : (s t : ℕ) → beside w h s t ≡ true → beside w h t s ≡ true
  symmetric s t e = let a = beside_parts s t e in beside_true t s a.1 a.0 (omega (arith, a.2))

  itself : (t : ℕ) → steps w t t ≡ 0
  itself t = omega arith

  never_itself : (t : ℕ) → beside w h t t ≡ true → ⊥
  never_itself t e = omega (arith, (beside_parts t t e).2)

  bounded : (t g : ℕ) → t < w * h → g < w * h → steps w t g ≤ corners w h
  bounded t g lt lg = omega (arith, col_below t, col_below g, row_below t lt, row_below g lg)

  four : 4 ≤ w * h
  four = mul-le 2 2 w h wide high

  -- a step towards a goal
  module _ (x y a b : ℕ) (lx : x < w) (ly : y < h) (la : a < w) (lb : b < h) where
    to : (u v : ℕ) → u < w → v < h → abs_diff x u + abs_diff y v ≡ 1 → abs_diff u a + abs_diff v b < abs_diff x a + abs_diff y b → Nearer (open_model w h) (place w x y) (place w a b)
    to u v lu lv one less = record {
      tile = place w u v;
      joined = joins_place x y u v lx ly lu lv one;
      smaller = omega (arith, steps-place u v a b lu la, steps-place x y a b lx la);
    }

    nearer_place : (x ≡ a → y ≡ b → ⊥) → Nearer (open_model w h) (place w x y) (place w a b)
    nearer_place differ = ⊎_elim
        (λ (ex : x ≡ a). ⊎_elim (λ ey. absurd (differ ex ey))
        (⊎_elim (λ (l : y < b). to x (y + 1) lx (omega arith) (omega arith) (omega arith)) (λ (l : b < y). to x (y - 1) lx (omega arith) (omega arith) (omega arith)))
        (cases_order y b))
        (⊎_elim (λ (l : x < a). to (x + 1) y (omega arith) ly (omega arith) (omega arith)) (λ (l : a < x). to (x - 1) y (omega arith) ly (omega arith) (omega arith)))
        (cases_order x a)

  nearer : (t g : ℕ) → t < w * h → g < w * h → (t ≡ g → ⊥) → Nearer (open_model w h) t g
  nearer t g lt lg differ =
      let n = nearer_place (t % w) (t / w) (g % w) (g / w) (col_below t) (row_below t lt) (col_below g) (row_below g lg)
      (λ ex ey. differ (sym (of_place t) ∙ ap (λ x. place w x (t / w)) ex ∙ ap (λ y. place w (g % w) y) ey ∙ of_place g)) in
      subst (λ (s : ℕ). Nearer (open_model w h) s g) (of_place t) (subst (λ (u : ℕ). Nearer (open_model w h) (place w (t % w) (t / w)) u) (of_place g) n)

  reached : Farthest (open_model w h)
  reached = record {
    tile = place w 0 0;
    goal = place w (w - 1) (h - 1);
    tile_is = place_below 0 0 (omega arith) (omega arith);
    goal_is = place_below (w - 1) (h - 1) (omega arith) (omega arith);
    pull_is = steps-place 0 0 (w - 1) (h - 1) (omega arith) (omega arith) ∙ omega arith;
  }

  -- the tiles around t
  module _ (t : ℕ) (lt : t < w * h) where
    joins_to : (u a b : ℕ) → place w a b ≡ u → a < w → b < h → abs_diff (t % w) a + abs_diff (t / w) b ≡ 1 → beside w h t u ≡ true
    joins_to u a b e la lb one =
        subst (λ (v : ℕ). beside w h v u ≡ true) (of_place t) (subst (λ (v : ℕ). beside w h (place w (t % w) (t / w)) v ≡ true) e
        (joins_place (t % w) (t / w) a b (col_below t) (row_below t lt) la lb one))

    above_joins : w ≤ t → beside w h t (t - w) ≡ true
    above_joins l =
        let one : 1 ≤ t / w = le-div 1 t w (omega arith) (omega arith) in
        let again : (t / w - 1) + 1 ≡ t / w = omega arith in
        let row : (t / w) * w ≡ (t / w - 1) * w + w = omega (arith, ap (λ v. v * w) (sym again)) in
        joins_to (t - w) (t % w) (t / w - 1) (omega (arith, of_place t, row)) (col_below t) (omega (arith, row_below t lt)) (omega arith)

    left_joins : 0 < t % w → beside w h t (t - 1) ≡ true
    left_joins l = joins_to (t - 1) (t % w - 1) (t / w) (omega (arith, of_place t)) (omega (arith, col_below t)) (row_below t lt) (omega arith)

    right_joins : t % w + 1 < w → beside w h t (t + 1) ≡ true
    right_joins l = joins_to (t + 1) (t % w + 1) (t / w) (omega (arith, of_place t)) l (row_below t lt) (omega arith)

    below_place : place w (t % w) (t / w + 1) ≡ t + w
    below_place = omega (arith, of_place t)

    below_joins : t + w < w * h → beside w h t (t + w) ≡ true
    below_joins l =
        let under : place w (t % w) (t / w + 1) < w * h = omega (arith, below_place) in
        let row : t / w + 1 < h = omega (arith, row_below (place w (t % w) (t / w + 1)) under, row_place (t % w) (t / w + 1) (col_below t)) in
        joins_to (t + w) (t % w) (t / w + 1) below_place (col_below t) row (omega arith)

    last_ascends : (a : ℕ) → a ≤ t + w → Ascends a (somes (last_side w (w * h) t))
    last_ascends a l = ascends_if (ltb (t + w) (w * h)) (t + w) [] a (λ e. (l, tt)) (λ e. tt)

    later_ascends : (a : ℕ) → a ≤ t + 1 → Ascends a (somes (later_sides w (w * h) t))
    later_ascends a l = ascends_if (ltb (t % w + 1) w) (t + 1) (last_side w (w * h) t) a (λ e. (l, last_ascends (t + 1 + 1) (omega arith))) (λ e. last_ascends a (omega arith))

    low_ascends : (a : ℕ) → (0 < t % w → a ≤ t - 1) → a ≤ t + 1 → Ascends a (somes (low_sides w (w * h) t))
    low_ascends a q l = ascends_if (ltb 0 (t % w)) (t - 1) (later_sides w (w * h) t) a (λ e. (q (ltb-true 0 (t % w) e), later_ascends (t - 1 + 1) (omega arith))) (λ e. later_ascends a l)

    around_ascends : Ascends 0 (somes (sides w (w * h) t))
    around_ascends = ascends_if (leb w t) (t - w) (low_sides w (w * h) t) 0
        (λ e. (omega arith, low_ascends (t - w + 1) (λ q. omega (arith, leb-true w t e)) (omega arith)))
        (λ e. low_ascends 0 (λ q. omega arith) (omega arith))

    around_beside : Each (λ u. (u < w * h) × (beside w h t u ≡ true)) (somes (sides w (w * h) t))
    around_beside =
        let P : ℕ → Type 0 = λ u. (u < w * h) × (beside w h t u ≡ true) in
        let so : (u : ℕ) → beside w h t u ≡ true → P u = λ u e. ((beside_parts t u e).1, e) in
        each_if (leb w t) (t - w) (low_sides w (w * h) t) P (λ e. so (t - w) (above_joins (leb-true w t e)))
        (each_if (ltb 0 (t % w)) (t - 1) (later_sides w (w * h) t) P (λ e. so (t - 1) (left_joins (ltb-true 0 (t % w) e)))
        (each_if (ltb (t % w + 1) w) (t + 1) (last_side w (w * h) t) P (λ e. so (t + 1) (right_joins (ltb-true (t % w + 1) w e)))
        (each_if (ltb (t + w) (w * h)) (t + w) [] P (λ e. so (t + w) (below_joins (ltb-true (t + w) (w * h) e))) tt)))

    module _ (v : ℕ) (lv : v < w * h) (one : steps w t v ≡ 1) where
      in_low : Among v (somes (low_sides w (w * h) t)) → Among v (somes (sides w (w * h) t))
      in_low i = among_rest (leb w t) (t - w) (low_sides w (w * h) t) v i

      in_later : Among v (somes (later_sides w (w * h) t)) → Among v (somes (sides w (w * h) t))
      in_later i = in_low (among_rest (ltb 0 (t % w)) (t - 1) (later_sides w (w * h) t) v i)

      in_last : Among v (somes (last_side w (w * h) t)) → Among v (somes (sides w (w * h) t))
      in_last i = in_later (among_rest (ltb (t % w + 1) w) (t + 1) (last_side w (w * h) t) v i)

      same_row : t / w ≡ v / w → Among v (somes (sides w (w * h) t))
      same_row e =
          let row : (t / w) * w ≡ (v / w) * w = ap (λ z. z * w) e in
          ⊎_elim (λ (q : t % w ≡ v % w). absurd (omega arith))
          (⊎_elim
          (λ (q : t % w < v % w). in_later (among_if (ltb (t % w + 1) w) (t + 1) (last_side w (w * h) t) v (lt-ltb (t % w + 1) w (omega (arith, col_below v))) (omega (arith, of_place t, of_place v))))
          (λ (q : v % w < t % w). in_low (among_if (ltb 0 (t % w)) (t - 1) (later_sides w (w * h) t) v (lt-ltb 0 (t % w) (omega arith)) (omega (arith, of_place t, of_place v)))))
          (cases_order (t % w) (v % w))

      lower : t / w < v / w → Among v (somes (sides w (w * h) t))
      lower l =
          let e : v / w ≡ t / w + 1 = omega arith in
          let row : (v / w) * w ≡ (t / w) * w + w = omega (arith, ap (λ z. z * w) e) in
          let q : v ≡ t + w = omega (arith, of_place t, of_place v) in
          in_last (among_if (ltb (t + w) (w * h)) (t + w) [] v (lt-ltb (t + w) (w * h) (omega arith)) q)

      higher : v / w < t / w → Among v (somes (sides w (w * h) t))
      higher l =
          let e : t / w ≡ v / w + 1 = omega arith in
          let row : (t / w) * w ≡ (v / w) * w + w = omega (arith, ap (λ z. z * w) e) in
          among_if (leb w t) (t - w) (low_sides w (w * h) t) v (le-leb w t (omega (arith, of_place t))) (omega (arith, of_place t, of_place v))

      found : Among v (somes (sides w (w * h) t))
      found = ⊎_elim same_row (⊎_elim lower higher) (cases_order (t / w) (v / w))

    pub around_is : joined_to (open_model w h) t ≡ somes (sides w (w * h) t)
    unfolding joined_to
    around_is = those-below (beside w h t) (w * h) (somes (sides w (w * h) t)) around_ascends around_beside
        (λ v k e. found v (beside_parts t v e).1 (beside_parts t v e).2)

  tiles_only : (s t : ℕ) → beside w h s t ≡ true → (s < w * h) × (t < w * h)
  tiles_only s t e = let a = beside_parts s t e in (a.0, a.1)

  pub around_none : (t : ℕ) → w * h ≤ t → joined_to (open_model w h) t ≡ []
  around_none = none_joined (open_model w h) tiles_only

  six_on : (t : ℕ) → t < w * h → length (joined_to (open_model w h) t) ≤ 6
  six_on t l = omega (
    arith,
    ap length (around_is t l),
    at_most_one (leb w t) (t - w) (low_sides w (w * h) t),
    at_most_one (ltb 0 (t % w)) (t - 1) (later_sides w (w * h) t),
    at_most_one (ltb (t % w + 1) w) (t + 1) (last_side w (w * h) t),
    at_most_one (ltb (t + w) (w * h)) (t + w) [],
  )

  at_most_six : (t : ℕ) → length (joined_to (open_model w h) t) ≤ 6
  at_most_six = six_from_tiles (open_model w h) tiles_only six_on

  -- rings: the four tiles of a square
  differs : (x y u v : ℕ) → x < w → u < w → (x ≡ u → y ≡ v → ⊥) → place w x y ≡ place w u v → ⊥
  differs x y u v lx lu differ e = differ (sym (col_place x y lx) ∙ ap (λ z. z % w) e ∙ col_place u v lu) (sym (row_place x y lx) ∙ ap (λ z. z / w) e ∙ row_place u v lu)

  square : (x y u v a b c d : ℕ) → (x < w) × (y < h) → (u < w) × (v < h) → (a < w) × (b < h) → (c < w) × (d < h)
      → abs_diff x u + abs_diff y v ≡ 1 → abs_diff u a + abs_diff v b ≡ 1 → abs_diff a c + abs_diff b d ≡ 1 → abs_diff c x + abs_diff d y ≡ 1
      → (x ≡ a → y ≡ b → ⊥) → (u ≡ c → v ≡ d → ⊥) → Ring (open_model w h) (place w x y) (place w u v)
  square x y u v a b c d p q r s one two three fours across down = record {
    third = place w a b;
    others = place w c d ∷ [];
    different = (
      (differs x y u v p.0 q.0 (not_same x y u v one), (differs x y a b p.0 r.0 across, (differs x y c d p.0 s.0 (λ e f. not_same c d x y fours (sym e) (sym f)), tt))),
      (
        (differs u v a b q.0 r.0 (not_same u v a b two), (differs u v c d q.0 s.0 down, tt)),
        ((differs a b c d r.0 s.0 (not_same a b c d three), tt), (tt, tt)),
      ),
    );
    closed = (
      joins_place x y u v p.0 p.1 q.0 q.1 one,
      (
        joins_place u v a b q.0 q.1 r.0 r.1 two,
        (joins_place a b c d r.0 r.1 s.0 s.1 three, joins_place c d x y s.0 s.1 p.0 p.1 fours),
      ),
    );
  }

  ring_place : (x y u v : ℕ) → (x < w) × (y < h) → (u < w) × (v < h) → abs_diff x u + abs_diff y v ≡ 1 → Ring (open_model w h) (place w x y) (place w u v)
  ring_place x y u v p q one = ⊎_elim
      (λ (e : y ≡ v). let o = other h y high p.1 in
      let z = o.0 in let lz : z < h = o.1 in let bz : abs_diff y z ≡ 1 = o.2 in
      let bx : abs_diff x u ≡ 1 = one_way x y u v one e in
      square x y u v u z x z p q (q.0, lz) (p.0, lz) one
      (along u u v z refl (ap (λ k. abs_diff k z) (sym e) ∙ bz))
      (over u x z z refl (swapped u x ∙ bx))
      (along x x z y refl (swapped z y ∙ bz))
      (λ f g. one_apart y z bz g) (λ f g. one_apart x u bx (sym f)))
      (λ (n : y ≡ v → ⊥). let o = other w x wide p.0 in
      let z = o.0 in let lz : z < w = o.1 in let bz : abs_diff x z ≡ 1 = o.2 in
      let e : x ≡ u = (other_way x y u v one n).0 in
      let by : abs_diff y v ≡ 1 = (other_way x y u v one n).1 in
      square x y u v z v z y p q (lz, q.1) (lz, p.1) one
      (over u z v v refl (ap (λ k. abs_diff k z) (sym e) ∙ bz))
      (along z z v y refl (swapped v y ∙ by))
      (over z x y y refl (swapped z x ∙ bz))
      (λ f g. one_apart x z bz f) (λ f g. one_apart y v by (sym g)))
      (cases_eq y v)

  ring : (s t : ℕ) → beside w h s t ≡ true → Ring (open_model w h) s t
  ring s t e =
      let a = beside_parts s t e in
      let r = ring_place (s % w) (s / w) (t % w) (t / w) (col_below s, row_below s a.0) (col_below t, row_below t a.1) a.2 in
      subst (λ (v : ℕ). Ring (open_model w h) v t) (of_place s) (subst (λ (v : ℕ). Ring (open_model w h) (place w (s % w) (s / w)) v) (of_place t) r)

  -- the pull falls to 0 at the goal alone
  pull_elsewhere : (t g : ℕ) → t < w * h → g < w * h → steps w t g ≡ 0 → t ≡ g
  pull_elsewhere t g lt lg e =
      let x : t % w ≡ g % w = omega (arith, e) in
      let y : t / w ≡ g / w = omega (arith, e) in
      sym (of_place t) ∙ ap (λ c. place w c (t / w)) x ∙ ap (λ r. place w (g % w) r) y ∙ of_place g

  small_corners : corners w h ≤ 65535
  small_corners = omega (arith, mul-le w 2 w h (omega arith) high, mul-le 2 h w h wide (omega arith))

  pub open_laws : Laws (open_model w h)
  open_laws = record {
    least_size = omega (arith, four);
    greatest_size = small;
    tiles_only = tiles_only;
    never_itself = never_itself;
    both_ways = symmetric;
    at_most_six = at_most_six;
    ring = ring;
    greatest_pull = λ t g lt lg. omega (arith, bounded t g lt lg, small_corners);
    no_pull_at_goal = λ g lg. itself g;
    pull_elsewhere = pull_elsewhere;
    nearer = nearer;
    within_reach = bounded;
    reached = reached;
  }
