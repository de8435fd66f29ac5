-- A ring and a walk that avoids the pair it closes: each gives the other.
use Rattle.std.proofs.Common.{◌≡◌, ℕ, suc, ◌<◌, ◌≤◌, ◌⊎◌, List, [], ◌∷◌, sym, refl, subst, inl, inr, arith}
use Rattle.base.specs.Lists.{Nowhere, Different}
use Rattle.floor.specs.Floors.{FloorModel, Joined, Leads, Ring}
use Rattle.floor.specs.Walks.{Walk, stay, step, Shortest}

-- x and y are a and b, in either order
abbrev pub Pair : ℕ → ℕ → ℕ → ℕ → Type 0
Pair a b x y = ((a ≡ x) × (b ≡ y)) ⊎ ((a ≡ y) × (b ≡ x))

module _ {Goes : ℕ → ℕ → Type 0} where
  -- the tiles of a walk, all but the last
  abbrev tiles_of : {x home k : ℕ} → Walk Goes x home k → List ℕ
  tiles_of stay = []
  tiles_of {x} (step goes walk) = x ∷ tiles_of walk

  follows : (floor : FloorModel) → ((x y : ℕ) → Goes x y → Joined floor x y) → {x y home k : ℕ} → Joined floor x y → (walk : Walk Goes y home k) → Leads floor home x (tiles_of walk)
  follows floor joins j stay = j
  follows floor joins j (step {a = y} {b = z} goes walk) = (j, follows floor joins (joins y z goes) walk)

  -- a tile from which every walk home is longer
  not_on : {x home k : ℕ} (walk : Walk Goes x home k) (z : ℕ) → ((m : ℕ) → Walk Goes z home m → k < m) → Nowhere z (tiles_of walk)
  not_on stay z far = tt
  not_on {x} {home} (step {k = k} goes walk) z far = (
    λ (e : z ≡ x). omega (arith, far (suc k) (subst (λ y. Walk Goes y home (suc k)) (sym e) (step goes walk))),
    not_on walk z (λ m other. omega (arith, far m other)),
  )

  -- no tile of a shortest walk is its end, and no two are the same: each is nearer to the end than those before it
  before_home : {x home k : ℕ} (walk : Walk Goes x home k) → ((m : ℕ) → Walk Goes x home m → k ≤ m) → Nowhere home (tiles_of walk)
  before_home stay least = tt
  before_home {x} {home} (step goes walk) least = (
    λ (e : home ≡ x). omega (arith, least 0 (subst (λ y. Walk Goes x y 0) (sym e) stay)),
    before_home walk (λ m other. omega (arith, least (suc m) (step goes other))),
  )

  all_different : {x home k : ℕ} (walk : Walk Goes x home k) → ((m : ℕ) → Walk Goes x home m → k ≤ m) → Different (tiles_of walk)
  all_different stay least = tt
  all_different {x} (step goes walk) least =
      (not_on walk x (λ m other. omega (arith, least m other)), all_different walk (λ m other. omega (arith, least (suc m) (step goes other))))

module _ (floor : FloorModel) where
  -- a shortest walk that avoids the pair makes a ring with it
  pub ring_from : (a b k : ℕ) → Joined floor a b → (a ≡ b → ⊥) → (Goes : ℕ → ℕ → Type 0) → ((x y : ℕ) → Goes x y → Joined floor x y) → (Goes b a → ⊥) → Shortest Goes b a k → Ring floor a b
  ring_from a b k joined differ Goes joins never s = by_walk a b k joined differ Goes joins never s.walk s.least
    where
      by_walk : (a b k : ℕ) → Joined floor a b → (a ≡ b → ⊥) → (Goes : ℕ → ℕ → Type 0) → ((x y : ℕ) → Goes x y → Joined floor x y) → (Goes b a → ⊥)
          → (walk : Walk Goes b a k) → ((m : ℕ) → Walk Goes b a m → k ≤ m) → Ring floor a b
      by_walk a b k joined differ Goes joins never stay least = absurd (differ refl)
      by_walk a b k joined differ Goes joins never (step goes stay) least = absurd (never goes)
      by_walk a b k joined differ Goes joins never (step goes (step {a = c} on walk)) least =
          let whole = step goes (step on walk) in
          record {
            third = c;
            others = tiles_of walk;
            different = (before_home whole least, all_different whole least);
            closed = follows floor joins joined whole;
          }

  -- a step from a tile that is neither a nor b
  elsewhere : (a b x y : ℕ) → (a ≡ x → ⊥) → (b ≡ x → ⊥) → Pair a b x y → ⊥
  elsewhere a b x y p q (inl e) = p e.0
  elsewhere a b x y p q (inr e) = q e.1

  walked : (a b x : ℕ) (ys : List ℕ) → (a ≡ x → ⊥) → (b ≡ x → ⊥) → Nowhere a ys → Nowhere b ys → Leads floor a x ys → (k : ℕ) × Walk (λ x y. Joined floor x y × (Pair a b x y → ⊥)) x a k
  walked a b x [] p q u v j = (1, step (j, elsewhere a b x a p q) stay)
  walked a b x (y ∷ ys) p q u v j =
      let rest = walked a b y ys u.0 v.0 u.1 v.1 j.1 in
      (suc rest.0, step (j.0, elsewhere a b x y p q) rest.1)

  -- the ring without the pair is a walk from b to a
  pub ring_walk : (a b : ℕ) → Ring floor a b → (k : ℕ) × Walk (λ x y. Joined floor x y × (Pair a b x y → ⊥)) b a k
  ring_walk a b r =
      let a_off = r.different.0 in
      let b-off = r.different.1.0 in
      let rest = walked a b r.third r.others a_off.1.0 b-off.0 a_off.1.1 b-off.1 r.closed.1.1 in
      (suc rest.0, step (r.closed.1.0, leaves a b r.third a_off.0 a_off.1.0) rest.1)
    where
      leaves : (a b c : ℕ) → (a ≡ b → ⊥) → (a ≡ c → ⊥) → Pair a b b c → ⊥
      leaves a b c p q (inl e) = p e.0
      leaves a b c p q (inr e) = q e.0
