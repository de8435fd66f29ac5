use Rattle.std.proofs.Common.{◌≡◌, ◌<◌, length, [], ◌∷◌, refl, sym, subst, set, Some, arith, rules, lit<}
use Rattle.drawn_floor.proofs.Spreading.{none_at, unmet_some, spreads_one}
use Rattle.drawn_floor.specs.Spreading.{Spreads}
use Rattle.drawn_floor.proofs.search.Search.meet.Goals as goal

pub push-requires : goal.push-requires
push-requires c =
    let steps = c.args.self.now.steps in
    let within : c.args.tile < length steps = search rules in
    (lit< tt, omega (arith, c.requires, unmet_some steps c.args.tile within (none_at steps c.from.ensures c.if-is_none.ensures)))

pub returns-then-is_none : goal.returns-then-is_none
returns-then-is_none c =
    let steps = c.args.self.now.steps in
    let tile = c.args.tile in
    let far = c.args.self.now.far in
    let within : tile < length steps = search rules in (
      refl,
      refl,
      (
        tile ∷ [],
        c.push.ensures.items,
        subst (λ p. Spreads (λ u. u ≡ tile) far steps (set steps p (Some far)) (tile ∷ [])) (sym c.from-then-is_none.ensures) (spreads_one steps tile far within (none_at steps c.from.ensures c.if-is_none.ensures)),
      ),
    )
