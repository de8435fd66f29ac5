use Rattle.std.proofs.Common.{◌≡◌, ℕ, ◌+◌, ◌<◌, List, ◌++◌, length, get_or, sym, ap, ◌∙◌, subst, arith}
use Rattle.std.proofs.lemmas.List.{get_or_append_left, length-append}
use Rattle.drawn_floor.specs.Searches.{Passes}
use Rattle.drawn_floor.specs.Spreading.{Behind, Meets, Spreads, layer_of}
use Rattle.drawn_floor.specs.declared.search.Search.{Search}
use Rattle.drawn_floor.proofs.Spreading.{layer_met, meets_none}
use Rattle.drawn_floor.proofs.Rows.{BehindSome, behind_more, behind_last}
use Rattle.drawn_floor.proofs.search.Search.spread.Goals as goal

pub loop-place-init : goal.loop-place-init
loop-place-init c = meets_none _ (λ u h. absurd (omega (arith, h.1, h.2)))

pub tile_at-tile-requires : goal.tile_at-tile-requires
tile_at-tile-requires c =
    let met = c.args.self.now.met.items in
    let added = c.loop-place.invariant.2 in
    omega (arith, c.loop-place-test.true, c.count-end.ensures, ap length added.1, length-append met added.0)

pub meet_joined-requires : goal.meet_joined-requires
meet_joined-requires c =
    let met = c.args.self.now.met.items in
    let added = c.loop-place.invariant.2 in
    omega (arith, c.requires.room, added.2.count, ap length added.1, length-append met added.0)

pub loop-place-preserved : goal.loop-place-preserved
loop-place-preserved c =
    let old = c.args.self.now in
    let goes = Passes c.args.ways.joined.now.tiles c.args.ways.cut in
    let start : Search = record { steps = old.steps; met = old.met; nearer = c.count-end.result; far = old.far + 1 } in
    let added = c.loop-place.invariant.2 in
    let place = c.loop-place.place in
    let within : place < length old.met.items = omega (arith, c.loop-place-test.true, c.count-end.ensures) in
    let is : get_or old.met.items place 0 ≡ c.tile_at-tile.result = sym (c.tile_at-tile.ensures ∙ ap (λ xs. get_or xs place 0) added.1 ∙ get_or_append_left old.met.items added.0 0 place within) in
    behind_more goes old.met.items old.nearer place c.tile_at-tile.result c.loop-place.auto.place is start c.loop-place.self c.meet_joined.new.self c.loop-place.invariant c.meet_joined.ensures

pub returns-clause-met : goal.returns-clause-met
returns-clause-met c =
    let old = c.args.self.now in
    let start : Search = record { steps = old.steps; met = old.met; nearer = c.count-end.result; far = old.far + 1 } in
    c.loop-place.invariant.2.1 ∙ ap (λ xs. old.met.items ++ xs) (sym (layer_met start c.loop-place.self c.count-end.ensures c.loop-place.invariant))

pub returns-clause-spreads : goal.returns-clause-spreads
returns-clause-spreads c =
    let old = c.args.self.now in
    let start : Search = record { steps = old.steps; met = old.met; nearer = c.count-end.result; far = old.far + 1 } in
    let s = c.loop-place.self in
    let goes = Passes c.args.ways.joined.now.tiles c.args.ways.cut in
    let all : c.loop-place.place ≡ length old.met.items = omega (arith, c.loop-place-test.false, c.loop-place.auto.place-end, c.count-end.ensures, c.requires.some) in
    let passed = behind_last goes old.met.items old.nearer start s (subst (λ b. Meets (BehindSome goes old.met.items old.nearer b) start s) all c.loop-place.invariant) in
    let next = λ (d : ℕ) (layer : List ℕ). Spreads (Behind goes (layer_of old)) d old.steps s.steps layer in
    subst (λ d. next d (layer_of s)) (sym passed.0) (subst (next start.far) (sym (layer_met start s c.count-end.ensures passed)) passed.2.2)
