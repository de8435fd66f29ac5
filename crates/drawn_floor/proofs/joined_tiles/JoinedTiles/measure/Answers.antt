use Rattle.std.proofs.Common.{◌≡◌, ◌+◌, ◌-◌, ◌*◌, ◌≤◌, length, drop, get_or, None, sym, ap, refl, ◌∙◌, subst, inl, inr, arith, rules}
use borrow.Rule.Slice.PartMut.{put_mid}
use Rattle.std.proofs.lemmas.List.{places, get_or-take, get_or-drop}
use Rattle.std.proofs.lemmas.Slice.{drop-put_mid}
use Rattle.std.proofs.lemmas.Bool.{cases_lt}
use Rattle.floor.specs.Walks.{Shortest}
use Rattle.drawn_floor.specs.Searches.{IsCutOff, Passes}
use Rattle.drawn_floor.proofs.Measuring.{product, row_end, row_before, row_after}
use Rattle.drawn_floor.proofs.joined_tiles.JoinedTiles.measure.Goals as goal

pub loop-goal-init : goal.loop-goal-init
loop-goal-init c = (λ g t d l k short. absurd (omega arith), refl, λ g t l k cut. refl)

pub slice_bounds-measure_to-end : goal.slice_bounds-measure_to-end
slice_bounds-measure_to-end c =
    let n = c.args.self.now.size in
    let start : c.from.result * c.from-width.result ≡ c.loop-goal.goal * n = product c.from.ensures c.from-width.ensures in
    let fits : c.loop-goal.goal * n + n ≤ length c.loop-goal.distances = row_end n c.loop-goal.goal (length c.loop-goal.distances) c.loop-goal-test.true (omega arith) in
    search rules

pub loop-goal-preserved : goal.loop-goal-preserved
loop-goal-preserved c =
    let n = c.args.self.now.size in
    let Goes = Passes c.args.self.now.tiles None in
    let goal = c.loop-goal.goal in
    let wide = c.from-width.result in
    let base = c.from.result * wide in
    let start : base ≡ goal * n = product c.from.ensures c.from-width.ensures in
    let same_width : wide ≡ n = c.from-width.ensures in
    let old = c.loop-goal.distances in
    let row = c.measure_to.new.row in
    let new = put_mid base (base + wide - base) old row in
    let fits : base + wide ≤ length old = omega (arith, start, same_width, row_end n goal (length old) c.loop-goal-test.true (omega arith)) in
    let long : length row ≡ n = search rules in
    let width : base + wide - base ≡ n = omega arith in
    let all = row_end n goal (n * n) c.loop-goal-test.true (omega arith) in (
      λ g t d a b short. elim (cases_lt g goal) [
        | inl less ↦
            let before = row_before n goal g t less b in
            let same : get_or new (g * n + t) 0 ≡ get_or old (g * n + t) 0 = search (rules, places) in
            same ∙ c.loop-goal.invariant.0 g t d less b short
        | inr more ↦
            let is : g ≡ goal = omega arith in
            let same : get_or new (goal * n + t) 0 ≡ get_or row t 0 = search (rules, places) in
            ap (λ z. get_or new (z * n + t) 0) is ∙ same ∙ c.measure_to.ensures.found t d b (subst (λ z. Shortest Goes t z d) is short)
      ],
      drop-put_mid base (base + wide - base) old row (n * n) (omega arith) (omega arith) (omega arith) ∙ c.loop-goal.invariant.1,
      λ g t a b cut. elim (cases_lt g goal) [
        | inl less ↦
            let before = row_before n goal g t less b in
            let same : get_or new (g * n + t) 0 ≡ get_or old (g * n + t) 0 = search (rules, places) in
            same ∙ c.loop-goal.invariant.2 g t a b cut
        | inr more ↦ elim (cases_lt goal g) [
          | inl less ↦
              let after = row_after n goal g t less in
              let same : get_or new (g * n + t) 0 ≡ get_or old (g * n + t) 0 = search (rules, places) in
              same ∙ c.loop-goal.invariant.2 g t a b cut
          | inr not_more ↦
              let is : g ≡ goal = omega arith in
              let same : get_or new (goal * n + t) 0 ≡ get_or row t 0 = search (rules, places) in
              let kept = c.measure_to.ensures.kept t b (subst (λ z. IsCutOff c.args.self.now.tiles t z) is cut) in
              let part = get_or-take (base + wide - base) (drop base old) t 0 (omega arith) ∙ get_or-drop base old t 0 ∙ ap (λ z. get_or old (z + t) 0) (start ∙ sym (ap (λ z. z * n) is)) in
              ap (λ z. get_or new (z * n + t) 0) is ∙ same ∙ kept ∙ part ∙ c.loop-goal.invariant.2 g t a b cut
        ]
      ],
    )

pub returns : goal.returns
returns c = record { found = λ g t d a b. c.loop-goal.invariant.0 g t d (omega arith) b; kept = c.loop-goal.invariant.2; beyond = c.loop-goal.invariant.1 }
