use Rattle.std.proofs.Common.{◌≡◌, ◌+◌, ◌≤◌, [], ◌∷◌, ◌++◌, length, ltb, true, None, sym, ap, ◌∙◌, rules, arith, tests}
use Rattle.std.specs.List.{slice_get}
use Rattle.std.proofs.lemmas.Bool.{le-ltb, lt-ltb}
use Rattle.std.proofs.lemmas.List.{length_push}
use Rattle.base.proofs.Numbers.{those_below_none, those_more_yes, those_more_no, length-those_le}
use Rattle.drawn_floor.specs.Marks.{marked, marked_to}
use Rattle.drawn_floor.proofs.Tabling.{from_fn_at, rowed}
use Rattle.drawn_floor.proofs.marks.Marks.row.Goals as goal
use Rattle.drawn_floor.proofs.marks.Marks.row.Goals.{then-has+in_ok-ok, else-has}

pub loop-other-init : goal.loop-other-init
loop-other-init c = c.new-joined.ensures ∙ sym (those_below_none (marked c.args.self.now.marks c.args.tile))

pub returns-in_err-ok : goal.returns-in_err-ok
returns-in_err-ok c =
    let test = marked c.args.self.now.marks c.args.tile in
    let other = c.loop-other.other in
    let full : length c.loop-other.joined.items ≡ 6 = search rules in
    let one-more = those_more_yes test other (sym c.has.ensures ∙ c.if-has.true) in
    let few = length-those_le test (other + 1) c.args.size (omega (arith, c.loop-other-test.true)) in
    let e : ltb 6 (length (marked_to c.args.size c.args.self.now.marks c.args.tile)) ≡ true =
    lt-ltb 6 _ (omega (arith, full, ap length c.loop-other.invariant, ap length one-more, length_push (marked_to other c.args.self.now.marks c.args.tile) other, few)) in
    rw c.from_residual.ensures e

pub loop-other-preserved : goal.loop-other-preserved
loop-other-preserved c =
    let test = marked c.args.self.now.marks c.args.tile in
    let other = c.loop-other.other in
    elim c.if-has.branch [
      | then-has+in_ok-ok w ↦
          let pushed : c.if-has.joined.items ≡ c.loop-other.joined.items ++ other ∷ [] = search rules in
          pushed ∙ ap (λ xs. xs ++ other ∷ []) c.loop-other.invariant ∙ sym (those_more_yes test other (sym c.has.ensures ∙ w.if-has.true))
      | else-has w ↦ ap (λ j. j.items) w.joined-is ∙ c.loop-other.invariant ∙ sym (those_more_no test other (sym c.has.ensures ∙ w.if-has.false))
    ]

pub returns : goal.returns
returns c =
    let marks = c.args.self.now.marks in
    let us = marked_to c.args.size marks c.args.tile in
    let all : c.loop-other.other ≡ c.args.size = omega (arith, c.loop-other.auto.other-end, c.loop-other-test.false) in
    let listed = c.as_slice-joined.result.now in
    let same : listed ≡ us = c.as_slice-joined.ensures.value ∙ c.loop-other.invariant ∙ ap (λ n. marked_to n marks c.args.tile) all in
    let few : length us ≤ 6 = omega (arith, ap length same, c.as_slice-joined.ensures.fits) in (
      le-ltb 6 (length us) few,
      rowed us c.from_fn.result c.from_fn.ensures.items.long few
          (λ k l. from_fn_at _ (slice_get listed) _ (λ i y q called. search (rules, tests)) c.from_fn.result 6 k None c.from_fn.ensures.items l ∙ ap (λ ts. slice_get ts k) same),
    )
