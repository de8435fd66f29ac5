use Rattle.std.proofs.Common.{sym, ap, ◌∙◌}
use Rattle.drawn_floor.proofs.Marking.{marking_start, marking_met, marking_more}
use Rattle.drawn_floor.proofs.marks.Marks.add_all.Goals as goal

pub loop-pair-init : goal.loop-pair-init
loop-pair-init c = marking_start c.args.pairs c.into_iter-pair-iterator.result c.args.self.now.marks (ap (λ p. p) c.into_iter-pair-iterator.ensures.into_iter_gives) c.requires

pub returns-then-has : goal.returns-then-has
returns-then-has c = marking_met c.loop-pair.invariant c.in-Some.pair c.next.new.self c.in-Some.ensures.steps (sym c.has.ensures ∙ c.if-has.true)

pub loop-pair-preserved : goal.loop-pair-preserved
loop-pair-preserved c =
    marking_more c.loop-pair.invariant c.in-Some.pair c.next.new.self c.in-Some.ensures.steps c.add.new.self.marks (sym c.has.ensures ∙ c.if-has.false) c.add.ensures
