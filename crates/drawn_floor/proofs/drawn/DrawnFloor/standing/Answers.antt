use Rattle.std.proofs.Common.{◌≡◌, ◌*◌, ◌≤◌, length, take, is_some, sym, ap, ◌∙◌, arith}
use Rattle.std.proofs.lemmas.Bool.Decides.{not_from_Decides}
use Rattle.base.specs.Lists.{greatest}
use Rattle.floor.specs.Links.{pairs_of, linked_to}
use Rattle.drawn_floor.specs.Tables.{Tabled}
use Rattle.drawn_floor.proofs.Adopting.{refused_of, granted_of, no_floor, no_room, not_agreed, stands_made, placed_made, reach_made}
use Rattle.drawn_floor.proofs.Measuring.{product}
use Rattle.drawn_floor.proofs.drawn.DrawnFloor.standing.Goals as goal
use Rattle.drawn_floor.proofs.drawn.DrawnFloor.standing.Goals.{then-pulls-places-via-then-pulls-places, then-pulls-places-via-else-pulls-places+then-not-agrees}

pub returns-in_err-joined-clause-answer : goal.returns-in_err-joined-clause-answer
returns-in_err-joined-clause-answer c =
    let refused = refused_of c.floor.result (sym c.ok.ensures.value ∙ c.in_err-joined.was) in
    ap is_some c.from_residual.ensures ∙ no_floor c.args.drawing.size c.args.drawing.links.now c.args.pulls.now (refused.1 ∙ c.floor.ensures.answer)

pub returns-then-pulls-places-clause-answer : goal.returns-then-pulls-places-clause-answer
returns-then-pulls-places-clause-answer c =
    let n = c.args.drawing.size in
    let links = c.args.drawing.links.now in
    let pulls = c.args.pulls.now in
    let joined = c.in_ok-joined.joined in
    let told = granted_of c.floor.result joined (λ j. (j.size ≡ n) × Tabled n (linked_to n (pairs_of links)) j.tiles) (sym c.ok.ensures.value ∙ c.in_ok-joined.was) c.floor.ensures.made in
    elim c.then-pulls-places.branch [
      | then-pulls-places-via-then-pulls-places w ↦ no_room n links pulls (omega (arith, w.if-pulls-places.true, product c.from-width.ensures c.from-width.ensures))
      | then-pulls-places-via-else-pulls-places+then-not-agrees w ↦
          not_agreed n joined.size links pulls joined.tiles (told.0 ∙ c.floor.ensures.answer) told.1 (not_from_Decides w.agrees.result w.agrees.ensures w.if-not-agrees.true)
    ]

pub invariant_of-result : goal.invariant_of-result
invariant_of-result c =
    let n = c.args.drawing.size in
    let links = c.args.drawing.links.now in
    let pulls = c.args.pulls.now in
    let joined = c.in_ok-joined.joined in
    let told = granted_of c.floor.result joined (λ j. (j.size ≡ n) × Tabled n (linked_to n (pairs_of links)) j.tiles) (sym c.ok.ensures.value ∙ c.in_ok-joined.was) c.floor.ensures.made in
    let is-floor = told.0 ∙ c.floor.ensures.answer in
    let places = product c.from-width.ensures c.from-width.ensures in
    let room : n * n ≤ length pulls = omega (arith, c.if-pulls-places.false, places) in
    let found = c.agrees.ensures.0 c.if-not-agrees.false in
    record {
      stands = stands_made n joined.size links pulls joined.tiles is-floor told.1 room found;
      placed = placed_made n joined.size links pulls joined.tiles is-floor told.1;
      far = reach_made n joined.size links pulls joined.tiles is-floor told.1 room found (c.greatest_of.ensures ∙ ap (λ k. greatest (take k pulls)) places);
    }
