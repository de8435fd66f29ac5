use Rattle.std.proofs.Common.{ℕ, ◌<◌, get_or, refl, ◌∙◌, rules, arith, tests}
use Rattle.std.proofs.lemmas.Iterator.{YieldsList-from_range, YieldsList-from_zip, cases_from_all}
use Rattle.std.proofs.lemmas.Iterator.Consumers.{YieldsList-at}
use Rattle.std.proofs.lemmas.Iterator.Adapters.{serves_from_places}
use Rattle.drawn_floor.specs.Searches.{IsSteps}
use Rattle.drawn_floor.proofs.Chunking.{YieldsList-from_rows, numbered_fits, rows_agree}
use Rattle.drawn_floor.proofs.joined_tiles.JoinedTiles.agrees.Goals as goal

pub all-requires-clause-callable : goal.all-requires-clause-callable
all-requires-clause-callable c =
    let n = c.args.self.now.size in
    let numbers = c.args.numbers.now in
    let some : 0 < n = omega (arith, c.args.self.now.least) in
    serves_from_places (YieldsList-from_zip (YieldsList-at c.zip.ensures.first (YieldsList-from_range 0 n n refl (omega arith))) (YieldsList-at c.zip.ensures.second (YieldsList-from_rows n numbers some (c.chunks_exact.ensures.size ∙ c.from.ensures) c.chunks_exact.ensures.rest)))
    (λ x q r. search (rules, tests)) (λ x k l is. let fits = numbered_fits n numbers some c.requires k (x.0, x.1.now) l is in search (rules, tests))

pub returns : goal.returns
returns c =
    let n = c.args.self.now.size in
    let numbers = c.args.numbers.now in
    let some : 0 < n = omega (arith, c.args.self.now.least) in
    let Agrees = λ (g t d : ℕ). IsSteps c.args.self.now.tiles t g d in
    rows_agree n numbers some c.requires c.all.result Agrees (cases_from_all c.all.new.self _ c.all.result
    (λ x. (t : ℕ) → t < n → Agrees x.0 t (get_or x.1 t 0))
    (λ x. ((t : ℕ) → t < n → Agrees x.0 t (get_or x.1 t 0)) → ⊥)
    c.all.ensures.ran
    (YieldsList-from_zip (YieldsList-at c.zip.ensures.first (YieldsList-from_range 0 n n refl (omega arith))) (YieldsList-at c.zip.ensures.second (YieldsList-from_rows n numbers some (c.chunks_exact.ensures.size ∙ c.from.ensures) c.chunks_exact.ensures.rest)))
    (λ x q k. search (rules, tests))
    (λ x q k. search (rules, tests)))
