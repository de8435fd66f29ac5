use Rattle.std.proofs.Common.{ℕ, Some, refl, rules}
use Rattle.std.proofs.lemmas.Iterator.{cases_from_any}
use Rattle.std.proofs.lemmas.Iterator.Consumers.{YieldsList-from_first}
use borrow.Author.Tests.{tests}
use Rattle.floor.specs.Walks.{Walk}
use Rattle.drawn_floor.specs.Searches.{Passes}
use Rattle.drawn_floor.proofs.Finding.{neck_decides}
use Rattle.drawn_floor.proofs.joined_tiles.JoinedTiles.has_neck.Goals as goal

pub returns : goal.returns
returns c =
    let tiles = c.args.self.now.tiles in
    let ps = c.args.pairs in
    let Round : ℕ × ℕ → Type 0 = λ p. (k : ℕ) × Walk (Passes tiles (Some p)) p.0 p.1 k in
    neck_decides c.any.result tiles ps (cases_from_any c.any.new.self _ c.any.result (λ p. Round p → ⊥) Round c.any.ensures.ran (YieldsList-from_first (λ p. p) (λ p. p) ps refl) (λ p q called. search (rules, tests)) (λ p q called. search (rules, tests)))
