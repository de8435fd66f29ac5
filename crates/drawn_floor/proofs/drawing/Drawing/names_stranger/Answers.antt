use Rattle.std.proofs.Common.{◌||◌, leb, rules}
use Rattle.std.proofs.lemmas.Iterator.Consumers.{YieldsList-from_first}
use Rattle.std.proofs.lemmas.Iterator.Search.{any_from_yields_List}
use borrow.Author.Tests.{tests}
use Rattle.floor.specs.Links.{pairs_of}
use Rattle.drawn_floor.proofs.drawing.Drawing.names_stranger.Goals as goal

pub returns : goal.returns
returns c =
    any_from_yields_List (λ p. leb c.args.self.now.size p.0 || leb c.args.self.now.size p.1) c.any.new.self _ _ c.any.ensures.ran (YieldsList-from_first (λ p. p) (λ p. p) (pairs_of c.args.self.now.links.now) c.pairs.ensures) (λ x b q k. search (rules, tests))
