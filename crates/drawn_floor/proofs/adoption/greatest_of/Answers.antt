use Rattle.std.proofs.Common.{◌∙◌}
use Rattle.std.proofs.lemmas.Iterator.{YieldsList-from_slice}
use Rattle.std.proofs.lemmas.Iterator.Consumers.{YieldsList-from_copied, max_from_yields_List}
use Rattle.drawn_floor.proofs.Adopting.{greatest_found}
use Rattle.drawn_floor.proofs.adoption.greatest_of.Goals as goal

pub returns : goal.returns
returns c =
    let numbers = c.args.numbers.now in
    c.unwrap_or.ensures ∙ greatest_found numbers c.max.result (max_from_yields_List _ c.max.result c.max.ensures.ran (YieldsList-from_copied (YieldsList-from_slice numbers cc)))
