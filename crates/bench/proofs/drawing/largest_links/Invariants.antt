-- Six bytes for each tile that the loop has passed.
use Rattle.std.proofs.Common.{◌≡◌, ◌*◌, vec_len}
use Rattle.bench.proofs.drawing.largest_links.Given as goal

abbrev pub invariant-loop-tile : goal.invariant-loop-tile
invariant-loop-tile l = vec_len l.links ≡ 6 * l.tile
