use Rattle.std.proofs.Common.{None, refl}
use Rattle.base.proofs.Testing.{some_not_none}
use Rattle.drawn_floor.proofs.Tabling.{same_rows, six_none}
use Rattle.drawn_floor.proofs.joined_tiles.JoinedTiles.new.Goals as goal

pub invariant_of-result : goal.invariant_of-result
invariant_of-result c = record {
  least = c.requires;
  fits = c.ranges.size.fits;
  long = refl;
  wide = six_none;
  below = λ t k u e. absurd (some_not_none e (same_rows 256 6 None t k));
}

pub returns-clause-none : goal.returns-clause-none
returns-clause-none c t k = same_rows 256 6 None t k
