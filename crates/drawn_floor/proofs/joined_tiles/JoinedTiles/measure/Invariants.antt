-- The rows that the loop has passed hold the steps of shortest walks, places without a walk keep their numbers, and what
-- lies behind the table is as it was.
use Rattle.std.proofs.Common.{◌≡◌, ℕ, ◌+◌, ◌*◌, ◌<◌, get_or, drop, None}
use Rattle.floor.specs.Walks.{Shortest}
use Rattle.drawn_floor.specs.Searches.{IsCutOff, Passes}
use Rattle.drawn_floor.proofs.joined_tiles.JoinedTiles.measure.Given as goal

abbrev pub invariant-loop-goal : goal.invariant-loop-goal
invariant-loop-goal l =
    ((g t d : ℕ) → g < l.goal → t < l.self.size → Shortest (Passes l.self.tiles None) t g d → get_or l.distances (g * l.self.size + t) 0 ≡ d)
    × (drop (l.self.size * l.self.size) l.distances ≡ drop (l.self.size * l.self.size) l.initial.distances)
    × ((g t : ℕ) → g < l.self.size → t < l.self.size → IsCutOff l.self.tiles t g → get_or l.distances (g * l.self.size + t) 0 ≡ get_or l.initial.distances (g * l.self.size + t) 0)
