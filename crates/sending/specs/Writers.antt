-- What whoever writes a decided frame may rely on.
use Rattle.std.specs.Prelude.{ℕ, ◌<◌, ◌≤◌}
use Rattle.tables.specs.Plans.{Lengths, Plan}
use Rattle.tables.specs.Stations.{Ready}

-- The tables are long enough, the wire has a place left, and the number is one of the watch.
pub record Sendable (p : Plan) (end : ℕ) (t : Lengths) (i q : ℕ) : Type 0 where
  pub ready : Ready p t i
  pub free : end < p.wire
  pub number : q ≤ p.limit
