use Rattle.std.proofs.Common.{ℕ, ◌<◌, get_or}
use Rattle.tables.proofs.clear.fill_front.Given as goal

-- each place passed has what a call gave
abbrev pub invariant-loop-place : goal.invariant-loop-place
invariant-loop-place g l = (k : ℕ) (d : _) → k < l.place-index → goal.F-post g l.item (get_or l.place-items k d)
