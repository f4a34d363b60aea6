use Rattle.std.proofs.Common.{ℕ, ◌<◌, get_or}
use Rattle.sending.proofs.gathering.gathered.Given as goal

-- each entry so far is what a call gave for its place
abbrev pub invariant-loop-k : goal.invariant-loop-k
invariant-loop-k g l = (j : ℕ) → j < l.k → goal.F-post g l.entry j (get_or l.cell-items j 0)
