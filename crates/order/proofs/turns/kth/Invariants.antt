use Rattle.std.proofs.Common.{◌≤◌, length, take}
use Rattle.order.specs.Orders.{order}
use Rattle.order.specs.Reaches.{Reached}
use Rattle.order.proofs.turns.kth.Given as goal

-- the order over the matrices taken ends before the position
abbrev pub invariant-loop-matrix : goal.invariant-loop-matrix
invariant-loop-matrix l =
    Reached l.watch.faults l.watch.limit (take l.matrix-index l.matrices) l.reach
    × (length (order l.watch.faults l.watch.limit (take l.matrix-index l.matrices)) ≤ l.k)
