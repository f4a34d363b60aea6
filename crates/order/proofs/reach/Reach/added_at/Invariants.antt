use Rattle.std.proofs.Common.{◌≡◌, ◌+◌, ◌-◌, length}
use Rattle.order.specs.Columns.{column}
use Rattle.order.specs.Orders.{each, span}
use Rattle.order.specs.Reaches.{kept}
use Rattle.order.proofs.reach.Reach.added_at.Given as goal

-- the origins passed have added what is gone of the position
abbrev pub invariant-loop-origin : goal.invariant-loop-origin
invariant-loop-origin l =
    l.left + length (each l.origin (λ o. span o (kept l.self o) (column l.watch.faults l.watch.limit l.matrix o - kept l.self o))) ≡ l.position
