use Rattle.std.proofs.Common.{◌≡◌, ◌<◌, leb}
use lib.Count.{ones}
use Rattle.model.specs.Sets.{gathered}
use Rattle.order.specs.Columns.{cell, largest}
use Rattle.order.proofs.Searching.{enough}
use Rattle.order.proofs.columns.column.Given as goal

-- nothing above s has enough rows
abbrev pub invariant-loop-s : goal.invariant-loop-s
invariant-loop-s l =
    largest l.initial.s (λ s. enough l.quorum l.n (λ k. leb s (cell l.n l.matrix k l.origin)))
    ≡ largest l.s (λ s. enough l.quorum l.n (λ k. leb s (cell l.n l.matrix k l.origin)))

-- the rows below k that have s or more are too few
abbrev pub invariant-loop-k : goal.invariant-loop-k
invariant-loop-k l = (l.rows ≡ ones (gathered l.k (λ k. leb l.s (cell l.n l.matrix k l.origin)))) × (l.rows < l.quorum)
