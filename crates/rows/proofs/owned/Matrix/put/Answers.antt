use Rattle.std.proofs.Common.{◌+◌, ◌-◌, ◌*◌, take, ap, ◌∙◌, arith}
use Rattle.rows.proofs.Cells.{front_placed, row_fits, square_fits}
use Rattle.rows.proofs.owned.Matrix.put.Goals as goal
use Rattle.rows.specs.Values.{placed}

pub returns-then-row-side-clause-means : goal.returns-then-row-side-clause-means
returns-then-row-side-clause-means c =
    let s = c.args.self.now.side in
    let i = c.args.i in
    let cells = c.args.self.now.entries.cells in
    let f = row_fits i s c.if-i-side.true in
    let q = square_fits s c.args.self.now.few in
    front_placed (s * s) (i * s) ((i + 1) * s - i * s) cells c.copy_from_slice.new.self (omega arith) (omega arith) (omega arith)
    ∙ ap (placed (take (s * s) cells) (i * s)) (c.copy_from_slice.ensures.after ∙ c.as_slice.ensures)
