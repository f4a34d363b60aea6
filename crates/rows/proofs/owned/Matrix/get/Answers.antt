use Rattle.std.proofs.Common.{◌*◌, sym}
use Rattle.rows.proofs.Cells.{cell_at}
use Rattle.rows.proofs.owned.Matrix.get.Goals as goal

pub returns-then-j-side : goal.returns-then-j-side
returns-then-j-side c = sym (cell_at c.args.self.now.side c.args.i c.args.j c.args.self.now.entries.cells c.if-i-side.true c.if-j-side.true)
