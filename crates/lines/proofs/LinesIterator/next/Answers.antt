use Rattle.std.proofs.Common.{rules}
use Rattle.lines.proofs.Steps.{lines_step}
use Rattle.lines.proofs.LinesIterator.next.Goals as goal

pub returns-clause-steps : goal.returns-clause-steps
returns-clause-steps c =
    let step = lines_step c.args.self.now.rest.now c.if-is_empty.ensures in
    search rules

pub returns-clause-goes : goal.returns-clause-goes
returns-clause-goes c =
    let step = lines_step c.args.self.now.rest.now c.if-is_empty.ensures in
    search rules
