use Rattle.tables.proofs.Items.{read_at}
use Rattle.tables.proofs.Readable.{readable}
use Rattle.tables.proofs.numbers.Numbers.machine.Goals as goal
use Rattle.tables.specs.Plans.{lengths_of, plan_of}
use Rattle.tables.specs.Reading.{unread}
use Rattle.std.proofs.lemmas.Bool.{cond-false}
use Rattle.std.proofs.Common.{rules, sym, ◌∙◌}
use Rattle.std.specs.Slice.{IsItemAt}

pub returns : goal.returns
returns g c =
    let t = c.args.t.now in
    let found : IsItemAt t.machines.now c.args.station c.get.result = search rules in
    let read = readable g.M.Op.Operation.bits g.M.Machine.means t (plan_of c.args.self) c.args.station c.in_ok-at.at.index (search rules) in
    read_at g.M.Machine.means c.get.result t.machines.now c.args.station found
    ∙ sym (cond-false (unread (plan_of c.args.self) (lengths_of t) c.args.station) _ _ read)
