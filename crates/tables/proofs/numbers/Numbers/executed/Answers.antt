use Rattle.std.proofs.Common.{◌≡◌, rules, ◌+◌, ◌*◌, min, leb, map, get_or, sym, ap, ◌∙◌, arith}
use Rattle.tables.proofs.Items.{read_present}
use Rattle.tables.proofs.Readable.{readable}
use Rattle.tables.proofs.numbers.Numbers.executed.Goals as goal
use Rattle.tables.specs.Contents.{done_of, none}
use Rattle.tables.specs.Plans.{lengths_of, plan_of}
use Rattle.tables.specs.Reading.{executed_by, joined, unread}
use Rattle.std.proofs.lemmas.Bool.{cond-false, lt-leb}
use Rattle.std.specs.Option.{option_map}
use Rattle.std.specs.List.{slice_get}

pub returns : goal.returns
returns g c =
    let t = c.args.t.now in
    let p = plan_of c.args.self in
    let i = c.args.station in
    let k = c.args.position in
    let done = done_of g.M.Op.Operation.bits in
    let entries = map (option_map done) t.executed.now in
    let l = c.args.self.watch.limit in
    let at : c.in_ok-at.at.index ≡ i = search rules in
    let read = readable g.M.Op.Operation.bits g.M.Machine.means t p i c.in_ok-at.at.index (search rules) in
    let by : c.executed_by.result ≡ executed_by p t.counts.now i =
    c.executed_by.ensures ∙ ap (λ j. min (get_or t.counts.now j none).executed (c.stations.result * l)) at ∙ ap (λ n. min (get_or t.counts.now i none).executed (n * l)) c.stations.ensures in
    read_present done c.present.result t.executed.now _ c.present.ensures
    ∙ ap (λ j. joined (slice_get entries (j * (c.stations.result * l) + k))) at
    ∙ ap (λ n. joined (slice_get entries (i * (n * l) + k))) c.stations.ensures
    ∙ sym (cond-false (leb (executed_by p t.counts.now i) k) _ _ (lt-leb (executed_by p t.counts.now i) k (omega arith)))
    ∙ sym (cond-false (unread p (lengths_of t) i) _ _ read)
