use Rattle.std.proofs.Common.{length, ap, ◌∙◌, rules}
use Rattle.std.proofs.lemmas.List.FromFn.{length-map-range_with_len}
use Rattle.model.specs.Quorums.{held, stations}
use Rattle.sending.proofs.Gathered.{gathers}
use Rattle.sending.proofs.summarising.row_at.Goals as goal
use Rattle.sending.specs.Sends.{certified_run}
use Rattle.tables.specs.Plans.{plan_of}

pub returns : goal.returns
returns g c =
    let n = stations c.args.at.now.numbers.watch.faults in
    let r = c.gathered.result in
    let is =
    gathers (certified_run (plan_of c.args.at.now.numbers) (held g.M.Op.Operation.bits c.args.at.now.tables.now.words.now) c.args.at.now.index) n 16 r.count r.cells (c.gathered.ensures.count ∙ c.stations-n.ensures) r.few r.whole
    (λ k low. let post = c.gathered.ensures.entries k (search rules) in search rules) in
    record {
      is = is;
      long = ap length is ∙ length-map-range_with_len _ 0 n;
    }
