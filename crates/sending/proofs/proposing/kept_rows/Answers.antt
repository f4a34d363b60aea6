use Rattle.std.proofs.Common.{◌*◌, map, take, sym, ap, ◌∙◌, rules}
use Rattle.model.specs.Quorums.{stations}
use Rattle.rows.specs.Values.{row_of}
use Rattle.sending.proofs.Gathered.{gathers}
use Rattle.sending.proofs.Keeping.{cell_of}
use Rattle.sending.proofs.proposing.kept_rows.Goals as goal
use Rattle.tables.specs.Plans.{plan_of}

pub returns : goal.returns
returns g c =
    let n = stations c.args.at.now.numbers.watch.faults in
    let r = c.gathered.result in
    ap (λ k. take k r.cells) (sym c.gathered.ensures.count)
    ∙ gathers (cell_of (plan_of c.args.at.now.numbers) (map row_of c.args.at.now.tables.now.kept.now) c.args.at.now.index) (n * n) 256 r.count r.cells (c.gathered.ensures.count ∙ ap (λ k. k * k) c.stations.ensures) r.few r.whole
    (λ k low. let post = c.gathered.ensures.entries k (search rules) in search rules)
