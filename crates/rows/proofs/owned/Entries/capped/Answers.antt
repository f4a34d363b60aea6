use Rattle.std.proofs.Common.{min, take, ap, ◌∙◌}
use Rattle.rows.proofs.Cells.{small_capped, small_same}
use Rattle.rows.proofs.owned.Entries.capped.Goals as goal
use Rattle.std.proofs.lemmas.List.{take-map}

pub invariant_of-result-clause-small : goal.invariant_of-result-clause-small
invariant_of-result-clause-small g c =
    let r = c.args.self.now in
    small_same c.cap.new.entries _ c.cap.ensures (small_capped c.args.limit r.cells r.small)

pub returns-clause-means : goal.returns-clause-means
returns-clause-means g c = ap (take c.args.self.now.count) c.cap.ensures ∙ take-map (λ x. min x c.args.limit) c.args.self.now.count c.args.self.now.cells
