use Rattle.std.proofs.Common.{◌+◌, ◌*◌, min, length, ap, ◌∙◌, ap₂}
use Rattle.order.proofs.Parts.{part_cut}
use Rattle.order.proofs.runs.part.Goals as goal

pub returns : goal.returns
returns g c =
    part_cut c.args.places.now c.args.n c.args.before c.min-start.result c.min-end.result
    (c.min-start.ensures ∙ ap₂ (λ x y. min (x * y) (length c.args.places.now)) c.from.ensures c.from-2.ensures)
    (c.min-end.ensures ∙ ap (λ x. min (c.min-start.result + x) (length c.args.places.now)) c.from-3.ensures)
