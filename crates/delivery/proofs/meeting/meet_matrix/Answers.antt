use Rattle.delivery.proofs.Outcomes.{lent, met, tells_lists}
use Rattle.delivery.proofs.meeting.meet_matrix.Goals as goal
use Rattle.delivery.specs.Deliveries.{meets}
use Rattle.rows.specs.Values.{matrix_of}
use Rattle.wire.specs.Wires.{same_list}
use Rattle.std.proofs.Common.{ap, ◌∙◌}

pub returns : goal.returns
returns c =
    met matrix_of matrix_of same_list tells_lists (λ u v e. e) (λ u v e. e) c.as_ref.result c.args.matrix.now c.meet.result c.meet.ensures
    ∙ ap (λ o. meets same_list o (matrix_of c.args.matrix.now))
    (lent matrix_of c.as_ref.result c.capped_at-held.result c.as_ref.ensures.value ∙ c.capped_at-held.ensures)
