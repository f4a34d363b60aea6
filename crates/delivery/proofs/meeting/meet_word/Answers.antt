use Rattle.delivery.proofs.Outcomes.{met, read_by}
use Rattle.delivery.proofs.meeting.meet_word.Goals as goal
use Rattle.delivery.specs.Deliveries.{meets}
use Rattle.std.proofs.lemmas.Bool.Decides.{Decides-eqb}
use Rattle.std.proofs.Common.{eqb, ap, ◌∙◌}

pub returns : goal.returns
returns g c =
    let means = g.O.Word.means in
    let bits = g.O.Operation.bits in
    let one = g.met.O.Operation.one in
    met means bits eqb Decides-eqb one g.met.O.Operation.apart c.word_at.result c.args.word.now c.meet.result c.meet.ensures
    ∙ ap (λ o. meets eqb o (bits c.args.word.now)) (read_by means bits one c.word_at.result c.args.words.now c.args.at c.word_at.ensures)
