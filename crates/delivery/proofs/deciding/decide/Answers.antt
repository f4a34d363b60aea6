use Rattle.delivery.proofs.Joining.{delivered, wire_full}
use Rattle.delivery.proofs.Said.{accepted}
use Rattle.delivery.proofs.deciding.decide.Goals as goal
use Rattle.delivery.specs.Tellings.{told_by}
use Rattle.frames.specs.Views.{said_of}
use Rattle.tables.specs.Contents.{contents, frame_of}
use Rattle.tables.specs.Plans.{plan_of}
use Rattle.std.proofs.Common.{map}

pub hear-delivery-requires-clause-accepted : goal.hear-delivery-requires-clause-accepted
hear-delivery-requires-clause-accepted g c =
    let run = c.args.run.now in
    accepted g.M.Op.Operation.refused (plan_of run.numbers) run.end (map frame_of run.tables.now.wire.now) c.args.place (said_of c.in_ok-frame.frame)
    c.in_ok-frame.ensures.means

pub returns-then-lacks_places-clause-means : goal.returns-then-lacks_places-clause-means
returns-then-lacks_places-clause-means g c =
    let run = c.args.run.now in
    let of = c.in_ok-at.ensures.of in
    let tells = rw (of.0, of.1) at c.hear-delivery.ensures.tells in
    wire_full g.M.Op.Operation.refused (plan_of run.numbers) run.end (contents g.M.Op.Operation.bits g.M.Machine.means run.tables.now) c.args.station c.args.place
    c.in_ok-at.at.index (said_of c.in_ok-frame.frame) c.misnamed.result c.lacks_places.result (told_by g.M.Op.Operation.bits c.hear-delivery.result)
    c.in_ok-at.ensures.is c.in_ok-frame.ensures.means c.misnamed.ensures c.if-misnamed.false tells c.lacks_places.ensures
    c.into-then-lacks_places.result c.if-lacks_places.true c.into-then-lacks_places.ensures

pub returns-clause-means : goal.returns-clause-means
returns-clause-means g c =
    let run = c.args.run.now in
    let of = c.in_ok-at.ensures.of in
    let tells = rw (of.0, of.1) at c.hear-delivery.ensures.tells in
    delivered g.M.Op.Operation.refused (plan_of run.numbers) run.end (contents g.M.Op.Operation.bits g.M.Machine.means run.tables.now) c.args.station c.args.place
    c.in_ok-at.at.index (said_of c.in_ok-frame.frame) c.misnamed.result c.lacks_places.result (told_by g.M.Op.Operation.bits c.hear-delivery.result)
    c.in_ok-at.ensures.is c.in_ok-frame.ensures.means c.misnamed.ensures c.if-misnamed.false tells c.lacks_places.ensures c.if-lacks_places.false
