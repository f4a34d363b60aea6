use Rattle.delivery.proofs.Prepares.{found}
use Rattle.delivery.proofs.preparing.prepared.Goals as goal
use Rattle.std.proofs.Common.{◌∙◌}

pub returns : goal.returns
returns c = c.is_some.ensures ∙ found c.args.f c.args.leader c.args.places.now c.certified.result c.certified.ensures
