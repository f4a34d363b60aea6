use Rattle.std.proofs.Common.{refl}
use Rattle.model.proofs.Meeting.{meet, shared, most}
use Rattle.model.proofs.quorums.quorums_share.Goals as goal

pub returns : goal.returns
returns c = record { number = refl; meet = meet; shared = shared; most = most }
