use Rattle.protocol.proofs.Safety.{safe}
use Rattle.protocol.proofs.theorems.safety.Goals as goal

pub returns : goal.returns
returns g c = safe
