use Rattle.protocol.proofs.Executing.{executing}
use Rattle.protocol.proofs.Speaking.{two_faced, accuses_leader}
use Rattle.protocol.proofs.theorems.existence.Goals as goal

pub returns : goal.returns
returns g c = record { executes = executing; liar = two_faced; accuses = accuses_leader }
