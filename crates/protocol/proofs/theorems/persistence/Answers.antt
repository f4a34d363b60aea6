use Rattle.protocol.proofs.Bounds.{bounded}
use Rattle.protocol.proofs.Safety.{lasting, comparable}
use Rattle.protocol.proofs.theorems.persistence.Goals as goal

pub returns : goal.returns
returns g c = record { places = lasting; bounds = bounded; summaries = comparable }
