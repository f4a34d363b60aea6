use Rattle.protocol.proofs.Safety.{one_certificate, one_matrix, one_voice}
use Rattle.protocol.proofs.theorems.uniqueness.Goals as goal

pub returns : goal.returns
returns g c = record { operation = one_certificate; matrix = one_matrix; voice = one_voice }
