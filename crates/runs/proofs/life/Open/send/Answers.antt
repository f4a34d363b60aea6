use Rattle.runs.proofs.life.Open.send.Goals as goal
use Rattle.std.proofs.Common.{map, ap, ◌∙◌}
use Rattle.std.proofs.lemmas.List.{map-set}
use Rattle.tables.specs.Contents.{frame_of}

pub returns-clause-wire : goal.returns-clause-wire
returns-clause-wire c = ap (map frame_of) c.put.ensures ∙ map-set frame_of c.args.wire.now c.args.self.now.end c.args.slot
