use Rattle.std.proofs.Common.{◌+◌, map, length, sym, ap, ◌∙◌}
use Rattle.runs.proofs.settling.post.Goals as goal
use Rattle.delivery.specs.Tellings.{frame_in}
use Rattle.runs.specs.Perform.{posted}
use Rattle.std.proofs.lemmas.List.{map-set}
use Rattle.tables.specs.Contents.{frame_of}

pub returns-in-Some : goal.returns-in-Some
returns-in-Some c =
    let w = c.in-Some in
    let wire = c.args.wire.now in
    let end = c.args.end in
    record {
      end = ap (λ f. end + length (frame_in f)) (sym w.is);
      wire = ap (map frame_of) c.put.ensures ∙ map-set frame_of wire end w.slot ∙ ap (λ f. posted (map frame_of wire) end (frame_in f)) (sym w.is);
    }
