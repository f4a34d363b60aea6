use Rattle.delivery.proofs.Prepares.{places_are, places_more}
use Rattle.delivery.proofs.preparing.places_read.Goals as goal
use Rattle.std.proofs.lemmas.List.{length-set, length-take}
use Rattle.std.proofs.Common.{◌∙◌, arith}

pub loop-k-init : goal.loop-k-init
loop-k-init c = (simp length-take (omega arith), λ j h. absurd (omega arith))

pub loop-k-preserved : goal.loop-k-preserved
loop-k-preserved c = (
  length-set c.loop-k.place-items c.loop-k.k c.capped_at.result ∙ c.loop-k.invariant.0,
  places_more c.args.votes.now c.loop-k.place-items c.loop-k.k c.args.limit c.capped_at.result (omega arith) c.loop-k.invariant.1 c.capped_at.ensures,
)

pub returns : goal.returns
returns c = places_are c.args.votes.now c.loop-k.place-items _ c.args.limit c.loop-k.invariant.0 (λ j h. c.loop-k.invariant.1 j (omega arith))
