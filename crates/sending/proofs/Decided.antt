-- Decisions in stages are the definitions.
use Rattle.std.proofs.Common.{◌≡◌, ℕ, List, Ok, Result, ap, ◌∙◌}
use Rattle.frames.specs.Said.{proposal, request}
use Rattle.frames.specs.Writing.{frame}
use Rattle.model.specs.declared.fault.Fault.{Fault}
use Rattle.sending.specs.Sends.{Out, kept_rows, number_by, proposal_by, request_by, sequence_by, to_propose, to_submit}
use Rattle.tables.proofs.Stages.{staged}
use Rattle.tables.specs.Contents.{Contents}
use Rattle.tables.specs.Plans.{Plan}
use Rattle.tables.specs.Refusing.{seen_as}
use Rattle.tables.specs.Runs.{lengths_in}
use Rattle.tables.specs.Stations.{correct_in}

pub submit_sent : {Q : Type 0} (p : Plan) (end : ℕ) (c : Contents Q) (station i q u : ℕ) (bytes : List ℕ) → Ok i ≡ correct_in p (lengths_in c) station
    → Ok q ≡ sequence_by p end c.counts i → bytes ≡ frame (request i p.faults q u)
    → ◌≡◌ {A = Result Out Fault} (Ok (record { sequence = q; frame = bytes })) (to_submit p end c station u)
submit_sent p end c station i q u bytes e s b =
    staged (correct_in p (lengths_in c) station) i (request_by p end c.counts u) (Ok (record { sequence = q; frame = bytes })) e
    (ap (λ x. Ok (record { sequence = q; frame = x })) b ∙ ap (seen_as (λ q. record { sequence = q; frame = frame (request i p.faults q u) })) s)

pub propose_sent : {Q : Type 0} (p : Plan) (end last : ℕ) (c : Contents Q) (station i n : ℕ) (bytes : List ℕ) → Ok i ≡ correct_in p (lengths_in c) station
    → Ok n ≡ number_by p end last i → bytes ≡ frame (proposal i p.faults n (kept_rows p c.kept i))
    → ◌≡◌ {A = Result Out Fault} (Ok (record { sequence = n; frame = bytes })) (to_propose p end last c station)
propose_sent p end last c station i n bytes e s b =
    staged (correct_in p (lengths_in c) station) i (proposal_by p end last c.kept) (Ok (record { sequence = n; frame = bytes })) e
    (ap (λ x. Ok (record { sequence = n; frame = x })) b ∙ ap (seen_as (λ n. record { sequence = n; frame = frame (proposal i p.faults n (kept_rows p c.kept i)) })) s)
