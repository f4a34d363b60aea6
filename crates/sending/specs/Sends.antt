-- What a station is to send.
use Rattle.std.specs.Prelude.{ℕ, ◌+◌, ◌*◌, ◌/◌, ◌%◌, min, not, List, [], map, get_or, is_some, Ok, Option, Result, ◌==◌, nat_eq, nat_le, slice_index, slice_index_or}
use Rattle.frames.specs.Said.{request, summary, proposal}
use Rattle.frames.specs.Writing.{frame}
use Rattle.model.specs.Decided.{certified_by}
use Rattle.model.specs.Quorums.{stations}
use Rattle.model.specs.declared.fault.Fault.{Fault}
use Rattle.model.specs.declared.fault.Reason.TheVariants.{NotLeader, NumbersUsed, WireFull}
use Rattle.order.specs.Runs.{passing}
use Rattle.sending.specs.declared.numbered.Numbered.{Numbered}
use Rattle.std.specs.List.{range_with_len}
use Rattle.tables.specs.Contents.{Contents, frame_of, none}
use Rattle.tables.specs.Plans.{Plan}
use Rattle.tables.specs.Reading.{words_at}
use Rattle.tables.specs.Refusing.{refuse, seen_as, then}
use Rattle.tables.specs.Runs.{lengths_in}
use Rattle.tables.specs.Stations.{correct_in, faulty_in}
use Rattle.tables.specs.declared.tables.Counts.{Counts}
use Rattle.wire.specs.Wires.{sayable}

-- A frame with the number under which it is sent.
pub record Out : Type 0 where
  pub sequence : ℕ
  pub frame : List ℕ

abbrev pub out_of : Numbered → Out
out_of x = record { sequence = x.sequence; frame = frame_of x.slot }

-- What can be sent only if the wire has a place left.
abbrev pub onto : {X : Type 0} → Plan → ℕ → X → Result X Fault
onto p end x = refuse (nat_le p.wire end) WireFull (Ok x)

-- ---- submit

-- How many operations a station has submitted; more than the watch length is read as the watch length.
abbrev pub submitted_by : Plan → List Counts → ℕ → ℕ
submitted_by p counts i = min (get_or counts i none).submitted p.limit

-- The station's next sequence, if a request under it can be sent.
abbrev pub sequence_by : Plan → ℕ → List Counts → ℕ → Result ℕ Fault
sequence_by p end counts i =
    refuse (nat_le p.limit (submitted_by p counts i)) NumbersUsed
    (onto p end (submitted_by p counts i + 1))

-- The correct station's request for the operation u, with its next sequence.
abbrev pub request_by : Plan → ℕ → List Counts → ℕ → ℕ → Result Out Fault
request_by p end counts u i = seen_as (λ q. record { sequence = q; frame = frame (request i p.faults q u) }) (sequence_by p end counts i)

abbrev pub to_submit : {Q : Type 0} → Plan → ℕ → Contents Q → ℕ → ℕ → Result Out Fault
to_submit p end c i u = then (correct_in p (lengths_in c) i) (request_by p end c.counts u)

-- ---- summarise

-- The longest unbroken run of an origin's sequences, from 1, that have a certificate at a station.
abbrev pub certified_run : Plan → List (Option ℕ) → ℕ → ℕ → ℕ
certified_run p words i o = passing 0 p.limit (λ s. is_some (certified_by nat_eq p.faults (words_at p words i o s) o))

-- The station's row: this for each origin.
abbrev pub row_at : Plan → List (Option ℕ) → ℕ → List ℕ
row_at p words i = map (certified_run p words i) (range_with_len 0 (stations p.faults))

-- The correct station's summary of its row.
abbrev pub summary_by : Plan → ℕ → List (Option ℕ) → ℕ → Result (List ℕ) Fault
summary_by p end words i = onto p end (frame (summary i p.faults (row_at p words i)))

abbrev pub to_summarise : {Q : Type 0} → Plan → ℕ → Contents Q → ℕ → Result (List ℕ) Fault
to_summarise p end c i = then (correct_in p (lengths_in c) i) (summary_by p end c.words)

-- ---- propose

-- The matrix of this side whose entry o of row j is g j o.
abbrev pub square : ℕ → (ℕ → ℕ → ℕ) → List ℕ
square side g = map (λ k. g (k / side) (k % side)) (range_with_len 0 (side * side))

-- Entry o of the row that station i keeps of station j. Past its end a row reads as 0, and an entry above the watch length as the watch length.
abbrev pub kept_entry : Plan → List (List ℕ) → ℕ → ℕ → ℕ → ℕ
kept_entry p kept i j o = min (slice_index (slice_index_or kept (i * stations p.faults + j) []) o) p.limit

-- The rows that station i keeps.
abbrev pub kept_rows : Plan → List (List ℕ) → ℕ → List ℕ
kept_rows p kept i = square (stations p.faults) (kept_entry p kept i)

-- The number after the leader's last, if a proposal under it can be sent.
abbrev pub number_by : Plan → ℕ → ℕ → ℕ → Result ℕ Fault
number_by p end last i =
    refuse (not (i == p.leader)) NotLeader
    (refuse (nat_le p.limit last) NumbersUsed
    (onto p end (last + 1)))

-- The leader's proposal of the rows that it keeps, under that number.
abbrev pub proposal_by : Plan → ℕ → ℕ → List (List ℕ) → ℕ → Result Out Fault
proposal_by p end last kept i = seen_as (λ n. record { sequence = n; frame = frame (proposal i p.faults n (kept_rows p kept i)) }) (number_by p end last i)

abbrev pub to_propose : {Q : Type 0} → Plan → ℕ → ℕ → Contents Q → ℕ → Result Out Fault
to_propose p end last c i = then (correct_in p (lengths_in c) i) (proposal_by p end last c.kept)

-- ---- speak

-- The bytes that a faulty station says.
abbrev pub speech_by : (ℕ → Option Fault) → Plan → ℕ → List (List ℕ) → List ℕ → ℕ → Result (List ℕ) Fault
speech_by refused p end wire bytes i = then (sayable refused p end wire i bytes) (onto p end)

abbrev pub to_speak : {Q : Type 0} → (ℕ → Option Fault) → Plan → ℕ → Contents Q → ℕ → List ℕ → Result (List ℕ) Fault
to_speak refused p end c i bytes = then (faulty_in p (lengths_in c) i) (speech_by refused p end c.wire bytes)
