use Rattle.std.specs.Prelude.{ℕ, ◌+◌, ◌*◌, Bool, true, false, cond, ◌||◌, Some, None, Ok, Err, Option, Result, ◌==◌, nat_le, nat_lt}
use Rattle.frames.specs.declared.kind.Kind.{Kind}
use Rattle.frames.specs.declared.kind.Kind.TheVariants.{Request, Ack, Summary, Proposal, Prepare, Commit}
use Rattle.model.specs.Faults.{fault}
use Rattle.model.specs.declared.fault.Fault.{Fault}
use Rattle.model.specs.declared.fault.Reason.{Reason}
use Rattle.model.specs.declared.fault.Reason.TheVariants.{FrameKind, FrameFaultBound, FrameSender, FrameSequence}
use Rattle.rows.specs.Bits.{room}

-- Each kind by its number.
abbrev pub kind_in : ℕ → Option Kind
kind_in k =
    cond (k == 1) (Some Request) (cond (k == 2) (Some Ack) (cond (k == 3) (Some Summary)
    (cond (k == 4) (Some Proposal) (cond (k == 5) (Some Prepare) (cond (k == 6) (Some Commit) None)))))

-- The kind, or the fault of a number that no kind has.
abbrev pub named : Option Kind → Result Kind Fault
named (Some kind) = Ok kind
named None = Err (fault FrameKind 0)

abbrev pub kind_number : Kind → ℕ
kind_number Request = 1
kind_number Ack = 2
kind_number Summary = 3
kind_number Proposal = 4
kind_number Prepare = 5
kind_number Commit = 6

-- How many stations there are where f faulty ones are borne.
abbrev pub stations : ℕ → ℕ
stations f = 3 * f + 1

abbrev pub outside : ℕ → ℕ → ℕ → Bool
outside low high x = nat_lt x low || nat_lt high x

-- A sequence has 6 bits; in a summary it is 0, elsewhere not.
abbrev pub bad_sequence : Kind → ℕ → Bool
bad_sequence Request q = outside 1 63 q
bad_sequence Ack q = outside 1 63 q
bad_sequence Summary q = nat_lt 0 q
bad_sequence Proposal q = outside 1 63 q
bad_sequence Prepare q = outside 1 63 q
bad_sequence Commit q = outside 1 63 q

-- This fault if the test holds, else what is refused next.
abbrev pub unless : Bool → Reason → ℕ → Option Fault → Option Fault
unless true reason place next = Some (fault reason place)
unless false reason place next = next

-- The answer of a check: Ok where nothing is refused.
abbrev pub checked : Option Fault → Result (Unit {0}) Fault
checked None = Ok tt
checked (Some e) = Err e

-- What is refused of a header with this kind, sender, f and sequence.
abbrev pub head_fault : Kind → ℕ → ℕ → ℕ → Option Fault
head_fault kind sender f q =
    unless (outside 1 5 f) FrameFaultBound 7
    (unless (nat_le (stations f) sender) FrameSender 3
    (unless (bad_sequence kind q) FrameSequence 10 None))

-- How many bytes the body of a frame of this kind has.
abbrev pub size : Kind → ℕ → ℕ
size Request f = 8
size Ack f = 9
size Summary f = room (stations f)
size Proposal f = room (stations f * stations f)
size Prepare f = room (stations f * stations f)
size Commit f = room (stations f * stations f)
