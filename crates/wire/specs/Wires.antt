-- What lies on the wire of a run, and what a faulty station may add to it.
use Rattle.std.specs.Prelude.{ℕ, Bool, true, false, not, ◌&&◌, ◌||◌, List, [], ◌∷◌, length, Ok, Option, Result, ◌==◌, nat_le, nat_lt, slice_index_or}
use Rattle.frames.specs.Meaning.{meaning}
use Rattle.frames.specs.Said.{Said, request, ack, summary, proposal, prepare, commit}
use Rattle.frames.specs.Writing.{faults_of, frame, sender_of, sequence_of}
use Rattle.model.specs.Quorums.{stations}
use Rattle.model.specs.Sets.{named}
use Rattle.model.specs.declared.fault.Fault.{Fault}
use Rattle.model.specs.declared.fault.Reason.TheVariants.{NoFrame, SpokenName, SpokenExcess, SpokenRow, ShortBuffer}
use Rattle.order.specs.Rows.{any}
use Rattle.rows.specs.Values.{row_in}
use Rattle.tables.specs.Plans.{Plan}
use Rattle.tables.specs.Refusing.{refuse, then}

-- The entries of the row or matrix in a frame.
abbrev pub entries_in : Said → List ℕ
entries_in (request s f q u) = []
entries_in (ack s f q o u) = []
entries_in (summary s f row) = row
entries_in (proposal s f q m) = m
entries_in (prepare s f q m) = m
entries_in (commit s f q m) = m

-- Some number of the list is above the limit.
abbrev pub some_above : ℕ → List ℕ → Bool
some_above limit [] = false
some_above limit (e ∷ es) = nat_lt limit e || some_above limit es

-- The sequence, or an entry, exceeds the watch length.
abbrev pub exceeds : ℕ → Said → Bool
exceeds limit said = nat_lt limit (sequence_of said) || some_above limit (entries_in said)

-- A frame that is none of the run's: it has another f, or exceeds the watch length.
abbrev pub foreign : Plan → Said → Bool
foreign p said = not (faults_of said == p.faults) || exceeds p.limit said

-- What the frame at a place of the wire says, where the wire ends at `end`.
abbrev pub frame_at : (ℕ → Option Fault) → Plan → ℕ → List (List ℕ) → ℕ → Result Said Fault
frame_at refused p end wire place =
    refuse (nat_le end place) NoFrame
    (then (meaning refused (slice_index_or wire place [])) (λ said.
    refuse (foreign p said) NoFrame
    (Ok said)))

-- How many bytes of that frame are written into a buffer of so many.
abbrev pub shown_at : (ℕ → Option Fault) → Plan → ℕ → List (List ℕ) → ℕ → ℕ → Result ℕ Fault
shown_at refused p end wire place space =
    then (frame_at refused p end wire place) (λ said.
    refuse (nat_lt space (length (slice_index_or wire place []))) ShortBuffer
    (Ok (length (slice_index_or wire place []))))

-- The two lists are equal.
abbrev pub same_list : List ℕ → List ℕ → Bool
same_list [] [] = true
same_list [] (y ∷ ys) = false
same_list (x ∷ xs) [] = false
same_list (x ∷ xs) (y ∷ ys) = x == y && same_list xs ys

-- This frame lies on the wire, below its end.
abbrev pub on_wire : ℕ → List (List ℕ) → List ℕ → Bool
on_wire end wire bytes = any end (λ k. same_list (slice_index_or wire k []) bytes)

-- Row k of the matrix is one that a correct station k has not sent: it is not zero, and no summary of k on the wire has it.
abbrev pub unsent : Plan → ℕ → List (List ℕ) → List ℕ → ℕ → Bool
unsent p end wire m k =
    not (named p.faulty k)
    && (some_above 0 (row_in (stations p.faults) m k)
    && not (on_wire end wire (frame (summary k p.faults (row_in (stations p.faults) m k)))))

-- A proposal with such a row. Other frames may have any.
abbrev pub invented : Plan → ℕ → List (List ℕ) → Said → Bool
invented p end wire (request s f q u) = false
invented p end wire (ack s f q o u) = false
invented p end wire (summary s f row) = false
invented p end wire (proposal s f q m) = any (stations p.faults) (unsent p end wire m)
invented p end wire (prepare s f q m) = false
invented p end wire (commit s f q m) = false

-- The bytes that the faulty station i may add to the wire: they read, under the run's f and i's own name, within the watch length, and
-- with no row of a correct station that this station has not sent.
abbrev pub sayable : (ℕ → Option Fault) → Plan → ℕ → List (List ℕ) → ℕ → List ℕ → Result (List ℕ) Fault
sayable refused p end wire i bytes =
    then (meaning refused bytes) (λ said.
    refuse (not (faults_of said == p.faults) || not (sender_of said == i)) SpokenName
    (refuse (exceeds p.limit said) SpokenExcess
    (refuse (invented p end wire said) SpokenRow
    (Ok bytes))))
