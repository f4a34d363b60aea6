use Rattle.std.specs.Prelude.{◌≡◌, ℕ, ◌*◌, ◌^◌, ◌<◌, ◌≤◌, List, None, Ok, Err, Option, Result, slice_index}
use Rattle.frames.specs.Kinds.{stations}
use Rattle.frames.specs.Meaning.{meaning}
use Rattle.frames.specs.Said.{Said, request, ack, summary, proposal, prepare, commit}
use Rattle.frames.specs.declared.kind.Frame.{Frame}
use Rattle.frames.specs.declared.kind.Frame.TheVariants as frame
use Rattle.frames.specs.declared.kind.Header.{Header}
use Rattle.frames.specs.declared.kind.Kind.{Kind}
use Rattle.frames.specs.declared.kind.Kind.TheVariants as kind
use Rattle.frames.specs.declared.kind.Message.{Message}
use Rattle.frames.specs.declared.kind.Message.TheVariants as message
use Rattle.model.specs.declared.fault.Fault.{Fault}
use Rattle.rows.specs.Bits.{Small, entries}
use Rattle.rows.specs.Values.{matrix_of, row_of}

-- What a frame that was read says.
abbrev pub said_of : Frame → Said
said_of (frame.Request h u) = request h.sender h.faults h.sequence u
said_of (frame.Ack h o u) = ack h.sender h.faults h.sequence o u
said_of (frame.Summary h row) = summary h.sender h.faults (entries row.now (stations h.faults))
said_of (frame.Proposal h m) = proposal h.sender h.faults h.sequence (entries m.now (stations h.faults * stations h.faults))
said_of (frame.Prepare h m) = prepare h.sender h.faults h.sequence (entries m.now (stations h.faults * stations h.faults))
said_of (frame.Commit h m) = commit h.sender h.faults h.sequence (entries m.now (stations h.faults * stations h.faults))

abbrev pub answered : Result Frame Fault → Result Said Fault
answered (Ok x) = Ok (said_of x)
answered (Err e) = Err e

-- The row or matrix of a frame is the body that was read.
abbrev pub Borrows : List ℕ → Frame → Type 0
Borrows body (frame.Request h u) = Unit {0}
Borrows body (frame.Ack h o u) = Unit {0}
Borrows body (frame.Summary h row) = row.now ≡ body
Borrows body (frame.Proposal h m) = m.now ≡ body
Borrows body (frame.Prepare h m) = m.now ≡ body
Borrows body (frame.Commit h m) = m.now ≡ body

abbrev pub header_of : Frame → Header
header_of (frame.Request h u) = h
header_of (frame.Ack h o u) = h
header_of (frame.Summary h row) = h
header_of (frame.Proposal h m) = h
header_of (frame.Prepare h m) = h
header_of (frame.Commit h m) = h

abbrev pub kind_is : Frame → Kind
kind_is (frame.Request h u) = kind.Request
kind_is (frame.Ack h o u) = kind.Ack
kind_is (frame.Summary h row) = kind.Summary
kind_is (frame.Proposal h m) = kind.Proposal
kind_is (frame.Prepare h m) = kind.Prepare
kind_is (frame.Commit h m) = kind.Commit

-- The sequence is 0 in a summary, and not 0 elsewhere.
abbrev pub Numbered : Frame → Type 0
Numbered (frame.Request h u) = 0 < h.sequence
Numbered (frame.Ack h o u) = 0 < h.sequence
Numbered (frame.Summary h row) = h.sequence ≡ 0
Numbered (frame.Proposal h m) = 0 < h.sequence
Numbered (frame.Prepare h m) = 0 < h.sequence
Numbered (frame.Commit h m) = 0 < h.sequence

-- An ack's origin is a station.
abbrev pub Origin : Frame → Type 0
Origin (frame.Request h u) = Unit {0}
Origin (frame.Ack h o u) = o < stations h.faults
Origin (frame.Summary h row) = Unit {0}
Origin (frame.Proposal h m) = Unit {0}
Origin (frame.Prepare h m) = Unit {0}
Origin (frame.Commit h m) = Unit {0}

-- The numbers of a frame that was read are in their ranges.
pub record Sound (x : Frame) : Type 0 where
  pub some : 1 ≤ (header_of x).faults
  pub few : (header_of x).faults ≤ 5
  pub station : (header_of x).sender < stations (header_of x).faults
  pub short : (header_of x).sequence < 64
  pub numbered : Numbered x
  pub origin : Origin x

-- What a message of this sender says, where f faulty stations are borne.
abbrev pub said_by : ℕ → ℕ → Message → Said
said_by s f (message.Request q u) = request s f q u
said_by s f (message.Ack q o u) = ack s f q o u
said_by s f (message.Summary row) = summary s f (row_of row)
said_by s f (message.Proposal q m) = proposal s f q (matrix_of m)
said_by s f (message.Prepare q m) = prepare s f q (matrix_of m)
said_by s f (message.Commit q m) = commit s f q (matrix_of m)

-- The operation in it, if there is one, is not refused.
abbrev pub Accepted : (ℕ → Option Fault) → Said → Type 0
Accepted refused (request s f q u) = refused u ≡ None
Accepted refused (ack s f q o u) = refused u ≡ None
Accepted refused (summary s f row) = Unit {0}
Accepted refused (proposal s f q m) = Unit {0}
Accepted refused (prepare s f q m) = Unit {0}
Accepted refused (commit s f q m) = Unit {0}

abbrev pub Bytes : List ℕ → Type 0
Bytes xs = (k : ℕ) → slice_index xs k < 256

-- No other byte string has this meaning.
abbrev pub Alone : List ℕ → Said → Type 0
Alone bytes said = (refused : ℕ → Option Fault) (other : List ℕ) → Bytes other → meaning refused other ≡ Ok said → other ≡ bytes

-- Read again, these bytes say this, for every kind of operation that accepts the one in it.
abbrev pub Reads : List ℕ → Said → Type 0
Reads bytes said = (refused : ℕ → Option Fault) → Accepted refused said → meaning refused bytes ≡ Ok said

-- The operation has 64 bits, each entry 6.
abbrev pub Valued : Said → Type 0
Valued (request s f q u) = u < 2 ^ 64
Valued (ack s f q o u) = u < 2 ^ 64
Valued (summary s f row) = Small row
Valued (proposal s f q m) = Small m
Valued (prepare s f q m) = Small m
Valued (commit s f q m) = Small m
