use Rattle.std.specs.Prelude.{ℕ, ◌+◌, ◌*◌, ◌/◌, ◌%◌, cond, not, List, [], ◌∷◌, ◌++◌, length, drop, Some, None, Ok, Err, Option, Result, ◌==◌, nat_le, nat_lt}
use Rattle.frames.specs.Kinds.{kind_number, stations, unless, head_fault}
use Rattle.frames.specs.Meaning.{or_else}
use Rattle.frames.specs.Said.{Said, request, ack, summary, proposal, prepare, commit}
use Rattle.frames.specs.declared.kind.Kind.{Kind}
use Rattle.frames.specs.declared.kind.Kind.TheVariants.{Request, Ack, Summary, Proposal, Prepare, Commit}
use Rattle.model.specs.Faults.{fault}
use Rattle.model.specs.declared.fault.Fault.{Fault}
use Rattle.model.specs.declared.fault.Reason.TheVariants.{FrameLength, FrameOrigin, ShortBuffer}
use Rattle.rows.specs.Bits.{packed, repacked}

abbrev pub kind_of : Said → Kind
kind_of (request s f q u) = Request
kind_of (ack s f q o u) = Ack
kind_of (summary s f row) = Summary
kind_of (proposal s f q m) = Proposal
kind_of (prepare s f q m) = Prepare
kind_of (commit s f q m) = Commit

abbrev pub sender_of : Said → ℕ
sender_of (request s f q u) = s
sender_of (ack s f q o u) = s
sender_of (summary s f row) = s
sender_of (proposal s f q m) = s
sender_of (prepare s f q m) = s
sender_of (commit s f q m) = s

abbrev pub faults_of : Said → ℕ
faults_of (request s f q u) = f
faults_of (ack s f q o u) = f
faults_of (summary s f row) = f
faults_of (proposal s f q m) = f
faults_of (prepare s f q m) = f
faults_of (commit s f q m) = f

-- A summary has the sequence 0.
abbrev pub sequence_of : Said → ℕ
sequence_of (request s f q u) = q
sequence_of (ack s f q o u) = q
sequence_of (summary s f row) = 0
sequence_of (proposal s f q m) = q
sequence_of (prepare s f q m) = q
sequence_of (commit s f q m) = q

-- The eight bytes of an operation's 64 bits.
abbrev pub word_bytes : ℕ → List ℕ
word_bytes u = repacked 64 8 8 (u ∷ [])

abbrev pub body_of : Said → List ℕ
body_of (request s f q u) = word_bytes u
body_of (ack s f q o u) = o * 16 ∷ word_bytes u
body_of (summary s f row) = packed (length row) row
body_of (proposal s f q m) = packed (length m) m
body_of (prepare s f q m) = packed (length m) m
body_of (commit s f q m) = packed (length m) m

-- The number that the header's 16 bits write.
abbrev pub head_number : ℕ → ℕ → ℕ → ℕ → ℕ
head_number kind sender f q = ((kind * 16 + sender) * 8 + f) * 64 + q

abbrev pub head_bytes : ℕ → List ℕ
head_bytes n = n / 256 ∷ n % 256 ∷ []

-- The frame that says this.
abbrev pub frame : Said → List ℕ
frame s = head_bytes (head_number (kind_number (kind_of s)) (sender_of s) (faults_of s) (sequence_of s)) ++ body_of s

-- A row or a matrix has as many entries as the kind and f give.
abbrev pub count_fault : List ℕ → ℕ → Option Fault
count_fault es n = unless (not (length es == n)) FrameLength 0 None

-- What reading would refuse of a body that says this.
abbrev pub part_unfit : Said → Option Fault
part_unfit (request s f q u) = None
part_unfit (ack s f q o u) = unless (nat_le (stations f) o) FrameOrigin 16 None
part_unfit (summary s f row) = count_fault row (stations f)
part_unfit (proposal s f q m) = count_fault m (stations f * stations f)
part_unfit (prepare s f q m) = count_fault m (stations f * stations f)
part_unfit (commit s f q m) = count_fault m (stations f * stations f)

-- Why no frame says this: what reading would refuse first.
abbrev pub unfit : Said → Option Fault
unfit s = or_else (head_fault (kind_of s) (sender_of s) (faults_of s) (sequence_of s)) (part_unfit s)

-- The length of the frame that is written into so many bytes, or why none is.
abbrev pub fitting : Option Fault → ℕ → ℕ → Result ℕ Fault
fitting (Some e) len space = Err e
fitting None len space = cond (nat_lt space len) (Err (fault ShortBuffer 0)) (Ok len)

abbrev pub written : Said → ℕ → Result ℕ Fault
written s space = fitting (unfit s) (length (frame s)) space

-- What a buffer holds after that answer: the frame in front of what stood behind, or what it held before.
abbrev pub leaves : Result ℕ Fault → List ℕ → List ℕ → List ℕ
leaves (Ok len) bytes before = bytes ++ drop len before
leaves (Err e) bytes before = before
