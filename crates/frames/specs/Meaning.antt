use Rattle.std.specs.Prelude.{ℕ, ◌+◌, ◌-◌, ◌*◌, min, cond, not, List, length, take, drop, Some, None, Ok, Err, Option, Result, ◌==◌, nat_le, nat_lt}
use Rattle.frames.specs.Kinds.{kind_in, stations, unless, head_fault, size}
use Rattle.frames.specs.Said.{Said, request, ack, summary, proposal, prepare, commit}
use Rattle.frames.specs.declared.kind.Kind.{Kind}
use Rattle.frames.specs.declared.kind.Kind.TheVariants.{Request, Ack, Summary, Proposal, Prepare, Commit}
use Rattle.model.specs.Faults.{fault}
use Rattle.model.specs.declared.fault.Fault.{Fault}
use Rattle.model.specs.declared.fault.Reason.TheVariants.{ShortFrame, FrameKind, FrameLength, FrameOrigin, FrameFilling}
use Rattle.rows.specs.Bits.{field, entries, room}

-- What a body says, by its bits.
abbrev pub said_in : Kind → ℕ → ℕ → ℕ → List ℕ → Said
said_in Request sender f q body = request sender f q (field body 0 64)
said_in Ack sender f q body = ack sender f q (field body 0 4) (field body 8 64)
said_in Summary sender f q body = summary sender f (entries body (stations f))
said_in Proposal sender f q body = proposal sender f q (entries body (stations f * stations f))
said_in Prepare sender f q body = prepare sender f q (entries body (stations f * stations f))
said_in Commit sender f q body = commit sender f q (entries body (stations f * stations f))

-- An operation's fault, as seen in a frame in which the operation begins at bit `at`. A place has 16 bits.
abbrev pub shifted : ℕ → Option Fault → Option Fault
shifted at None = None
shifted at (Some e) = Some (fault e.reason (min (e.place + at) 65535))

-- The bits after the last of n entries are 0.
abbrev pub filling_fault : ℕ → List ℕ → Option Fault
filling_fault n body = unless (nat_lt 0 (field body (6 * n) (8 * room n - 6 * n))) FrameFilling (16 + 6 * n) None

-- What is refused of the fields of a body of the right length, where `refused` says it of an operation.
abbrev pub part_fault : (ℕ → Option Fault) → Kind → ℕ → List ℕ → Option Fault
part_fault refused Request f body = shifted 16 (refused (field body 0 64))
part_fault refused Ack f body =
    unless (nat_le (stations f) (field body 0 4)) FrameOrigin 16
    (unless (nat_lt 0 (field body 4 4)) FrameFilling 20
    (shifted 24 (refused (field body 8 64))))
part_fault refused Summary f body = filling_fault (stations f) body
part_fault refused Proposal f body = filling_fault (stations f * stations f) body
part_fault refused Prepare f body = filling_fault (stations f * stations f) body
part_fault refused Commit f body = filling_fault (stations f * stations f) body

abbrev pub body_fault : (ℕ → Option Fault) → Kind → ℕ → List ℕ → Option Fault
body_fault refused kind f body = unless (not (length body == size kind f)) FrameLength 0 (part_fault refused kind f body)

-- Of two lists of refusals the first goes before.
abbrev pub or_else : Option Fault → Option Fault → Option Fault
or_else (Some e) next = Some e
or_else None next = next

-- What is said, unless it is refused.
abbrev pub answer : Option Fault → Said → Result Said Fault
answer (Some e) said = Err e
answer None said = Ok said

abbrev pub judged : (ℕ → Option Fault) → Kind → ℕ → ℕ → ℕ → List ℕ → Result Said Fault
judged refused kind sender f q body = answer (or_else (head_fault kind sender f q) (body_fault refused kind f body)) (said_in kind sender f q body)

abbrev pub of_kind : (ℕ → Option Fault) → Option Kind → ℕ → ℕ → ℕ → List ℕ → Result Said Fault
of_kind refused None sender f q body = Err (fault FrameKind 0)
of_kind refused (Some kind) sender f q body = judged refused kind sender f q body

-- What a header of two bytes and a body say: kind 3 bits, sender 4, f 3, sequence 6.
abbrev pub split : (ℕ → Option Fault) → List ℕ → List ℕ → Result Said Fault
split refused head body = of_kind refused (kind_in (field head 0 3)) (field head 3 4) (field head 7 3) (field head 10 6) body

-- The meaning of a byte string, or the fault that it is refused with.
abbrev pub meaning : (ℕ → Option Fault) → List ℕ → Result Said Fault
meaning refused bytes = cond (nat_lt (length bytes) 2) (Err (fault ShortFrame 0)) (split refused (take 2 bytes) (drop 2 bytes))
