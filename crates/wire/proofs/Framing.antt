-- Frames fit into the places of the wire.
use Rattle.std.proofs.Common.{◌≡◌, ℕ, ◌*◌, ◌≤◌, List, [], ◌++◌, length, take, drop, Some, None, Ok, Err, Option, Result, sym, refl, ap, ◌∙◌, mul-le-mul, arith}
use Rattle.frames.proofs.Headers.{heads}
use Rattle.frames.proofs.Judging.{or_none}
use Rattle.frames.proofs.Sending.{frame_long, sent, written_whole}
use Rattle.frames.specs.Kinds.{head_fault, size, stations}
use Rattle.frames.specs.Said.{Said}
use Rattle.frames.specs.Writing.{faults_of, frame, kind_of, part_unfit, sender_of, sequence_of, leaves, unfit, written}
use Rattle.frames.specs.declared.kind.Kind.{Kind}
use Rattle.frames.specs.declared.kind.Kind.TheVariants.{Request, Ack, Summary, Proposal, Prepare, Commit}
use Rattle.model.specs.declared.fault.Fault.{Fault}
use Rattle.rows.specs.Bits.{room}
use Rattle.wire.specs.Slots.{framed, framed_if}
use Rattle.std.proofs.lemmas.List.{take_all, take-append-le}
use Rattle.std.specs.Result.{result_unwrap_or}

square_small : (f : ℕ) → f ≤ 5 → room (stations f * stations f) ≤ 192
square_small f h = let m : stations f * stations f ≤ 16 * 16 = mul-le-mul {n₂ = 16} {m₂ = 16} (omega arith) (omega arith) in omega arith

size_small : (kind : Kind) (f : ℕ) → f ≤ 5 → size kind f ≤ 192
size_small Request f h = omega arith
size_small Ack f h = omega arith
size_small Summary f h = omega arith
size_small Proposal f h = square_small f h
size_small Prepare f h = square_small f h
size_small Commit f h = square_small f h

-- A frame has at most 194 bytes.
pub frame_small : (s : Said) → unfit s ≡ None → length (frame s) ≤ 194
frame_small s none =
    let parts = or_none (head_fault (kind_of s) (sender_of s) (faults_of s) (sequence_of s)) (part_unfit s) none in
    let h = heads (kind_of s) (sender_of s) (faults_of s) (sequence_of s) parts.0 in
    let long = frame_long s (kind_of s) (faults_of s) (size (kind_of s) (faults_of s)) parts.1 refl refl refl in
    let small = size_small (kind_of s) (faults_of s) h.few in
    omega arith

-- A frame that is written into an empty place fills its front.
pub slot_written : (s : Said) (len : ℕ) (before after : List ℕ) → Ok len ≡ written s 194 → after ≡ frame s ++ drop len before → take len after ≡ framed s
slot_written s len before after e a =
    let w = sent s 194 len e in
    ap (take len) a ∙ take-append-le len (frame s) (drop len before) (omega (arith, w.long)) ∙ take_all len (frame s) (omega (arith, w.long)) ∙ ap (λ o. framed_if o (frame s)) (sym w.none)

unwritten : (s : Said) (o : Option Fault) (e : Fault) → unfit s ≡ o → Err e ≡ written s 194 → [] ≡ framed s
unwritten s (Some d) e u w = ap (λ o. framed_if o (frame s)) (sym u)
unwritten s None e u w =
    let ok = written_whole s 194 (length (frame s)) u refl (frame_small s u) in
    let z : ◌≡◌ {A = ℕ} 0 1 = cc in
    absurd (omega arith)

-- What is not written is no frame.
pub slot_empty : (s : Said) (e : Fault) → Err e ≡ written s 194 → [] ≡ framed s
slot_empty s e w = unwritten s (unfit s) e refl w

-- A frame that is written into an empty place is there, and where none is written nothing is.
pub slot_filled : (s : Said) (r : Result ℕ Fault) (before after : List ℕ) → r ≡ written s 194 → after ≡ leaves r (frame s) before → take (result_unwrap_or r 0) after ≡ framed s
slot_filled s (Ok len) before after e a = slot_written s len before after e a
slot_filled s (Err e) before after w a = slot_empty s e w
