-- What is known of a frame of the run.
use Rattle.std.proofs.Common.{◌≡◌, ℕ, ◌*◌, ◌<◌, ◌≤◌, min, Bool, true, false, not, eqb, ltb, leb, List, [], ◌∷◌, get_or, Some, None, Ok, Err, Option, Result, sym, refl, ap, ◌∙◌, subst, arith, Bor}
use Rattle.delivery.specs.Hearings.{Voted}
use Rattle.delivery.specs.declared.heard.Vote.{Vote}
use Rattle.frames.proofs.Headers.{unless-none}
use Rattle.frames.proofs.Judging.{read_inv}
use Rattle.frames.specs.Kinds.{stations}
use Rattle.frames.specs.Meaning.{meaning, part_fault, said_in, shifted}
use Rattle.frames.specs.Said.{Said}
use Rattle.frames.specs.Views.{Accepted, Sound, header_of, said_of}
use Rattle.frames.specs.Writing.{faults_of, sequence_of}
use Rattle.frames.specs.declared.kind.Frame.{Frame}
use Rattle.frames.specs.declared.kind.Frame.TheVariants as frames
use Rattle.frames.specs.declared.kind.Header.{Header}
use Rattle.frames.specs.declared.kind.Kind.{Kind}
use Rattle.frames.specs.declared.kind.Kind.TheVariants.{Request, Ack, Summary, Proposal, Prepare, Commit}
use Rattle.model.specs.declared.fault.Fault.{Fault}
use Rattle.model.specs.declared.fault.Reason.{Reason}
use Rattle.model.specs.declared.fault.Reason.TheVariants.{FrameFilling, FrameOrigin}
use Rattle.rows.specs.Bits.{entries, field}
use Rattle.rows.specs.Caps.{capped_at}
use Rattle.rows.specs.Values.{matrix_of}
use Rattle.std.proofs.lemmas.Bool.{eqb-true, ltb-false, not-false, or_parts}
use Rattle.tables.specs.Plans.{Plan}
use Rattle.tables.specs.Refusing.{refuse, then}
use Rattle.wire.specs.Wires.{entries_in, foreign, frame_at, some_above}

-- Entries that are not above the limit are read as they are.
pub capped_same : (limit : ℕ) (es : List ℕ) → some_above limit es ≡ false → capped_at limit es ≡ es
capped_same limit [] e = refl
capped_same limit (x ∷ xs) e =
    let p = or_parts (ltb limit x) (some_above limit xs) e in
    let low = ltb-false limit x p.0 in
    let a : min x limit ≡ x = omega arith in
    let b = capped_same limit xs p.1 in
    cc

-- A frame of the run has the run's f, and nothing above the watch length.
pub record Ours (p : Plan) (said : Said) : Type 0 where
  pub faults : faults_of said ≡ p.faults
  pub short : sequence_of said ≤ p.limit
  pub low : capped_at p.limit (entries_in said) ≡ entries_in said

pub ours : (p : Plan) (said : Said) → foreign p said ≡ false → Ours p said
ours p said e =
    let a = or_parts (not (eqb (faults_of said) p.faults)) _ e in
    let b = or_parts (ltb p.limit (sequence_of said)) (some_above p.limit (entries_in said)) a.1 in
    record {
      faults = eqb-true _ _ (not-false _ a.0);
      short = ltb-false _ _ b.0;
      low = capped_same p.limit (entries_in said) b.1;
    }

-- The frame holds a vote in this part.
abbrev pub HoldsVote : Frame → Bor (List ℕ) → Type 0
HoldsVote (frames.Request h u) m = ⊥
HoldsVote (frames.Ack h o u) m = ⊥
HoldsVote (frames.Summary h row) m = ⊥
HoldsVote (frames.Proposal h part) m = part ≡ m
HoldsVote (frames.Prepare h part) m = part ≡ m
HoldsVote (frames.Commit h part) m = part ≡ m

-- The vote in a part of such a frame is one of the run.
module _ (p : Plan) (v : Vote) (part m : Bor (List ℕ)) (h : Header) (said : Said) (e : foreign p said ≡ false) (same : part ≡ m)
    (number : v.number ≡ h.sequence) (speaker : v.speaker ≡ h.sender) (side : v.matrix.side ≡ stations p.faults)
    (means : matrix_of v.matrix ≡ entries m.now (stations p.faults * stations p.faults)) where
  of_parts : faults_of said ≡ h.faults → sequence_of said ≡ h.sequence → entries_in said ≡ entries part.now (stations h.faults * stations h.faults)
      → h.sender < stations h.faults → 0 < h.sequence → Voted p v
  of_parts ef eq is station some =
      let o = ours p said e in
      let f : h.faults ≡ p.faults = sym ef ∙ o.faults in
      let es : entries_in said ≡ matrix_of v.matrix =
      is ∙ ap (λ b. entries b.now (stations h.faults * stations h.faults)) same ∙ ap (λ n. entries m.now (stations n * stations n)) f ∙ sym means in
      record {
        speaker = rw (speaker, ← f) station;
        some = omega arith;
        short = omega (arith, o.short);
        side = side;
        low = subst (λ xs. capped_at p.limit xs ≡ xs) es o.low;
      }

pub voted : (p : Plan) (x : Frame) (m : Bor (List ℕ)) (v : Vote) → Sound x → foreign p (said_of x) ≡ false → HoldsVote x m → v.number ≡ (header_of x).sequence → v.speaker ≡ (header_of x).sender
    → v.matrix.side ≡ stations p.faults → matrix_of v.matrix ≡ entries m.now (stations p.faults * stations p.faults) → Voted p v
voted p (frames.Proposal h part) m v s e i number speaker side means =
    of_parts p v part m h (said_of (frames.Proposal h part)) e i number speaker side means refl refl refl s.station s.numbered
voted p (frames.Prepare h part) m v s e i number speaker side means =
    of_parts p v part m h (said_of (frames.Prepare h part)) e i number speaker side means refl refl refl s.station s.numbered
voted p (frames.Commit h part) m v s e i number speaker side means =
    of_parts p v part m h (said_of (frames.Commit h part)) e i number speaker side means refl refl refl s.station s.numbered
voted p (frames.Request h u) m v s e i number speaker side means = absurd i
voted p (frames.Ack h o u) m v s e i number speaker side means = absurd i
voted p (frames.Summary h row) m v s e i number speaker side means = absurd i

shifted_none : (at : ℕ) (o : Option Fault) → shifted at o ≡ None → o ≡ None
shifted_none at None e = refl
shifted_none at (Some d) e = let z : ◌≡◌ {A = ℕ} 0 1 = cc in absurd (omega arith)

part_accepted : (refused : ℕ → Option Fault) (kind : Kind) (s f q : ℕ) (body : List ℕ) → part_fault refused kind f body ≡ None → Accepted refused (said_in kind s f q body)
part_accepted refused Request s f q body e = shifted_none 16 _ e
part_accepted refused Ack s f q body e =
    let a = unless-none (leb (stations f) (field body 0 4)) FrameOrigin 16 _ e in
    shifted_none 24 _ (unless-none (ltb 0 (field body 4 4)) FrameFilling 20 _ a.1).1
part_accepted refused Summary s f q body e = tt
part_accepted refused Proposal s f q body e = tt
part_accepted refused Prepare s f q body e = tt
part_accepted refused Commit s f q body e = tt

pub refuse-ok : {X : Type 0} (t : Bool) (reason : Reason) (rest : Result X Fault) (x : X) → refuse t reason rest ≡ Ok x → rest ≡ Ok x
refuse-ok true reason rest x e = let z : ◌≡◌ {A = ℕ} 0 1 = cc in absurd (omega arith)
refuse-ok false reason rest x e = e

-- A meaning that is passed on, or refused.
passed : (r : Result Said Fault) (test : Said → Bool) (reason : Reason) (x : Said) → then r (λ said. refuse (test said) reason (Ok said)) ≡ Ok x → r ≡ Ok x
passed (Ok s) test reason x e = refuse-ok (test s) reason (Ok s) x e
passed (Err d) test reason x e = let z : ◌≡◌ {A = ℕ} 0 1 = cc in absurd (omega arith)

-- The operation in a frame of the wire is not refused.
pub accepted : (refused : ℕ → Option Fault) (p : Plan) (end : ℕ) (wire : List (List ℕ)) (place : ℕ) (said : Said) → Ok said ≡ frame_at refused p end wire place → Accepted refused said
accepted refused p end wire place said e =
    let bytes = get_or wire place [] in
    let r = read_inv refused bytes said (passed (meaning refused bytes) (foreign p) _ said (refuse-ok (leb end place) _ _ said (sym e))) in
    let j = r.is in
    subst (Accepted refused) j.says (part_accepted refused r.kind _ _ _ _ (unless-none _ _ _ _ j.rest).1)
