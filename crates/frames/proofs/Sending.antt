use Rattle.std.proofs.Common.{◌≡◌, ℕ, ◌+◌, ◌*◌, ◌<◌, ◌≤◌, Bool, true, false, cond, not, eqb, ltb, leb, List, [], ◌∷◌, ◌++◌, length, drop, set, Some, None, Ok, Err, Option, Result, sym, refl, ap, ◌∙◌, ⊎_elim, arith}
use Rattle.frames.proofs.Headers.{unless-none}
use Rattle.frames.proofs.Judging.{checked_err, none_or}
use Rattle.frames.specs.Kinds.{checked, head_fault, size, stations}
use Rattle.frames.specs.Meaning.{or_else}
use Rattle.frames.specs.Said.{Said, request, ack, summary, proposal, prepare, commit}
use Rattle.frames.specs.Views.{Valued, said_by}
use Rattle.frames.specs.Writing.{body_of, count_fault, faults_of, fitting, frame, kind_of, part_unfit, sender_of, sequence_of, unfit, written}
use Rattle.frames.specs.declared.kind.Kind.{Kind}
use Rattle.frames.specs.declared.kind.Message.{Message}
use Rattle.frames.specs.declared.kind.Message.TheVariants as messages
use Rattle.model.specs.Faults.{fault}
use Rattle.model.specs.declared.fault.Fault.{Fault}
use Rattle.model.specs.declared.fault.Reason.TheVariants.{FrameLength, ShortBuffer}
use Rattle.rows.specs.Bits.{packed, room}
use Rattle.std.proofs.lemmas.List.FromFn.{length-map-range_with_len}
use Rattle.std.proofs.lemmas.List.{append-nil, drop_all}
use Rattle.std.proofs.lemmas.Bool.{cases_Bool, cond-false, cond-true, eqb-true, le-leb, le-ltb, lt-ltb, ltb-false, not-false}
use borrow.Rule.Slice.PartMut.{put_mid}

-- A message's sender and f are those that it is given.
pub sender_by : (s f : ℕ) (m : Message) → sender_of (said_by s f m) ≡ s
sender_by s f (messages.Request q u) = refl
sender_by s f (messages.Ack q o u) = refl
sender_by s f (messages.Summary row) = refl
sender_by s f (messages.Proposal q m) = refl
sender_by s f (messages.Prepare q m) = refl
sender_by s f (messages.Commit q m) = refl

pub faults_by : (s f : ℕ) (m : Message) → faults_of (said_by s f m) ≡ f
faults_by s f (messages.Request q u) = refl
faults_by s f (messages.Ack q o u) = refl
faults_by s f (messages.Summary row) = refl
faults_by s f (messages.Proposal q m) = refl
faults_by s f (messages.Prepare q m) = refl
faults_by s f (messages.Commit q m) = refl

pub unfit_by : (s f q : ℕ) (kind : Kind) (m : Message) → ((s f : ℕ) → kind ≡ kind_of (said_by s f m)) → ((s f : ℕ) → q ≡ sequence_of (said_by s f m))
    → unfit (said_by s f m) ≡ or_else (head_fault kind s f q) (part_unfit (said_by s f m))
unfit_by s f q kind m ek eq = rw (ek s f, eq s f, sender_by s f m, faults_by s f m)

pub written_head : (s f q space : ℕ) (kind : Kind) (m : Message) (e : Fault) → ((s f : ℕ) → kind ≡ kind_of (said_by s f m)) → ((s f : ℕ) → q ≡ sequence_of (said_by s f m))
    → Err e ≡ checked (head_fault kind s f q) → Err e ≡ written (said_by s f m) space
written_head s f q space kind m e ek eq p =
    let n : unfit (said_by s f m) ≡ Some e = unfit_by s f q kind m ek eq ∙ ap (λ o. or_else o (part_unfit (said_by s f m))) (checked_err _ e p) in
    rw n

packed_long : (es : List ℕ) (n : ℕ) → count_fault es n ≡ None → length (packed (length es) es) ≡ room n
packed_long es n e =
    let l : length es ≡ n = eqb-true _ _ (not-false _ (unless-none (not (eqb (length es) n)) FrameLength 0 None e).0) in
    length-map-range_with_len _ 0 (room (length es)) ∙ ap room l

body_long : (s : Said) → part_unfit s ≡ None → length (body_of s) ≡ size (kind_of s) (faults_of s)
body_long (request s f q u) e = refl
body_long (ack s f q o u) e = refl
body_long (summary s f row) e = packed_long row (stations f) e
body_long (proposal s f q m) e = packed_long m (stations f * stations f) e
body_long (prepare s f q m) e = packed_long m (stations f * stations f) e
body_long (commit s f q m) e = packed_long m (stations f * stations f) e

pub frame_long : (s : Said) (kind : Kind) (f n : ℕ) → part_unfit s ≡ None → kind ≡ kind_of s → f ≡ faults_of s → n ≡ size kind f → length (frame s) ≡ 2 + n
frame_long s kind f n e ek ef en =
    let b : length (body_of s) ≡ n = body_long s e ∙ ap (λ k. size k (faults_of s)) (sym ek) ∙ ap (size kind) (sym ef) ∙ sym en in
    omega arith

-- The answer of writing, where nothing is refused of what is said.
pub written_short : (s : Said) (space len : ℕ) → unfit s ≡ None → length (frame s) ≡ len → space < len → written s space ≡ Err (fault ShortBuffer 0)
written_short s space len none long h =
    ap (λ o. fitting o (length (frame s)) space) none ∙ cond-true (ltb space (length (frame s))) _ _ (lt-ltb _ _ (omega arith))

pub written_whole : (s : Said) (space len : ℕ) → unfit s ≡ None → length (frame s) ≡ len → len ≤ space → written s space ≡ Ok len
written_whole s space len none long h =
    ap (λ o. fitting o (length (frame s)) space) none ∙ cond-false (ltb space (length (frame s))) _ _ (le-ltb _ _ (omega arith)) ∙ ap Ok long

-- A packed list that takes up the whole of a part.
pub fills : (es to after : List ℕ) (n : ℕ) (r : Bool) → length es ≡ n → length to ≡ length (packed (length es) es) → r ≡ leb (room n) (length to)
    → after ≡ cond r (packed n es ++ drop (room n) to) to → after ≡ packed (length es) es
fills es to after n r long whole answer e =
    let l : length to ≡ room n = whole ∙ length-map-range_with_len _ 0 (room (length es)) ∙ ap room long in
    e ∙ cond-true r _ _ (answer ∙ le-leb _ _ (omega arith))
    ∙ ap (λ rest. packed n es ++ rest) (drop_all (room n) to (omega arith)) ∙ append-nil (packed n es) ∙ ap (λ n. packed n es) (sym long)

-- A byte and the rest of a part.
pub fills_ack : (to ys : List ℕ) (a : ℕ) → length to ≡ 9 → put_mid 1 8 (set to 0 a) ys ≡ a ∷ ys
fills_ack [] ys a l = absurd (omega arith)
fills_ack (x ∷ to) ys a l =
    let d : drop 8 to ≡ [] = drop_all 8 to (omega arith) in
    ap (λ rest. a ∷ (ys ++ rest)) d ∙ ap (λ rest. a ∷ rest) (append-nil ys)

-- Nothing is refused of a message, and its frame has this length.
pub record Fit (s f n : ℕ) (m : Message) : Type 0 where
  pub none : unfit (said_by s f m) ≡ None
  pub long : length (frame (said_by s f m)) ≡ 2 + n

pub fit_by : (s f q n : ℕ) (kind : Kind) (m : Message) → ((s f : ℕ) → kind ≡ kind_of (said_by s f m)) → ((s f : ℕ) → q ≡ sequence_of (said_by s f m))
    → head_fault kind s f q ≡ None → part_unfit (said_by s f m) ≡ None → n ≡ size kind f → Fit s f n m
fit_by s f q n kind m ek eq hn pn en = record {
  none = unfit_by s f q kind m ek eq ∙ none_or _ _ hn pn;
  long = frame_long (said_by s f m) kind f n pn (ek s f) (sym (faults_by s f m)) en;
}

pub valued_by : (s t f : ℕ) (m : Message) → Valued (said_by s f m) → Valued (said_by t f m)
valued_by s t f (messages.Request q u) v = v
valued_by s t f (messages.Ack q o u) v = v
valued_by s t f (messages.Summary row) v = v
valued_by s t f (messages.Proposal q m) v = v
valued_by s t f (messages.Prepare q m) v = v
valued_by s t f (messages.Commit q m) v = v

-- What an answer `Ok` says of what is written.
pub record Sent (s : Said) (space len : ℕ) : Type 0 where
  pub none : unfit s ≡ None
  pub long : length (frame s) ≡ len
  pub within : len ≤ space

fitting_inv : (o : Option Fault) (n space len : ℕ) → fitting o n space ≡ Ok len → (o ≡ None) × (n ≡ len) × (n ≤ space)
fitting_inv (Some e) n space len p = let z : ◌≡◌ {A = ℕ} 0 1 = cc in absurd (omega arith)
fitting_inv None n space len p =
    ⊎_elim
    (λ (t : ltb space n ≡ true).
    let c = sym (cond-true (ltb space n) _ (Ok n) t) ∙ p in
    let z : ◌≡◌ {A = ℕ} 0 1 = cc in absurd (omega arith))
    (λ (t : ltb space n ≡ false).
    let c : ◌≡◌ {A = Result ℕ Fault} (Ok n) (Ok len) = sym (cond-false (ltb space n) _ (Ok n) t) ∙ p in
    let same : n ≡ len = cc in
    (refl, same, ltb-false space n t))
    (cases_Bool (ltb space n))

pub sent : (s : Said) (space len : ℕ) → Ok len ≡ written s space → Sent s space len
sent s space len e =
    let f = fitting_inv (unfit s) (length (frame s)) space len (sym e) in
    let long = f.1 in
    let within = f.2 in
    record { none = f.0; long = long; within = omega arith }
