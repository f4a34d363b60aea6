use Rattle.std.proofs.Common.{◌≡◌, ℕ, ◌+◌, ◌-◌, ◌*◌, ◌<◌, ◌≤◌, false, not, eqb, ltb, leb, List, [], ◌∷◌, ◌++◌, length, get_or, take, drop, None, Ok, Option, sym, refl, ap, ◌∙◌, arith}
use Rattle.frames.proofs.Bodies.{ack_back, ack_there, entries_back, entries_there, filling_there, word_back, word_there}
use Rattle.frames.proofs.Headers.{head_back, head_there, heads, kind_back, kind_small, kind_there, sequence_none, sequence_small, sequence_some, unless-none}
use Rattle.frames.proofs.Judging.{answer-none, meaning-split, none_or, or_none, read_inv, split_there, two}
use Rattle.frames.specs.Kinds.{bad_sequence, head_fault, kind_number, size, stations, unless}
use Rattle.frames.specs.Meaning.{body_fault, filling_fault, meaning, part_fault, said_in, shifted}
use Rattle.frames.specs.Said.{Said, request, ack, summary, proposal, prepare, commit}
use Rattle.frames.specs.Views.{Accepted, Bytes, Numbered, Origin, Sound, Valued, header_of, kind_is, said_of}
use Rattle.frames.specs.Writing.{body_of, faults_of, frame, head_bytes, head_number, kind_of, part_unfit, sender_of, sequence_of, unfit}
use Rattle.frames.specs.declared.kind.Frame.{Frame}
use Rattle.frames.specs.declared.kind.Frame.TheVariants as frames
use Rattle.frames.specs.declared.kind.Header.{Header}
use Rattle.frames.specs.declared.kind.Kind.{Kind}
use Rattle.frames.specs.declared.kind.Kind.TheVariants.{Request, Ack, Summary, Proposal, Prepare, Commit}
use Rattle.model.specs.declared.fault.Fault.{Fault}
use Rattle.model.specs.declared.fault.Reason.TheVariants.{FrameFilling, FrameLength, FrameOrigin}
use Rattle.rows.specs.Bits.{Small, entries, field, packed, room}
use Rattle.std.proofs.lemmas.List.FromFn.{length-map-range_with_len}
use Rattle.std.proofs.lemmas.List.{get_or-drop}
use Rattle.std.proofs.lemmas.Bool.{eq-eqb, eqb-true, leb-false, ltb-false, not-false}

long_from : (es : List ℕ) (n : ℕ) → unless (not (eqb (length es) n)) FrameLength 0 None ≡ None → length es ≡ n
long_from es n e = eqb-true _ _ (not-false _ (unless-none (not (eqb (length es) n)) FrameLength 0 None e).0)

-- A packed list of n entries is a body of n entries that is not refused and reads as the list.
record Packing (es : List ℕ) (n : ℕ) : Type 0 where
  long : length (packed (length es) es) ≡ room n
  fine : filling_fault n (packed (length es) es) ≡ None
  same : entries (packed (length es) es) n ≡ es

packing : (es : List ℕ) (n : ℕ) → length es ≡ n → Small es → Packing es n
packing es n e small =
    let w = 8 * room n - 6 * n in
    let zeros : ltb 0 (field (packed n es) (6 * n) w) ≡ false = ap (ltb 0) (filling_there es n w e) in
    record {
      long = length-map-range_with_len _ 0 (room (length es)) ∙ ap room e;
      fine = ap (λ m. filling_fault n (packed m es)) e ∙ ap (λ t. unless t FrameFilling (16 + 6 * n) None) zeros;
      same = ap (λ m. entries (packed m es) n) e ∙ entries_there es n e small;
    }

-- The body of what is said is one that is not refused, and says it.
record Parts (refused : ℕ → Option Fault) (s : Said) : Type 0 where
  long : length (body_of s) ≡ size (kind_of s) (faults_of s)
  fine : part_fault refused (kind_of s) (faults_of s) (body_of s) ≡ None
  same : said_in (kind_of s) (sender_of s) (faults_of s) (sequence_of s) (body_of s) ≡ s

parts : (refused : ℕ → Option Fault) (s : Said) → faults_of s ≤ 5 → part_unfit s ≡ None → Valued s → Accepted refused s → Parts refused s
parts refused (request s f q u) few e v a =
    let w = word_there u v in
    record {
      long = refl;
      fine = ap (λ x. shifted 16 (refused x)) w ∙ ap (shifted 16) a;
      same = ap (request s f q) w;
    }
parts refused (ack s f q o u) few e v a =
    let t = (unless-none (leb (stations f) o) FrameOrigin 16 None e).0 in
    let below = leb-false (stations f) o t in
    let p = ack_there o u (omega arith) in
    let w = p.word_there ∙ word_there u v in
    let zeros : ltb 0 (field (o * 16 ∷ body_of (request s f q u)) 4 4) ≡ false = ap (ltb 0) p.zeros_there in
    let origin : leb (stations f) (field (o * 16 ∷ body_of (request s f q u)) 0 4) ≡ false = ap (leb (stations f)) p.origin_there ∙ t in
    let body : List ℕ = o * 16 ∷ body_of (request s f q u) in
    record {
      long = refl;
      fine = ap (λ x. unless x FrameOrigin 16 (unless (ltb 0 (field body 4 4)) FrameFilling 20 (shifted 24 (refused (field body 8 64))))) origin
          ∙ ap (λ x. unless x FrameFilling 20 (shifted 24 (refused (field body 8 64)))) zeros ∙ ap (λ x. shifted 24 (refused x)) w ∙ ap (shifted 24) a;
      same = ap (λ x. ack s f q x (field body 8 64)) p.origin_there ∙ ap (ack s f q o) w;
    }
parts refused (summary s f row) few e v a =
    let p = packing row (stations f) (long_from row (stations f) e) v in
    record { long = p.long; fine = p.fine; same = ap (summary s f) p.same }
parts refused (proposal s f q m) few e v a =
    let p = packing m (stations f * stations f) (long_from m (stations f * stations f) e) v in
    record { long = p.long; fine = p.fine; same = ap (proposal s f q) p.same }
parts refused (prepare s f q m) few e v a =
    let p = packing m (stations f * stations f) (long_from m (stations f * stations f) e) v in
    record { long = p.long; fine = p.fine; same = ap (prepare s f q) p.same }
parts refused (commit s f q m) few e v a =
    let p = packing m (stations f * stations f) (long_from m (stations f * stations f) e) v in
    record { long = p.long; fine = p.fine; same = ap (commit s f q) p.same }

body_none : (refused : ℕ → Option Fault) (kind : Kind) (f : ℕ) (body : List ℕ) → length body ≡ size kind f → part_fault refused kind f body ≡ None → body_fault refused kind f body ≡ None
body_none refused kind f body long fine =
    ap (λ t. unless (not t) FrameLength 0 (part_fault refused kind f body)) (eq-eqb (length body) (size kind f) long) ∙ fine

-- The frame of what is said reads as what is said.
pub reads_back : (refused : ℕ → Option Fault) (s : Said) → unfit s ≡ None → Valued s → Accepted refused s → meaning refused (frame s) ≡ Ok s
reads_back refused s e v a =
    let k = kind_number (kind_of s) in
    let o = or_none (head_fault (kind_of s) (sender_of s) (faults_of s) (sequence_of s)) (part_unfit s) e in
    let h = heads (kind_of s) (sender_of s) (faults_of s) (sequence_of s) o.0 in
    let ks = kind_small (kind_of s) in
    let qs = sequence_small (kind_of s) (sequence_of s) h.sequence in
    let st : sender_of s < 3 * faults_of s + 1 = h.station in
    let few : faults_of s ≤ 5 = h.few in
    let n = head_number k (sender_of s) (faults_of s) (sequence_of s) in
    let there = head_there k (sender_of s) (faults_of s) (sequence_of s) ks (omega arith) (omega arith) qs in
    let p = parts refused s few o.1 v a in
    meaning-split refused (frame s) (omega arith)
    ∙ split_there refused (head_bytes n) (body_of s) k (sender_of s) (faults_of s) (sequence_of s) (kind_of s) there (kind_there (kind_of s))
    ∙ answer-none _ _ (none_or (head_fault (kind_of s) (sender_of s) (faults_of s) (sequence_of s)) (body_fault refused (kind_of s) (faults_of s) (body_of s)) o.0 (body_none refused (kind_of s) (faults_of s) (body_of s) p.long p.fine))
    ∙ ap Ok p.same

-- A body that is not refused is the body of what it says.
record Back (kind : Kind) (s f q : ℕ) (body : List ℕ) : Type 0 where
  kinds : kind_of (said_in kind s f q body) ≡ kind
  senders : sender_of (said_in kind s f q body) ≡ s
  bounds : faults_of (said_in kind s f q body) ≡ f
  sequences : sequence_of (said_in kind s f q body) ≡ q
  bodies : body_of (said_in kind s f q body) ≡ body

entries_are : (body : List ℕ) (n : ℕ) → Bytes body → length body ≡ room n → filling_fault n body ≡ None → packed (length (entries body n)) (entries body n) ≡ body
entries_are body n bytes long fine =
    let w = 8 * room n - 6 * n in
    let z = ltb-false 0 (field body (6 * n) w) (unless-none (ltb 0 (field body (6 * n) w)) FrameFilling (16 + 6 * n) None fine).0 in
    let zeros : field body (6 * n) w ≡ 0 = omega arith in
    ap (λ m. packed m (entries body n)) (length-map-range_with_len _ 0 n) ∙ entries_back body n bytes long zeros

back : (refused : ℕ → Option Fault) (kind : Kind) (s f q : ℕ) (body : List ℕ) → Bytes body → length body ≡ size kind f → part_fault refused kind f body ≡ None → bad_sequence kind q ≡ false
    → Back kind s f q body
back refused Request s f q body bytes long fine seq = record { kinds = refl; senders = refl; bounds = refl; sequences = refl; bodies = word_back body bytes long }
back refused Ack s f q body bytes long fine seq =
    let a = unless-none (leb (stations f) (field body 0 4)) FrameOrigin 16 _ fine in
    let b = unless-none (ltb 0 (field body 4 4)) FrameFilling 20 _ a.1 in
    let z = ltb-false 0 (field body 4 4) b.0 in
    let zeros : field body 4 4 ≡ 0 = omega arith in
    record { kinds = refl; senders = refl; bounds = refl; sequences = refl; bodies = ack_back body bytes long zeros }
back refused Summary s f q body bytes long fine seq = record { kinds = refl; senders = refl; bounds = refl; sequences = sym (sequence_none q seq); bodies = entries_are body (stations f) bytes long fine }
back refused Proposal s f q body bytes long fine seq = record { kinds = refl; senders = refl; bounds = refl; sequences = refl; bodies = entries_are body (stations f * stations f) bytes long fine }
back refused Prepare s f q body bytes long fine seq = record { kinds = refl; senders = refl; bounds = refl; sequences = refl; bodies = entries_are body (stations f * stations f) bytes long fine }
back refused Commit s f q body bytes long fine seq = record { kinds = refl; senders = refl; bounds = refl; sequences = refl; bodies = entries_are body (stations f * stations f) bytes long fine }

parts_frame : (kind : Kind) (s f q : ℕ) (body : List ℕ) → Back kind s f q body → frame (said_in kind s f q body) ≡ head_bytes (head_number (kind_number kind) s f q) ++ body
parts_frame kind s f q body b =
    ap (λ k. head_bytes (head_number (kind_number k) (sender_of (said_in kind s f q body)) (faults_of (said_in kind s f q body)) (sequence_of (said_in kind s f q body))) ++ body_of (said_in kind s f q body)) b.kinds
    ∙ ap (λ x. head_bytes (head_number (kind_number kind) x (faults_of (said_in kind s f q body)) (sequence_of (said_in kind s f q body))) ++ body_of (said_in kind s f q body)) b.senders
    ∙ ap (λ x. head_bytes (head_number (kind_number kind) s x (sequence_of (said_in kind s f q body))) ++ body_of (said_in kind s f q body)) b.bounds
    ∙ ap (λ x. head_bytes (head_number (kind_number kind) s f x) ++ body_of (said_in kind s f q body)) b.sequences
    ∙ ap (λ x. head_bytes (head_number (kind_number kind) s f q) ++ x) b.bodies

whole : (bytes : List ℕ) → 2 ≤ length bytes → get_or bytes 0 0 ∷ get_or bytes 1 0 ∷ drop 2 bytes ≡ bytes
whole [] h = absurd (omega arith)
whole (x ∷ []) h = absurd (omega arith)
whole (x ∷ y ∷ xs) h = refl

-- A byte string that is read is the frame of what it says.
pub frame_back : (refused : ℕ → Option Fault) (bytes : List ℕ) (said : Said) → Bytes bytes → meaning refused bytes ≡ Ok said → frame said ≡ bytes
frame_back refused bytes said small e =
    let r = read_inv refused bytes said e in
    let j = r.is in
    let head = take 2 bytes in
    let body = drop 2 bytes in
    let s = field head 3 4 in
    let f = field head 7 3 in
    let q = field head 10 6 in
    let h = heads r.kind s f q j.head in
    let l = unless-none (not (eqb (length body) (size r.kind f))) FrameLength 0 (part_fault refused r.kind f body) j.rest in
    let long : length body ≡ size r.kind f = eqb-true _ _ (not-false _ l.0) in
    let tail : Bytes body = λ k. rw get_or-drop (small (2 + k)) in
    let b = back refused r.kind s f q body tail long l.1 h.sequence in
    let t = two bytes r.long in
    let number : head_bytes (head_number (kind_number r.kind) s f q) ≡ get_or bytes 0 0 ∷ get_or bytes 1 0 ∷ [] =
    head_back (get_or bytes 0 0) (get_or bytes 1 0) (kind_number r.kind) s f q (small 0) (small 1)
    (record {
      kind = ap (λ h. field h 0 3) (sym t) ∙ sym (kind_back (field head 0 3) r.kind r.named);
      sender = ap (λ h. field h 3 4) (sym t);
      faults = ap (λ h. field h 7 3) (sym t);
      sequence = ap (λ h. field h 10 6) (sym t);
    }) in
    ap frame (sym j.says) ∙ parts_frame r.kind s f q body b ∙ ap (λ h. h ++ body) number ∙ whole bytes r.long

counted : (body : List ℕ) (n : ℕ) → unless (not (eqb (length (entries body n)) n)) FrameLength 0 None ≡ None
counted body n = ap (λ t. unless (not t) FrameLength 0 None) (eq-eqb (length (entries body n)) n (length-map-range_with_len _ 0 n))

-- What is read can be written.
fit_said : (refused : ℕ → Option Fault) (kind : Kind) (s f q : ℕ) (body : List ℕ) → head_fault kind s f q ≡ None → part_fault refused kind f body ≡ None → unfit (said_in kind s f q body) ≡ None
fit_said refused Request s f q body head fine = none_or (head_fault Request s f q) None head refl
fit_said refused Ack s f q body head fine =
    let t = (unless-none (leb (stations f) (field body 0 4)) FrameOrigin 16 _ fine).0 in
    none_or (head_fault Ack s f q) _ head (ap (λ t. unless t FrameOrigin 16 None) t)
fit_said refused Summary s f q body head fine =
    let z = sequence_none q (heads Summary s f q head).sequence in
    none_or (head_fault Summary s f 0) _ (ap (head_fault Summary s f) (sym z) ∙ head) (counted body (stations f))
fit_said refused Proposal s f q body head fine = none_or (head_fault Proposal s f q) _ head (counted body (stations f * stations f))
fit_said refused Prepare s f q body head fine = none_or (head_fault Prepare s f q) _ head (counted body (stations f * stations f))
fit_said refused Commit s f q body head fine = none_or (head_fault Commit s f q) _ head (counted body (stations f * stations f))

pub fit_back : (refused : ℕ → Option Fault) (bytes : List ℕ) (said : Said) → meaning refused bytes ≡ Ok said → unfit said ≡ None
fit_back refused bytes said e =
    let r = read_inv refused bytes said e in
    let j = r.is in
    let head = take 2 bytes in
    let body = drop 2 bytes in
    let f = field head 7 3 in
    let l = unless-none (not (eqb (length body) (size r.kind f))) FrameLength 0 (part_fault refused r.kind f body) j.rest in
    ap unfit (sym j.says) ∙ fit_said refused r.kind (field head 3 4) f (field head 10 6) body j.head l.1

numbered : (x : Frame) → bad_sequence (kind_is x) (header_of x).sequence ≡ false → Numbered x
numbered (frames.Request h u) e = sequence_some h.sequence e
numbered (frames.Ack h o u) e = sequence_some h.sequence e
numbered (frames.Summary h row) e = sequence_none h.sequence e
numbered (frames.Proposal h m) e = sequence_some h.sequence e
numbered (frames.Prepare h m) e = sequence_some h.sequence e
numbered (frames.Commit h m) e = sequence_some h.sequence e

origin : (x : Frame) → part_unfit (said_of x) ≡ None → Origin x
origin (frames.Request h u) e = tt
origin (frames.Ack h o u) e = leb-false (stations h.faults) o (unless-none (leb (stations h.faults) o) FrameOrigin 16 None e).0
origin (frames.Summary h row) e = tt
origin (frames.Proposal h m) e = tt
origin (frames.Prepare h m) e = tt
origin (frames.Commit h m) e = tt

-- A frame whose header is not refused, and that can be written, has its numbers in their ranges.
pub sound : (x : Frame) (kind : Kind) (h : Header) → header_of x ≡ h → kind_is x ≡ kind → head_fault kind h.sender h.faults h.sequence ≡ None → unfit (said_of x) ≡ None → Sound x
sound x kind head eh ek e u =
    let same : head_fault (kind_is x) (header_of x).sender (header_of x).faults (header_of x).sequence ≡ None =
    ap (λ k. head_fault k (header_of x).sender (header_of x).faults (header_of x).sequence) ek ∙ ap (λ h. head_fault kind h.sender h.faults h.sequence) eh ∙ e in
    let h = heads (kind_is x) (header_of x).sender (header_of x).faults (header_of x).sequence same in
    let o = or_none (head_fault (kind_of (said_of x)) (sender_of (said_of x)) (faults_of (said_of x)) (sequence_of (said_of x))) (part_unfit (said_of x)) u in
    record {
      some = h.some;
      few = h.few;
      station = h.station;
      short = sequence_small (kind_is x) (header_of x).sequence h.sequence;
      numbered = numbered x h.sequence;
      origin = origin x o.1;
    }
