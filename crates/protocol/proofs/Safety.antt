-- The claims, from what holds in every reached state.
use Rattle.std.proofs.Common.{◌≡◌, ℕ, suc, ◌+◌, ◌<◌, ◌≤◌, false, List, [], map, length, get_or, Some, sym, refl, ap, ◌∙◌, subst, inl, inr, arith}
use Rattle.std.proofs.lemmas.Option.{slice_get-get_or}
use Rattle.std.proofs.lemmas.Bool.{cases_lt}
use Rattle.std.specs.List.{slice_get}
use Rattle.model.specs.Sets.{named}
use Rattle.model.specs.Quorums.{AtLeast}
use Rattle.model.proofs.Meeting.{most_outside}
use Rattle.order.specs.Columns.{Matrix, cell}
use Rattle.order.specs.Orders.{order}
use Rattle.order.proofs.Sequence.{nth_in, backed, rows_least, begins}
use Rattle.protocol.specs.States.{N, Correct, Topic, word, vote, commit, Value, op, say, spot, Full, Unbroken, Whole, Entry, key_of, Mach, stepped, State, Submitted}
use Rattle.protocol.specs.Steps.{Echoes, echo, still, Commits, commits, quiet, Step, same, step}
use Rattle.protocol.specs.Steps.Step.{submit, summarise, propose, speak, take_word, take_vote, take_commit, again, another, newer, older, inconsistent, execute}
use Rattle.protocol.specs.Claims.{Beginning, Safe, OneOperation, OneMatrix, OneVoice, Lasting, Comparable}
use Rattle.protocol.proofs.Lists.{in_nth, nth_lt, nth_old, nth_map, same_lists, beginning}
use Rattle.protocol.proofs.Places.{Ext, at_least, holds_spot}
use Rattle.protocol.proofs.Invariant.{Inv, invariant, extends, own_submitted, CertificateFor, said_once, full_once, ordered_once, runs_agree, ordered_sound, reaches}

one_operation : {u v : ℕ} → op u ≡ op v → u ≡ v
one_operation e = cc

module _ {M : Mach} {start : M.Q} {σ : State M} (I : Inv start σ) where
  same_entry : (i j : ℕ) (d e : Entry) → key_of d ≡ key_of e → CertificateFor σ.run σ.place i d → CertificateFor σ.run σ.place j e → d ≡ e
  same_entry i j d e k a b =
      let x : d.origin ≡ e.origin = ap (λ z. z.origin) k in
      let y : d.sequence ≡ e.sequence = ap (λ z. z.sequence) k in
      let t : word e.origin e.sequence ≡ word d.origin d.sequence = cc in
      let z = one_operation (full_once I i j (word d.origin d.sequence) (op d.operation) (op e.operation) a
      (subst (λ y. Full σ.run σ.place j y (op e.operation)) t b)) in
      entries x y z
    where
      entries : d.origin ≡ e.origin → d.sequence ≡ e.sequence → d.operation ≡ e.operation → d ≡ e
      entries x y z =
          ap (λ o. record { origin = o; sequence = d.sequence; operation = d.operation }) x
          ∙ ap (λ s. record { origin = e.origin; sequence = s; operation = d.operation }) y
          ∙ ap (λ u. record { origin = e.origin; sequence = e.sequence; operation = u }) z

  agree : (i j p : ℕ) (d e : Entry) → Correct σ.run i → Correct σ.run j → slice_get (σ.executed i) p ≡ Some d → slice_get (σ.executed j) p ≡ Some e → d ≡ e
  agree i j p d e ci cj hi hj =
      let a = I.lists i ci in
      let b = I.lists j cj in
      let x = a.2 p d hi in
      let y = b.2 p e hj in
      same_entry i j d e (runs_agree I i j a.0 b.0 a.1 b.1 p (key_of d) (key_of e) x.0 y.0) x.1 y.1

  held : (i p : ℕ) (e : Entry) → Correct σ.run i → slice_get (σ.executed i) p ≡ Some e
      → AtLeast (σ.run.f + 1) (λ k. Correct σ.run k × CertificateFor σ.run σ.place k e)
  held i p e c h =
      let f = σ.run.f in
      let a = I.lists i c in
      let x = a.2 p e h in
      let b = backed f σ.run.limit a.0 (key_of e) (nth_in (order f σ.run.limit a.0) p (key_of e) x.0) in
      let X = b.3.0 in
      let n = in_nth a.0 X b.3.1 in
      let sound = ordered_sound I i (suc n.0) X (a.1 n.0 X n.1) in
      let Rows : ℕ → Type 0 = λ k. (k < N σ.run) × (e.sequence ≤ cell (N σ.run) X k e.origin) in
      let m = most_outside f Rows σ.run.faulty (rows_least f X e.origin e.sequence I.fit.faults.1 b.3.2) I.fit.few in
      at_least (f + 1) (λ k. (named σ.run.faulty k ≡ false) × Rows k) (λ k. Correct σ.run k × CertificateFor σ.run σ.place k e)
      (λ k y.
      let w = reaches I X k e.origin e.sequence sound (y.1.0, y.0) b.0 b.1 y.1.1 in
      let z = full_once I k i (word e.origin e.sequence) (op w.0) (op e.operation) w.1 x.1 in
      ((y.1.0, y.0), subst (λ v. Full σ.run σ.place k (word e.origin e.sequence) v) z w.1)) m

  submitted : (i p : ℕ) (e : Entry) → Correct σ.run i → slice_get (σ.executed i) p ≡ Some e → Correct σ.run e.origin
      → Submitted σ.submitted e.origin e.sequence e.operation
  submitted i p e c h co =
      let t = word e.origin e.sequence in
      let x = ((I.lists i c).2 p e h).1.0 in
      let y = holds_spot σ.run σ.place i t (op e.operation) e.origin x in
      own_submitted σ.submitted σ.proposed e.origin e.sequence e.operation
      (elim (I.honest (say e.origin t (op e.operation)) (I.source i t e.origin (op e.operation) y) co) [
        | inl q ↦ q.1
        | inr q ↦ absurd (q.0 refl)
      ])

  -- in the order of the matrices Xs stand the entries that station i has executed
  begun : (i : ℕ) (Xs : List Matrix)
      → ((p : ℕ) (e : Entry) → slice_get (σ.executed i) p ≡ Some e → slice_get (order σ.run.f σ.run.limit Xs) p ≡ Some (key_of e))
      → Beginning (map key_of (σ.executed i)) (order σ.run.f σ.run.limit Xs)
  begun i Xs h =
      beginning (map key_of (σ.executed i)) (order σ.run.f σ.run.limit Xs)
      (λ p x q. let r = nth_map key_of (σ.executed i) p x q in h p r.0 r.1 ∙ ap Some r.2)

  -- an unbroken run of ordered proposals is the beginning of the whole one
  front : (i : ℕ) (Ys Xs : List Matrix) → Unbroken σ.run σ.place i Ys → Whole σ.run σ.place i Xs → Beginning Ys Xs
  front i Ys Xs run (all, end) = beginning Ys Xs at
    where
      short : length Ys ≤ length Xs
      short = elim (cases_lt (length Xs) (length Ys)) [
        | inl l ↦ absurd (end (get_or Ys (length Xs) []) (run (length Xs) (get_or Ys (length Xs) []) (slice_get-get_or Ys (length Xs) [] l)))
        | inr l ↦ l
      ]

      at : (n : ℕ) (Y : Matrix) → slice_get Ys n ≡ Some Y → slice_get Xs n ≡ Some Y
      at n Y h =
          let l : n < length Xs = omega (arith, nth_lt Ys n Y h, short) in
          let e = slice_get-get_or Xs n [] l in
          e ∙ ap Some (ordered_once I i i (suc n) (get_or Xs n []) Y (all n (get_or Xs n []) e) (run n Y h))

  whole : (i : ℕ) (Xs : List Matrix) → Correct σ.run i → Whole σ.run σ.place i Xs
      → Beginning (map key_of (σ.executed i)) (order σ.run.f σ.run.limit Xs)
  whole i Xs c w =
      let a = I.lists i c in
      let b = front i a.0 Xs a.1 w in
      let r = begins σ.run.f σ.run.limit a.0 b.0 in
      begun i Xs
      (λ p e q.
      subst (λ Zs. slice_get (order σ.run.f σ.run.limit Zs) p ≡ Some (key_of e)) (sym b.1)
      (subst (λ ks. slice_get ks p ≡ Some (key_of e)) (sym r.1) (nth_old (order σ.run.f σ.run.limit a.0) r.0 p (key_of e) (a.2 p e q).0)))

pub safe : {M : Mach} → Safe M
safe {M} start σ h =
    let I = invariant h in
    record {
      agree = agree I;
      equal = λ i j c d l. I.state i c ∙ ap (stepped M start) (same_lists (σ.executed i) (σ.executed j) l (λ p x y a b. agree I i j p x y c d a b)) ∙ sym (I.state j d);
      begins = λ i c. let a = I.lists i c in (a.0, a.1, begun I i a.0 (λ p e q. (a.2 p e q).0));
      whole = whole I;
      state = I.state;
      held = held I;
      submitted = submitted I;
      spared = I.spared;
    }

-- ---- what the claims rest on

pub one_certificate : {M : Mach} → OneOperation M
one_certificate start σ h i j o s u v ci cj a b = one_operation (full_once (invariant h) i j (word o s) (op u) (op v) a b)

pub one_matrix : {M : Mach} → OneMatrix M
one_matrix start σ h i j n X Y ci cj a b = ordered_once (invariant h) i j n X Y a b

pub one_voice : {M : Mach} → OneVoice M
one_voice start σ h = said_once (invariant h)

pub comparable : {M : Mach} → Comparable M
comparable start σ h = (invariant h).chain

module _ {M : Mach} where
  echoes_keep : {ρ τ : State M} (i : ℕ) (t : Topic) (j : ℕ) (v : Value) → Echoes ρ i t j v τ → Ext ρ.place τ.place
  echoes_keep i t j v (echo e d) x w h = h
  echoes_keep i t j v (still e) x w h = h

  commits_keep : {σ ρ τ : State M} (i n : ℕ) → Commits σ ρ i n τ → Ext ρ.place τ.place
  commits_keep i n (commits X was now) x w h = h
  commits_keep i n (quiet q) x w h = h

  step_keeps : {σ τ : State M} → Step σ τ → Ext σ.place τ.place
  step_keeps (submit o u S c l ch) x v h = h
  step_keeps (summarise i a c s) x v h = h
  step_keeps (propose X c l len k) x v h = h
  step_keeps (speak m s) x v h = h
  step_keeps {σ} (take_word i o s j w P k e) x v h =
      echoes_keep i (word o s) j w e x v (extends σ.place P (spot i (word o s) j) w k.filled k.empty x v h)
  step_keeps {σ} (take_vote i n j w P k e c) x v h =
      commits_keep i n c x v (echoes_keep i (vote n) j w e x v (extends σ.place P (spot i (vote n) j) w k.filled k.empty x v h))
  step_keeps {σ} (take_commit i n j w P k) x v h = extends σ.place P (spot i (commit n) j) w k.filled k.empty x v h
  step_keeps (again i t j w c k e) x v h = h
  step_keeps (another i t j w y A c k e d q) x v h = h
  step_keeps (newer i j a K c k up q) x v h = h
  step_keeps (older i j a c k down) x v h = h
  step_keeps (inconsistent i j a A c k bad q) x v h = h
  step_keeps (execute i y u Xs l q c run here cert cl cq) x v h = h

pub lasting : {M : Mach} → Lasting M
lasting σ τ same x v h = h
lasting σ τ (step {τ = ρ} l s) x v h = step_keeps s x v (lasting σ ρ l x v h)
