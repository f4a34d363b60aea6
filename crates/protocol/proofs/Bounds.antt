-- All that is on the wire is within the run's bounds.
use Rattle.std.proofs.Common.{ℕ, suc, ◌*◌, ◌/◌, ◌%◌, ◌<◌, ◌≤◌, List, [], ◌∷◌, ◌++◌, length, sym, subst, inl, inr, mod-lt, div-add-mod', arith}
use Rattle.std.proofs.lemmas.Nat.{div_below}
use Rattle.order.specs.Columns.{Matrix}
use Rattle.order.specs.Laws.{In}
use Rattle.order.specs.Rows.{entry}
use Rattle.protocol.specs.States.{Run, N, Topic, word, vote, commit, Value, op, mat, Message, say, summary, Proper, HasRow, Mach, State}
use Rattle.protocol.specs.Steps.{Echoes, echo, still, Commits, commits, quiet, Step, Later, same, step}
use Rattle.protocol.specs.Steps.Step.{submit, summarise, propose, speak, take_word, take_vote, take_commit, again, another, newer, older, inconsistent, execute}
use Rattle.protocol.specs.Claims.{Bounded}
use Rattle.protocol.proofs.Lists.{in_push}
use Rattle.protocol.proofs.Places.{holds_spot}
use Rattle.protocol.proofs.Invariant.{Inv, inv_put, inv_echo_vote, inv_opened, inv_later}

abbrev All : Run → List Message → Type 0
All r w = (m : Message) → In m w → Proper r m

one_more : (r : Run) (w : List Message) (m : Message) → All r w → Proper r m → All r (w ++ (m ∷ []))
one_more r w m all p x h = elim (in_push w m x h) [ inl e ↦ subst (Proper r) (sym e) p | inr q ↦ all x q ]

module _ {M : Mach} {start : M.Q} {σ : State M} (I : Inv start σ) (all : All σ.run σ.wire) where
  kept_low : (i j o : ℕ) → o < N σ.run → entry (σ.kept i j) o ≤ σ.run.limit
  kept_low i j o l = elim (I.kept i j) [ inl z ↦ omega (arith, z o l) | inr q ↦ (all (summary j (σ.kept i j)) q).1.1 o l ]

  matrix_low : (i : ℕ) (X : Matrix) → ((k : ℕ) → k < N σ.run → HasRow σ.run X k (σ.kept i k)) → (k : ℕ) → k < N σ.run * N σ.run → entry X k ≤ σ.run.limit
  matrix_low i X h k l =
      let n = N σ.run in
      let q = div_below k n n (omega arith) l in
      let m : k % n < n = mod-lt k (omega arith) in
      let e = h (k / n) q (k % n) m in
      subst (λ x. entry X x ≤ σ.run.limit) (div-add-mod' k n) (omega (arith, e, kept_low i (k / n) (k % n) m))

  echo_low : (i : ℕ) (t : Topic) (j : ℕ) (v : Value) {τ : State M} → i < N σ.run → In (say j t v) σ.wire → Echoes σ i t j v τ → All τ.run τ.wire
  echo_low i t j v l h (echo e d) = one_more σ.run σ.wire (say i t v) all (l, (all (say j t v) h).1)
  echo_low i t j v l h (still e) = all

  commit_low : (i n : ℕ) {ω τ : State M} → i < N σ.run → Commits ω σ i n τ → All τ.run τ.wire
  commit_low i n l (commits X was now) =
      one_more σ.run σ.wire (say i (commit n) (mat X)) all
      (l, (all (say σ.run.leader (vote n) (mat X)) (I.source i (vote n) σ.run.leader (mat X) (holds_spot σ.run σ.place i (vote n) (mat X) σ.run.leader now.0))).1)
  commit_low i n l (quiet h) = all

echo_run : {M : Mach} {ρ τ : State M} (i : ℕ) (t : Topic) (j : ℕ) (v : Value) → Echoes ρ i t j v τ → i < N ρ.run → i < N τ.run
echo_run i t j v (echo e d) l = l
echo_run i t j v (still e) l = l

step_low : {M : Mach} {start : M.Q} {σ τ : State M} → Inv start σ → All σ.run σ.wire → Step σ τ → All τ.run τ.wire
step_low {σ = σ} I all (submit o u S c l ch) =
    one_more σ.run σ.wire (say o (word o (suc (length (σ.submitted o)))) (op u)) all (c.0, (c.0, (omega arith, omega arith)))
step_low {σ = σ} I all (summarise i a c h) =
    one_more σ.run σ.wire (summary i a) all (c.0, (h.0, λ k l. (h.1 k l).within))
step_low {σ = σ} I all (propose X c l len h) =
    one_more σ.run σ.wire (say σ.run.leader (vote (suc (length σ.proposed))) (mat X)) all
    (c.0, ((omega arith, omega arith), (len, matrix_low I all σ.run.leader X h)))
step_low {σ = σ} I all (speak m h) = one_more σ.run σ.wire m all h.proper
step_low I all (take_word i o s j v P h e) = echo_low (inv_put I i (word o s) j v P h) all i (word o s) j v h.at.0 h.heard e
step_low I all (take_vote i n j v P h e c) =
    let J = inv_put I i (vote n) j v P h in
    commit_low (inv_echo_vote J i n j v h.filled.0 e) (echo_low J all i (vote n) j v h.at.0 h.heard e) i n (echo_run i (vote n) j v e h.at.0) c
step_low I all (take_commit i n j v P h) = all
step_low I all (again i t j v c h e) = all
step_low I all (another i t j v w A c h e d k) = all
step_low I all (newer i j a K c h up k) = all
step_low I all (older i j a c h down) = all
step_low I all (inconsistent i j a A c h bad k) = all
step_low I all (execute i x u Xs l q c run here cert cl cq) = all

later_low : {M : Mach} {start : M.Q} {σ τ : State M} → Inv start σ → All σ.run σ.wire → Later σ τ → All τ.run τ.wire
later_low I all same = all
later_low I all (step l s) = step_low (inv_later I l) (later_low I all l) s

pub bounded : {M : Mach} → Bounded M
bounded start σ (first, o, l) = later_low (inv_opened o) (λ m h. absurd (subst (In m) o.wire h)) l
