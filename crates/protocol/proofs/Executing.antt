-- A run in which every station executes: f = 1, leader 0, nobody faulty, and station 1 submits one operation.
use Rattle.std.proofs.Common.{◌≡◌, ℕ, zero, suc, ◌<◌, cond, eqb, ◌≢◌, [], ◌∷◌, Some, None, sym, refl, ap, ◌∙◌, subst, arith, lit<, lit≤}
use lib.Count.{ones}
use Rattle.std.proofs.lemmas.Bool.{eqb-true, ne_eqb}
use Rattle.std.specs.List.{slice_get}
use Rattle.model.specs.Quorums.{AtLeast, Holds}
use Rattle.model.proofs.Members.{within_from_below, named_none, ones_none}
use Rattle.order.specs.Columns.{Matrix, cell}
use Rattle.order.specs.Laws.{In, Stands}
use Rattle.order.specs.Orders.{order, key}
use Rattle.order.specs.Rows.{Row, entry}
use Rattle.order.specs.declared.standing.Standing.TheVariants.{Newer}
use Rattle.order.proofs.Sequence.{nth_in}
use Rattle.protocol.specs.States.{Run, Fit, Correct, Topic, word, vote, commit, Value, op, mat, say, summary, spot, Places, seen, Full, CertificateAt, Prepared, Unbroken, Longest, Summary, HasRow, Entry, Mach, State}
use Rattle.protocol.specs.Steps.{send, submits, proposes, keeps, executes, echo, still, commits, quiet, Later, same, step}
use Rattle.protocol.specs.Steps.Step.{submit, summarise, propose, take_word, take_vote, take_commit, newer, execute}
use Rattle.protocol.specs.Claims.{Executes}
use Rattle.protocol.proofs.Invariant.{zero_row}
use Rattle.protocol.proofs.Lists.{never}
use Rattle.protocol.proofs.Places.{holds_spot}
use Rattle.protocol.proofs.Four.{upd, changed, upd₂, changed₂, zero_and_two, one_and_two, first_three, not_same, four, fresh, fresh_opened, put, taken, unprepared}

-- ---- the run

abbrev r0 : Run
r0 = four 0

fit0 : Fit r0
fit0 = record { faults = (lit≤ tt, lit≤ tt); watch = (lit≤ tt, lit≤ tt); leads = lit< tt; known = within_from_below 4 0 (lit< tt); few = omega (arith, ones_none) }

correct : (i : ℕ) → i < 4 → Correct r0 i
correct i l = (l, named_none i)

-- what each summary says, and what the leader proposes
abbrev a : Row
a = 0 ∷ 1 ∷ 0 ∷ 0 ∷ []

abbrev X : Matrix
X = 0 ∷ 1 ∷ 0 ∷ 0 ∷ 0 ∷ 1 ∷ 0 ∷ 0 ∷ 0 ∷ 1 ∷ 0 ∷ 0 ∷ 0 ∷ 0 ∷ 0 ∷ 0 ∷ []

abbrev T1 : Topic
T1 = word 1 1

order_1 : slice_get (order 1 1 (X ∷ [])) 0 ≡ Some (key 1 1)
unfolding ones
order_1 = refl

more : Stands 4 a (0 ∷ 0 ∷ 0 ∷ 0 ∷ []) Newer
more = (λ o l. omega (arith, zero_row 4 o), (1, lit< tt, lit< tt))

-- a station with a certificate for the one operation, and no other requests, summarises so
sums : (P : Places) (i u : ℕ) → CertificateAt r0 P i 1 1 u → P (spot i (word 0 1) 0) ≡ None → P (spot i (word 2 1) 2) ≡ None → P (spot i (word 3 1) 3) ≡ None → Summary r0 P i a
sums P i u h n0 n2 n3 = (refl, each)
  where
    none : (o : ℕ) → P (spot i (word o 1) o) ≡ None → Longest r0 P i o 0
    none o e = record {
      within = lit≤ tt;
      run = λ s low high. absurd (omega arith);
      end = λ l c. never (sym e ∙ holds_spot r0 P i (word o 1) (op c.0) o c.1.0);
    }

    each : (o : ℕ) → o < 4 → Longest r0 P i o (entry a o)
    each zero l = none 0 n0
    each (suc zero) l = record {
      within = lit≤ tt;
      run = λ s low high. let e : 1 ≡ s = omega arith in subst (λ x. (w : ℕ) × CertificateAt r0 P i 1 x w) e (u, h);
      end = λ l c. absurd (omega arith);
    }
    each (suc (suc zero)) l = none 2 n2
    each (suc (suc (suc zero))) l = none 3 n3
    each (suc (suc (suc (suc o)))) l = absurd (omega arith)

-- four entries, one by one
all : (g h : ℕ → ℕ) (o : ℕ) → o < 4 → g 0 ≡ h 0 → g 1 ≡ h 1 → g 2 ≡ h 2 → g 3 ≡ h 3 → g o ≡ h o
all g h zero l e0 e1 e2 e3 = e0
all g h (suc zero) l e0 e1 e2 e3 = e1
all g h (suc (suc zero)) l e0 e1 e2 e3 = e2
all g h (suc (suc (suc zero))) l e0 e1 e2 e3 = e3
all g h (suc (suc (suc (suc o)))) l e0 e1 e2 e3 = absurd (omega arith)

-- ---- several deliveries to one station

module _ {M : Mach} where
  -- a station takes the acks of 0 and 2 for an operation of 1
  acks : (first σ : State M) (i : ℕ) (v : Value) → Later first σ → Correct σ.run i → In (say 0 T1 v) σ.wire → In (say 2 T1 v) σ.wire
      → σ.place (spot i T1 0) ≡ None → σ.place (spot i T1 2) ≡ None → Later first (put i T1 2 v (put i T1 0 v σ))
  acks first σ i v l c h0 h2 e0 e2 =
      step (step l (take_word i 1 1 0 v _ (taken σ i T1 0 v c h0 e0) (still (not_same 0 1 refl))))
      (take_word i 1 1 2 v _ (taken (put i T1 0 v σ) i T1 2 v c h2 e2) (still (not_same 2 1 refl)))

  -- and the commits of 0, 1 and 2
  three : (first σ : State M) (i : ℕ) (v : Value) → Later first σ → Correct σ.run i → In (say 0 (commit 1) v) σ.wire → In (say 1 (commit 1) v) σ.wire → In (say 2 (commit 1) v) σ.wire
      → σ.place (spot i (commit 1) 0) ≡ None → σ.place (spot i (commit 1) 1) ≡ None → σ.place (spot i (commit 1) 2) ≡ None
      → Later first (put i (commit 1) 2 v (put i (commit 1) 1 v (put i (commit 1) 0 v σ)))
  three first σ i v l c h0 h1 h2 e0 e1 e2 =
      step (step (step l (take_commit i 1 0 v _ (taken σ i (commit 1) 0 v c h0 e0)))
      (take_commit i 1 1 v _ (taken (put i (commit 1) 0 v σ) i (commit 1) 1 v c h1 e1)))
      (take_commit i 1 2 v _ (taken (put i (commit 1) 1 v (put i (commit 1) 0 v σ)) i (commit 1) 2 v c h2 e2))

certified : (P : Places) (i : ℕ) (v : Value) → P (spot i T1 1) ≡ Some v → P (spot i T1 0) ≡ Some v → P (spot i T1 2) ≡ Some v → Full r0 P i T1 v
certified P i v e1 e0 e2 = (e1, zero_and_two (λ j. (j ≢ 1) × Holds (seen r0 P i T1) v j) (not_same 0 1 refl, e0) (not_same 2 1 refl, e2))

prepared : (P : Places) (i : ℕ) → P (spot i (vote 1) 0) ≡ Some (mat X) → P (spot i (vote 1) 1) ≡ Some (mat X) → P (spot i (vote 1) 2) ≡ Some (mat X) → Prepared r0 P i 1 X
prepared P i e0 e1 e2 = (e0, one_and_two (λ j. (j ≢ 0) × Holds (seen r0 P i (vote 1)) (mat X) j) (not_same 1 0 refl, e1) (not_same 2 0 refl, e2))

ordered : (P : Places) (i : ℕ) → P (spot i (commit 1) 0) ≡ Some (mat X) → P (spot i (commit 1) 1) ≡ Some (mat X) → P (spot i (commit 1) 2) ≡ Some (mat X) → Unbroken r0 P i (X ∷ [])
ordered P i e0 e1 e2 zero Y e =
    let z : X ≡ Y = cc in
    subst (λ Z. AtLeast 3 (Holds (seen r0 P i (commit 1)) (mat Z))) z (first_three (Holds (seen r0 P i (commit 1)) (mat X)) e0 e1 e2)
ordered P i e0 e1 e2 (suc n) Y e = absurd (never e)

-- ---- step by step

module _ (M : Mach) (start : M.Q) (u : ℕ) where
  abbrev m : Value
  m = op u

  abbrev entry_1 : Entry
  entry_1 = record { origin = 1; sequence = 1; operation = u }

  abbrev s0 : State M
  s0 = fresh r0 start

  -- station 1 submits
  abbrev s1 : State M
  s1 = send (say 1 T1 m) (submits (upd eqb s0.submitted 1 (u ∷ [])) s0)

  w1 : Later s0 s1
  w1 = step same (submit 1 u _ (correct 1 (lit< tt)) (lit< tt) (changed eqb s0.submitted 1 (u ∷ []) eqb-true refl))

  -- everybody takes the request, and all but its origin ack
  abbrev s2 : State M
  s2 = send (say 0 T1 m) (put 0 T1 1 m s1)

  w2 : Later s0 s2
  w2 = step w1 (take_word 0 1 1 1 m _ (taken s1 0 T1 1 m (correct 0 (lit< tt)) (nth_in s1.wire 0 (say 1 T1 m) refl) refl) (echo refl (not_same 0 1 refl)))

  abbrev s3 : State M
  s3 = put 1 T1 1 m s2

  w3 : Later s0 s3
  w3 = step w2 (take_word 1 1 1 1 m _ (taken s2 1 T1 1 m (correct 1 (lit< tt)) (nth_in s2.wire 0 (say 1 T1 m) refl) refl) (still (λ e. refl)))

  abbrev s4 : State M
  s4 = send (say 2 T1 m) (put 2 T1 1 m s3)

  w4 : Later s0 s4
  w4 = step w3 (take_word 2 1 1 1 m _ (taken s3 2 T1 1 m (correct 2 (lit< tt)) (nth_in s3.wire 0 (say 1 T1 m) refl) refl) (echo refl (not_same 2 1 refl)))

  abbrev s5 : State M
  s5 = send (say 3 T1 m) (put 3 T1 1 m s4)

  w5 : Later s0 s5
  w5 = step w4 (take_word 3 1 1 1 m _ (taken s4 3 T1 1 m (correct 3 (lit< tt)) (nth_in s4.wire 0 (say 1 T1 m) refl) refl) (echo refl (not_same 3 1 refl)))

  -- everybody takes two acks
  abbrev s6 : State M
  s6 = put 0 T1 2 m (put 0 T1 0 m s5)

  w6 : Later s0 s6
  w6 = acks s0 s5 0 m w5 (correct 0 (lit< tt)) (nth_in s5.wire 1 (say 0 T1 m) refl) (nth_in s5.wire 2 (say 2 T1 m) refl) refl refl

  abbrev s7 : State M
  s7 = put 1 T1 2 m (put 1 T1 0 m s6)

  w7 : Later s0 s7
  w7 = acks s0 s6 1 m w6 (correct 1 (lit< tt)) (nth_in s6.wire 1 (say 0 T1 m) refl) (nth_in s6.wire 2 (say 2 T1 m) refl) refl refl

  abbrev s8 : State M
  s8 = put 2 T1 2 m (put 2 T1 0 m s7)

  w8 : Later s0 s8
  w8 = acks s0 s7 2 m w7 (correct 2 (lit< tt)) (nth_in s7.wire 1 (say 0 T1 m) refl) (nth_in s7.wire 2 (say 2 T1 m) refl) refl refl

  abbrev s9 : State M
  s9 = put 3 T1 2 m (put 3 T1 0 m s8)

  w9 : Later s0 s9
  w9 = acks s0 s8 3 m w8 (correct 3 (lit< tt)) (nth_in s8.wire 1 (say 0 T1 m) refl) (nth_in s8.wire 2 (say 2 T1 m) refl) refl refl

  -- three stations summarise
  abbrev s10 : State M
  s10 = send (summary 0 a) s9

  w10 : Later s0 s10
  w10 = step w9 (summarise 0 a (correct 0 (lit< tt)) (sums s9.place 0 u (certified s9.place 0 m refl refl refl) refl refl refl))

  abbrev s11 : State M
  s11 = send (summary 1 a) s10

  w11 : Later s0 s11
  w11 = step w10 (summarise 1 a (correct 1 (lit< tt)) (sums s10.place 1 u (certified s10.place 1 m refl refl refl) refl refl refl))

  abbrev s12 : State M
  s12 = send (summary 2 a) s11

  w12 : Later s0 s12
  w12 = step w11 (summarise 2 a (correct 2 (lit< tt)) (sums s11.place 2 u (certified s11.place 2 m refl refl refl) refl refl refl))

  -- the leader keeps the three rows, and proposes them
  abbrev s13 : State M
  s13 = keeps (upd₂ s12.kept 0 0 a) s12

  w13 : Later s0 s13
  w13 = step w12 (newer 0 0 a _ (correct 0 (lit< tt)) (nth_in s12.wire 4 (summary 0 a) refl) more (changed₂ s12.kept 0 0 a))

  abbrev s14 : State M
  s14 = keeps (upd₂ s13.kept 0 1 a) s13

  w14 : Later s0 s14
  w14 = step w13 (newer 0 1 a _ (correct 0 (lit< tt)) (nth_in s13.wire 5 (summary 1 a) refl) more (changed₂ s13.kept 0 1 a))

  abbrev s15 : State M
  s15 = keeps (upd₂ s14.kept 0 2 a) s14

  w15 : Later s0 s15
  w15 = step w14 (newer 0 2 a _ (correct 0 (lit< tt)) (nth_in s14.wire 6 (summary 2 a) refl) more (changed₂ s14.kept 0 2 a))

  rows : (k : ℕ) → k < 4 → HasRow r0 X k (s15.kept 0 k)
  rows zero l o q = all (cell 4 X 0) (entry (s15.kept 0 0)) o q refl refl refl refl
  rows (suc zero) l o q = all (cell 4 X 1) (entry (s15.kept 0 1)) o q refl refl refl refl
  rows (suc (suc zero)) l o q = all (cell 4 X 2) (entry (s15.kept 0 2)) o q refl refl refl refl
  rows (suc (suc (suc zero))) l o q = all (cell 4 X 3) (entry (s15.kept 0 3)) o q refl refl refl refl
  rows (suc (suc (suc (suc k)))) l o q = absurd (omega arith)

  abbrev s16 : State M
  s16 = send (say 0 (vote 1) (mat X)) (proposes (X ∷ []) s15)

  w16 : Later s0 s16
  w16 = step w15 (propose X (correct 0 (lit< tt)) (lit< tt) refl rows)

  -- three stations take the proposal, and those who are not the leader send prepares
  abbrev s17 : State M
  s17 = put 0 (vote 1) 0 (mat X) s16

  w17 : Later s0 s17
  w17 = step w16 (take_vote 0 1 0 (mat X) _ (taken s16 0 (vote 1) 0 (mat X) (correct 0 (lit< tt)) (nth_in s16.wire 7 (say 0 (vote 1) (mat X)) refl) refl) (still (λ e. refl)) (quiet (λ Y h. absurd (unprepared 0 (put 0 (vote 1) 0 (mat X) s16).place 0 refl refl Y h))))

  abbrev s18 : State M
  s18 = send (say 1 (vote 1) (mat X)) (put 1 (vote 1) 0 (mat X) s17)

  w18 : Later s0 s18
  w18 = step w17 (take_vote 1 1 0 (mat X) _ (taken s17 1 (vote 1) 0 (mat X) (correct 1 (lit< tt)) (nth_in s17.wire 7 (say 0 (vote 1) (mat X)) refl) refl) (echo refl (not_same 1 0 refl)) (quiet (λ Y h. absurd (unprepared 0 (put 1 (vote 1) 0 (mat X) s17).place 1 refl refl Y h))))

  abbrev s19 : State M
  s19 = send (say 2 (vote 1) (mat X)) (put 2 (vote 1) 0 (mat X) s18)

  w19 : Later s0 s19
  w19 = step w18 (take_vote 2 1 0 (mat X) _ (taken s18 2 (vote 1) 0 (mat X) (correct 2 (lit< tt)) (nth_in s18.wire 7 (say 0 (vote 1) (mat X)) refl) refl) (echo refl (not_same 2 0 refl)) (quiet (λ Y h. absurd (unprepared 0 (put 2 (vote 1) 0 (mat X) s18).place 2 refl refl Y h))))

  -- they take two prepares, and send commits
  abbrev s20 : State M
  s20 = put 0 (vote 1) 1 (mat X) s19

  w20 : Later s0 s20
  w20 = step w19 (take_vote 0 1 1 (mat X) _ (taken s19 0 (vote 1) 1 (mat X) (correct 0 (lit< tt)) (nth_in s19.wire 8 (say 1 (vote 1) (mat X)) refl) refl) (still (not_same 1 0 refl)) (quiet (λ Y h. absurd (unprepared 0 (put 0 (vote 1) 1 (mat X) s19).place 0 refl refl Y h))))

  abbrev s21 : State M
  s21 = send (say 0 (commit 1) (mat X)) (put 0 (vote 1) 2 (mat X) s20)

  w21 : Later s0 s21
  w21 = step w20 (take_vote 0 1 2 (mat X) _ (taken s20 0 (vote 1) 2 (mat X) (correct 0 (lit< tt)) (nth_in s20.wire 9 (say 2 (vote 1) (mat X)) refl) refl) (still (not_same 2 0 refl)) (commits X (unprepared 0 s20.place 0 refl refl) (prepared (put 0 (vote 1) 2 (mat X) s20).place 0 refl refl refl)))

  abbrev s22 : State M
  s22 = put 1 (vote 1) 1 (mat X) s21

  w22 : Later s0 s22
  w22 = step w21 (take_vote 1 1 1 (mat X) _ (taken s21 1 (vote 1) 1 (mat X) (correct 1 (lit< tt)) (nth_in s21.wire 8 (say 1 (vote 1) (mat X)) refl) refl) (still (not_same 1 0 refl)) (quiet (λ Y h. absurd (unprepared 0 (put 1 (vote 1) 1 (mat X) s21).place 1 refl refl Y h))))

  abbrev s23 : State M
  s23 = send (say 1 (commit 1) (mat X)) (put 1 (vote 1) 2 (mat X) s22)

  w23 : Later s0 s23
  w23 = step w22 (take_vote 1 1 2 (mat X) _ (taken s22 1 (vote 1) 2 (mat X) (correct 1 (lit< tt)) (nth_in s22.wire 9 (say 2 (vote 1) (mat X)) refl) refl) (still (not_same 2 0 refl)) (commits X (unprepared 0 s22.place 1 refl refl) (prepared (put 1 (vote 1) 2 (mat X) s22).place 1 refl refl refl)))

  abbrev s24 : State M
  s24 = put 2 (vote 1) 1 (mat X) s23

  w24 : Later s0 s24
  w24 = step w23 (take_vote 2 1 1 (mat X) _ (taken s23 2 (vote 1) 1 (mat X) (correct 2 (lit< tt)) (nth_in s23.wire 8 (say 1 (vote 1) (mat X)) refl) refl) (still (not_same 1 0 refl)) (quiet (λ Y h. absurd (unprepared 0 (put 2 (vote 1) 1 (mat X) s23).place 2 refl refl Y h))))

  abbrev s25 : State M
  s25 = send (say 2 (commit 1) (mat X)) (put 2 (vote 1) 2 (mat X) s24)

  w25 : Later s0 s25
  w25 = step w24 (take_vote 2 1 2 (mat X) _ (taken s24 2 (vote 1) 2 (mat X) (correct 2 (lit< tt)) (nth_in s24.wire 9 (say 2 (vote 1) (mat X)) refl) refl) (still (not_same 2 0 refl)) (commits X (unprepared 0 s24.place 2 refl refl) (prepared (put 2 (vote 1) 2 (mat X) s24).place 2 refl refl refl)))

  -- everybody takes the three commits, and executes
  abbrev s26 : State M
  s26 = put 0 (commit 1) 2 (mat X) (put 0 (commit 1) 1 (mat X) (put 0 (commit 1) 0 (mat X) s25))

  w26 : Later s0 s26
  w26 = three s0 s25 0 (mat X) w25 (correct 0 (lit< tt)) (nth_in s25.wire 10 (say 0 (commit 1) (mat X)) refl) (nth_in s25.wire 11 (say 1 (commit 1) (mat X)) refl) (nth_in s25.wire 12 (say 2 (commit 1) (mat X)) refl) refl refl refl

  abbrev s27 : State M
  s27 = put 1 (commit 1) 2 (mat X) (put 1 (commit 1) 1 (mat X) (put 1 (commit 1) 0 (mat X) s26))

  w27 : Later s0 s27
  w27 = three s0 s26 1 (mat X) w26 (correct 1 (lit< tt)) (nth_in s26.wire 10 (say 0 (commit 1) (mat X)) refl) (nth_in s26.wire 11 (say 1 (commit 1) (mat X)) refl) (nth_in s26.wire 12 (say 2 (commit 1) (mat X)) refl) refl refl refl

  abbrev s28 : State M
  s28 = put 2 (commit 1) 2 (mat X) (put 2 (commit 1) 1 (mat X) (put 2 (commit 1) 0 (mat X) s27))

  w28 : Later s0 s28
  w28 = three s0 s27 2 (mat X) w27 (correct 2 (lit< tt)) (nth_in s27.wire 10 (say 0 (commit 1) (mat X)) refl) (nth_in s27.wire 11 (say 1 (commit 1) (mat X)) refl) (nth_in s27.wire 12 (say 2 (commit 1) (mat X)) refl) refl refl refl

  abbrev s29 : State M
  s29 = put 3 (commit 1) 2 (mat X) (put 3 (commit 1) 1 (mat X) (put 3 (commit 1) 0 (mat X) s28))

  w29 : Later s0 s29
  w29 = three s0 s28 3 (mat X) w28 (correct 3 (lit< tt)) (nth_in s28.wire 10 (say 0 (commit 1) (mat X)) refl) (nth_in s28.wire 11 (say 1 (commit 1) (mat X)) refl) (nth_in s28.wire 12 (say 2 (commit 1) (mat X)) refl) refl refl refl

  abbrev s30 : State M
  s30 = executes (upd eqb s29.executed 0 (entry_1 ∷ [])) (upd eqb s29.machine 0 (M.step start u)) s29

  w30 : Later s0 s30
  w30 = step w29 (execute 0 (key 1 1) u (X ∷ []) _ _ (correct 0 (lit< tt)) (ordered s29.place 0 refl refl refl) order_1 (certified s29.place 0 m refl refl refl) (changed eqb s29.executed 0 (entry_1 ∷ []) eqb-true refl) (changed eqb s29.machine 0 (M.step start u) eqb-true refl))

  abbrev s31 : State M
  s31 = executes (upd eqb s30.executed 1 (entry_1 ∷ [])) (upd eqb s30.machine 1 (M.step start u)) s30

  w31 : Later s0 s31
  w31 = step w30 (execute 1 (key 1 1) u (X ∷ []) _ _ (correct 1 (lit< tt)) (ordered s30.place 1 refl refl refl) order_1 (certified s30.place 1 m refl refl refl) (changed eqb s30.executed 1 (entry_1 ∷ []) eqb-true refl) (changed eqb s30.machine 1 (M.step start u) eqb-true refl))

  abbrev s32 : State M
  s32 = executes (upd eqb s31.executed 2 (entry_1 ∷ [])) (upd eqb s31.machine 2 (M.step start u)) s31

  w32 : Later s0 s32
  w32 = step w31 (execute 2 (key 1 1) u (X ∷ []) _ _ (correct 2 (lit< tt)) (ordered s31.place 2 refl refl refl) order_1 (certified s31.place 2 m refl refl refl) (changed eqb s31.executed 2 (entry_1 ∷ []) eqb-true refl) (changed eqb s31.machine 2 (M.step start u) eqb-true refl))

  abbrev s33 : State M
  s33 = executes (upd eqb s32.executed 3 (entry_1 ∷ [])) (upd eqb s32.machine 3 (M.step start u)) s32

  w33 : Later s0 s33
  w33 = step w32 (execute 3 (key 1 1) u (X ∷ []) _ _ (correct 3 (lit< tt)) (ordered s32.place 3 refl refl refl) order_1 (certified s32.place 3 m refl refl refl) (changed eqb s32.executed 3 (entry_1 ∷ []) eqb-true refl) (changed eqb s32.machine 3 (M.step start u) eqb-true refl))

  everybody : (i : ℕ) → i < 4 → s33.executed i ≡ entry_1 ∷ []
  everybody zero l = refl
  everybody (suc zero) l = refl
  everybody (suc (suc zero)) l = refl
  everybody (suc (suc (suc zero))) l = refl
  everybody (suc (suc (suc (suc i)))) l = absurd (omega arith)

  nobody_else : (p : ℕ) → p ≢ 1 → s33.submitted p ≡ []
  nobody_else p ne = ap (λ c. cond c (u ∷ []) []) (ne_eqb p 1 ne)

pub executing : {M : Mach} → Executes M
executing {M} start u =
    (s33 M start u, (s0 M start u, fresh_opened r0 start fit0, w33 M start u), refl, refl, (1, refl, nobody_else M start u, λ i c. everybody M start u i c.0))
