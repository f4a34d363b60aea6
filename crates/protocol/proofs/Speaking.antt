-- A run in which a faulty leader speaks two different proposals under one number, and is accused: f = 1, leader 0.
use Rattle.std.proofs.Common.{◌≡◌, ℕ, zero, suc, ◌+◌, ◌*◌, ◌<◌, ◌≤◌, true, eqb, ◌≢◌, List, [], ◌∷◌, replicate, refl, subst, inl, inr, arith, lit<, lit≤}
use lib.Count.{ones}
use Rattle.std.proofs.lemmas.Bool.{both_ways, eqb-true}
use Rattle.model.specs.Sets.{joined}
use Rattle.model.proofs.Members.{within_from_below, joined_in}
use Rattle.order.specs.Columns.{Matrix, cell}
use Rattle.order.specs.Rows.{entry}
use Rattle.protocol.specs.States.{Run, Fit, Correct, vote, Value, mat, Message, say, Sound, Mach, State}
use Rattle.protocol.specs.Steps.{send, accuses, Speakable, echo, quiet, Later, same, step}
use Rattle.protocol.specs.Steps.Step.{speak, take_vote, another}
use Rattle.protocol.specs.Claims.{TwoFaced, Accuses}
use Rattle.protocol.proofs.Invariant.{zero_row}
use Rattle.protocol.proofs.Four.{upd, changed, not_same, four, fresh, fresh_opened, put, taken, unprepared}

abbrev r1 : Run
r1 = four 1

one_faulty : ones 1 ≤ 1
unfolding ones
one_faulty = lit≤ tt

fit1 : Fit r1
fit1 = record { faults = (lit≤ tt, lit≤ tt); watch = (lit≤ tt, lit≤ tt); leads = lit< tt; known = within_from_below 4 1 (lit< tt); few = one_faulty }

-- the matrix of zeros, but for b as its first entry, which is in the leader's row
abbrev first : ℕ → Matrix
first b = b ∷ replicate 15 0

-- a proposal with it may be spoken
module _ (b : ℕ) (low : b ≤ 1) where
  few_entries : (k : ℕ) → k < 16 → entry (first b) k ≤ 1
  few_entries zero l = low
  few_entries (suc k) l = omega (arith, zero_row 15 k)

  zero_rows : (k o : ℕ) → cell 4 (first b) (suc k) o ≡ 0
  zero_rows k o = let e : suc (k * 4 + 3 + o) ≡ suc k * 4 + o = omega arith in subst (λ m. entry (first b) m ≡ 0) e (zero_row 15 (k * 4 + 3 + o))

  clear : (w : List Message) → Sound r1 w (first b)
  clear w zero c = absurd (both_ways true c.1 refl)
  clear w (suc k) c = ([], λ o l. zero_rows k o, inl (λ o l. refl))

  may_say : (w : List Message) → Speakable r1 w (say 0 (vote 1) (mat (first b)))
  may_say w = record {
    faulty = refl;
    proper = (lit< tt, ((lit≤ tt, lit≤ tt), (refl, few_entries)));
    sound = λ n X e. let z : first b ≡ X = cc in subst (Sound r1 w) z (clear w);
  }

module _ (M : Mach) (start : M.Q) where
  abbrev zeros : Value
  zeros = mat (first 0)

  abbrev other : Value
  other = mat (first 1)

  -- the leader speaks twice
  abbrev s1 : State M
  s1 = send (say 0 (vote 1) zeros) (fresh r1 start)

  abbrev s2 : State M
  s2 = send (say 0 (vote 1) other) s1

  w2 : Later (fresh r1 start) s2
  w2 = step (step same (speak (say 0 (vote 1) zeros) (may_say 0 (lit≤ tt) []))) (speak (say 0 (vote 1) other) (may_say 1 (lit≤ tt) s1.wire))

  differ : first 0 ≢ first 1
  differ e = let z : ◌≡◌ {A = ℕ} 0 1 = cc in omega arith

  -- station 1 takes one proposal, and is given the other
  abbrev s3 : State M
  s3 = send (say 1 (vote 1) zeros) (put 1 (vote 1) 0 zeros s2)

  c1 : Correct r1 1
  c1 = (lit< tt, refl)

  w3 : Later (fresh r1 start) s3
  w3 =
      step w2 (take_vote 1 1 0 zeros _ (taken s2 1 (vote 1) 0 zeros c1 (inl refl) refl) (echo refl (not_same 1 0 refl))
      (quiet (λ Y h. absurd (unprepared 1 (put 1 (vote 1) 0 zeros s2).place 1 refl refl Y h))))

  abbrev s4 : State M
  s4 = accuses (upd eqb s3.accused 1 (joined 0 0)) s3

  w4 : Later (fresh r1 start) s4
  w4 = step w3 (another 1 (vote 1) 0 other zeros _ c1 (inr (inl refl)) refl (λ e. let z : ◌≡◌ {A = ℕ} 0 1 = cc in omega arith) (changed eqb s3.accused 1 (joined 0 0) eqb-true refl))

pub two_faced : {M : Mach} → TwoFaced M
two_faced {M} start =
    (s2 M start, (fresh r1 start, fresh_opened r1 start fit1, w2 M start), refl, (1, first 0, first 1, inl refl, inr (inl refl), differ M start))

pub accuses_leader : {M : Mach} → Accuses M
accuses_leader {M} start =
    (s4 M start, (fresh r1 start, fresh_opened r1 start fit1, w4 M start), refl, (1, c1 M start, joined_in 0 0 (lit< tt)))
