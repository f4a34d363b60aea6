-- Runs of four stations, changed one place after the other.
use Rattle.std.proofs.Common.{◌≡◌, ℕ, zero, suc, ◌<◌, ◌≤◌, Bool, true, false, cond, ◌&&◌, eqb, ◌≢◌, ◌⊎◌, [], replicate, Some, None, sym, refl, ap, ◌∙◌, subst, inl, inr, arith, lit<, lit≤}
use lib.Count.{ones}
use Rattle.std.proofs.lemmas.Bool.{and_parts, and_from, eqb-true, eq-eqb, both_ways}
use Rattle.model.specs.Sets.{named, Names}
use Rattle.model.specs.Quorums.{AtLeast, Holds}
use Rattle.model.proofs.Members.{within_from_below, below_from_within, ones-outside}
use Rattle.order.specs.Columns.{Matrix}
use Rattle.order.specs.Laws.{In}
use Rattle.order.specs.Rows.{Row}
use Rattle.protocol.specs.States.{Run, N, Fit, Correct, Topic, word, vote, commit, Value, mat, say, Spot, spot, Places, seen, Prepared, Mach, State}
use Rattle.protocol.specs.Steps.{Changed, Changed₂, places, Taken}
use Rattle.protocol.proofs.Lists.{never}
use Rattle.protocol.proofs.Places.{holds_spot, holds_below_n}
use Rattle.protocol.specs.Steps.{Opened}

-- ---- one place changed

abbrev pub eq_topic : Topic → Topic → Bool
eq_topic (word o s) (word p t) = eqb o p && eqb s t
eq_topic (word o s) (vote n) = false
eq_topic (word o s) (commit n) = false
eq_topic (vote n) (word p t) = false
eq_topic (vote n) (vote m) = eqb n m
eq_topic (vote n) (commit m) = false
eq_topic (commit n) (word p t) = false
eq_topic (commit n) (vote m) = false
eq_topic (commit n) (commit m) = eqb n m

pub off : {A : Type 0} → false ≡ true → A
off e = let z : ◌≡◌ {A = ℕ} 0 1 = cc in absurd (omega arith)

topics : (a b : Topic) → eq_topic a b ≡ true → a ≡ b
topics (word o s) (word p t) e = let h = and_parts (eqb o p) (eqb s t) e in let x = eqb-true o p h.0 in let y = eqb-true s t h.1 in cc
topics (word o s) (vote n) e = off e
topics (word o s) (commit n) e = off e
topics (vote n) (word p t) e = off e
topics (vote n) (vote m) e = ap vote (eqb-true n m e)
topics (vote n) (commit m) e = off e
topics (commit n) (word p t) e = off e
topics (commit n) (vote m) e = off e
topics (commit n) (commit m) e = ap commit (eqb-true n m e)

topic_self : (a : Topic) → eq_topic a a ≡ true
topic_self (word o s) = and_from (eqb o o) (eqb s s) (eq-eqb o o refl) (eq-eqb s s refl)
topic_self (vote n) = eq-eqb n n refl
topic_self (commit n) = eq-eqb n n refl

abbrev pub eq_spot : Spot → Spot → Bool
eq_spot (spot i t j) (spot a s b) = eqb j b && (eqb i a && eq_topic t s)

pub spots : (x y : Spot) → eq_spot x y ≡ true → x ≡ y
spots (spot i t j) (spot a s b) e =
    let h = and_parts (eqb j b) (eqb i a && eq_topic t s) e in
    let k = and_parts (eqb i a) (eq_topic t s) h.1 in
    let x = eqb-true i a k.0 in let y = topics t s k.1 in let z = eqb-true j b h.0 in cc

pub spot_self : (x : Spot) → eq_spot x x ≡ true
spot_self (spot i t j) = and_from (eqb j j) (eqb i i && eq_topic t t) (eq-eqb j j refl) (and_from (eqb i i) (eq_topic t t) (eq-eqb i i refl) (topic_self t))

abbrev pub upd : {A B : Type 0} → (A → A → Bool) → (A → B) → A → B → A → B
upd eq g a b x = cond (eq x a) b (g x)

pub changed : {A B : Type 0} (eq : A → A → Bool) (g : A → B) (a : A) (b : B) → ((x y : A) → eq x y ≡ true → x ≡ y) → eq a a ≡ true → Changed g (upd eq g a b) a b
changed {A} {B} eq g a b sound e = (ap (λ c. cond c b (g a)) e, λ x. go x (eq x a) refl)
  where
    go : (x : A) (c : Bool) → eq x a ≡ c → (x ≡ a) ⊎ (cond (eq x a) b (g x) ≡ g x)
    go x true d = inl (sound x a d)
    go x false d = inr (ap (λ c. cond c b (g x)) d)

abbrev pub upd₂ : (ℕ → ℕ → Row) → ℕ → ℕ → Row → ℕ → ℕ → Row
upd₂ g i j b x y = cond (eqb x i && eqb y j) b (g x y)

pub changed₂ : (g : ℕ → ℕ → Row) (i j : ℕ) (b : Row) → Changed₂ g (upd₂ g i j b) i j b
changed₂ g i j b = (ap (λ c. cond c b (g i j)) (and_from (eqb i i) (eqb j j) (eq-eqb i i refl) (eq-eqb j j refl)), λ x y. go x y (eqb x i && eqb y j) refl)
  where
    go : (x y : ℕ) (c : Bool) → (eqb x i && eqb y j) ≡ c → ((x ≡ i) × (y ≡ j)) ⊎ (cond (eqb x i && eqb y j) b (g x y) ≡ g x y)
    go x y true d = let h = and_parts (eqb x i) (eqb y j) d in inl (eqb-true x i h.0, eqb-true y j h.1)
    go x y false d = inr (ap (λ c. cond c b (g x y)) d)

-- ---- two and three of four stations

among : (m set : ℕ) (A : ℕ → Type 0) → set < 16 → m ≤ ones set → (Names set 0 → A 0) → (Names set 1 → A 1) → (Names set 2 → A 2) → (Names set 3 → A 3) → AtLeast m A
among m set A l c a0 a1 a2 a3 = (set, λ j n. omega (arith, within_from_below 4 set l j n), c, λ j n. go j n (within_from_below 4 set l j n))
  where
    go : (j : ℕ) → Names set j → j < 4 → A j
    go zero n l = a0 n
    go (suc zero) n l = a1 n
    go (suc (suc zero)) n l = a2 n
    go (suc (suc (suc zero))) n l = a3 n
    go (suc (suc (suc (suc j)))) n l = absurd (omega arith)

ones_5 : 2 ≤ ones 5
unfolding ones
ones_5 = lit≤ tt

ones_6 : 2 ≤ ones 6
unfolding ones
ones_6 = lit≤ tt

ones_7 : 3 ≤ ones 7
unfolding ones
ones_7 = lit≤ tt

ones_2 : ones 2 ≤ 1
unfolding ones
ones_2 = lit≤ tt

pub zero_and_two : (A : ℕ → Type 0) → A 0 → A 2 → AtLeast 2 A
zero_and_two A a b = among 2 5 A (lit< tt) ones_5 (λ _. a) off (λ _. b) off

pub one_and_two : (A : ℕ → Type 0) → A 1 → A 2 → AtLeast 2 A
one_and_two A a b = among 2 6 A (lit< tt) ones_6 off (λ _. a) (λ _. b) off

pub first_three : (A : ℕ → Type 0) → A 0 → A 1 → A 2 → AtLeast 3 A
first_three A a b c = among 3 7 A (lit< tt) ones_7 (λ _. a) (λ _. b) (λ _. c) off

-- one station is not two
only_one : (A : ℕ → Type 0) → ((j : ℕ) → A j → j ≡ 1) → AtLeast 2 A → ⊥
only_one A one (s, w, c, h) =
    let r = ones-outside 16 s 2 (below_from_within 16 s w) (omega (arith, ones_2)) in
    both_ways (named 2 1) (subst (λ j. named 2 j ≡ false) (one r.0 (h r.0 r.2)) r.3) refl

pub not_same : {A : Type 0} (j k : ℕ) → eqb j k ≡ false → j ≡ k → A
not_same j k e h = off (sym e ∙ eq-eqb j k h)

-- ---- runs of four stations

-- f = 1, one number, leader 0, and F faulty
abbrev pub four : ℕ → Run
four F = record { f = 1; limit = 1; leader = 0; faulty = F }

-- a run that has just been opened
abbrev pub fresh : {M : Mach} → Run → M.Q → State M
fresh r start = record { run = r; wire = []; place = λ x. None; submitted = λ o. []; proposed = []; kept = λ i j. replicate (N r) 0; executed = λ i. []; machine = λ i. start; accused = λ i. 0 }

pub fresh_opened : {M : Mach} (r : Run) (start : M.Q) → Fit r → Opened {M = M} start (fresh r start)
fresh_opened r start ok = record { fit = ok; wire = refl; place = λ x. refl; submitted = λ o. refl; proposed = refl; kept = λ i j. refl; executed = λ i. refl; machine = λ i. refl; accused = λ i. refl }

module _ {M : Mach} where
  abbrev pub put : ℕ → Topic → ℕ → Value → State M → State M
  put i t j v σ = places (upd eq_spot σ.place (spot i t j) (Some v)) σ

  pub taken : (σ : State M) (i : ℕ) (t : Topic) (j : ℕ) (v : Value) → Correct σ.run i → In (say j t v) σ.wire
      → σ.place (spot i t j) ≡ None → Taken σ i t j v (upd eq_spot σ.place (spot i t j) (Some v))
  taken σ i t j v c h e = record { at = c; heard = h; empty = e; filled = changed eq_spot σ.place (spot i t j) (Some v) spots (spot_self (spot i t j)) }

-- with first votes of 0 and 1 alone a station is not prepared
pub unprepared : (F : ℕ) (P : Places) (i : ℕ) → P (spot i (vote 1) 2) ≡ None → P (spot i (vote 1) 3) ≡ None → (Y : Matrix) → Prepared (four F) P i 1 Y → ⊥
unprepared F P i e2 e3 Y h = only_one (λ j. (j ≢ 0) × Holds (seen (four F) P i (vote 1)) (mat Y) j) (λ j x. go j x.0 (holds_spot (four F) P i (vote 1) (mat Y) j x.1) (holds_below_n (four F) P i (vote 1) (mat Y) j x.1)) h.1
  where
    go : (j : ℕ) → j ≢ 0 → P (spot i (vote 1) j) ≡ Some (mat Y) → j < 4 → j ≡ 1
    go zero ne e l = absurd (ne refl)
    go (suc zero) ne e l = refl
    go (suc (suc zero)) ne e l = absurd (never (sym e2 ∙ e))
    go (suc (suc (suc zero))) ne e l = absurd (never (sym e3 ∙ e))
    go (suc (suc (suc (suc j)))) ne e l = absurd (omega arith)
