use Rattle.std.proofs.Common.{◌≡◌, ℕ, ◌+◌, ◌*◌, ◌/◌, ◌%◌, ◌<◌, ◌≤◌, Bool, true, false, cond, eqb, ltb, leb, ◌⊎◌, List, [], ◌∷◌, Some, None, Option, refl, ◌∙◌, inl, inr, ⊎_elim, arith}
use Rattle.frames.specs.Kinds.{bad_sequence, head_fault, kind_in, kind_number, outside, stations, unless}
use Rattle.frames.specs.Writing.{head_bytes, head_number}
use Rattle.frames.specs.declared.kind.Kind.{Kind}
use Rattle.frames.specs.declared.kind.Kind.TheVariants.{Request, Ack, Summary, Proposal, Prepare, Commit}
use Rattle.model.specs.declared.fault.Fault.{Fault}
use Rattle.model.specs.declared.fault.Reason.{Reason}
use Rattle.model.specs.declared.fault.Reason.TheVariants.{FrameFaultBound, FrameSender, FrameSequence}
use Rattle.rows.proofs.Repack.{field_in_two}
use Rattle.rows.specs.Bits.{field}
use Rattle.std.proofs.lemmas.Nat.{mod_below}
use Rattle.std.proofs.lemmas.Bool.{cases_Bool, eqb-true, leb-false, ltb-false, or_parts}

-- Nothing refused, no test holds.
pub unless-none : (t : Bool) (reason : Reason) (place : ℕ) (next : Option Fault) → unless t reason place next ≡ None → (t ≡ false) × (next ≡ None)
unless-none true reason place next e = let z : ◌≡◌ {A = ℕ} 0 1 = cc in absurd (omega arith)
unless-none false reason place next e = (refl, e)

-- The header's fields, out of the two bytes that its number writes.
pub record Fields (head : List ℕ) (k s f q : ℕ) : Type 0 where
  pub kind : field head 0 3 ≡ k
  pub sender : field head 3 4 ≡ s
  pub faults : field head 7 3 ≡ f
  pub sequence : field head 10 6 ≡ q

pub head_there : (k s f q : ℕ) → k < 8 → s < 16 → f < 8 → q < 64 → Fields (head_bytes (head_number k s f q)) k s f q
head_there k s f q a b c d =
    let n = head_number k s f q in
    let bs : List ℕ = n / 256 ∷ n % 256 ∷ [] in
    let m : n % 256 < 256 = mod_below n 256 (omega arith) in
    record {
      kind = field_in_two 8 bs 0 0 3 0 (omega arith) m (omega arith) ∙ omega arith;
      sender = field_in_two 8 bs 0 3 4 3 (omega arith) m (omega arith) ∙ omega arith;
      faults = field_in_two 8 bs 0 7 3 7 (omega arith) m (omega arith) ∙ omega arith;
      sequence = field_in_two 8 bs 0 10 6 10 (omega arith) m (omega arith) ∙ omega arith;
    }

-- The number that two bytes write, out of their fields.
pub head_back : (x y k s f q : ℕ) → x < 256 → y < 256 → Fields (x ∷ y ∷ []) k s f q → head_bytes (head_number k s f q) ≡ x ∷ y ∷ []
head_back x y k s f q a b p =
    let bs : List ℕ = x ∷ y ∷ [] in
    let e = field_in_two 8 bs 0 0 3 0 (omega arith) b (omega arith) in
    let g = field_in_two 8 bs 0 3 4 3 (omega arith) b (omega arith) in
    let h = field_in_two 8 bs 0 7 3 7 (omega arith) b (omega arith) in
    let j = field_in_two 8 bs 0 10 6 10 (omega arith) b (omega arith) in
    let n : head_number k s f q ≡ x * 256 + y = omega arith in
    let high : head_number k s f q / 256 ≡ x = omega arith in
    let low : head_number k s f q % 256 ≡ y = omega arith in
    rw (high, low)

pub kind_there : (kind : Kind) → kind_in (kind_number kind) ≡ Some kind
kind_there Request = refl
kind_there Ack = refl
kind_there Summary = refl
kind_there Proposal = refl
kind_there Prepare = refl
kind_there Commit = refl

pub kind_small : (kind : Kind) → kind_number kind < 8
kind_small Request = omega arith
kind_small Ack = omega arith
kind_small Summary = omega arith
kind_small Proposal = omega arith
kind_small Prepare = omega arith
kind_small Commit = omega arith

either : (n j : ℕ) (x k : Kind) (rest : Option Kind) → cond (eqb n j) (Some x) rest ≡ Some k → ((n ≡ j) × (x ≡ k)) ⊎ (rest ≡ Some k)
either n j x k rest e =
    ⊎_elim
    (λ (t : eqb n j ≡ true). let same : ◌≡◌ {A = Option Kind} (Some x) (Some k) = rw t at e in let xk : x ≡ k = cc in inl (eqb-true n j t, xk))
    (λ (t : eqb n j ≡ false). inr (rw t at e))
    (cases_Bool (eqb n j))

is_number : (n j : ℕ) (x k : Kind) → kind_number x ≡ j → (n ≡ j) × (x ≡ k) → kind_number k ≡ n
is_number n j x k e p = let a = p.0 in let b = p.1 in cc

pub kind_back : (n : ℕ) (kind : Kind) → kind_in n ≡ Some kind → kind_number kind ≡ n
kind_back n kind e =
    ⊎_elim (is_number n 1 Request kind refl) (λ a.
    ⊎_elim (is_number n 2 Ack kind refl) (λ b.
    ⊎_elim (is_number n 3 Summary kind refl) (λ c.
    ⊎_elim (is_number n 4 Proposal kind refl) (λ d.
    ⊎_elim (is_number n 5 Prepare kind refl) (λ f.
    ⊎_elim (is_number n 6 Commit kind refl) (λ (g : ◌≡◌ {A = Option Kind} None (Some kind)). let z : ◌≡◌ {A = ℕ} 0 1 = cc in absurd (omega arith))
    (either n 6 Commit kind _ f)) (either n 5 Prepare kind _ d)) (either n 4 Proposal kind _ c)) (either n 3 Summary kind _ b)) (either n 2 Ack kind _ a)) (either n 1 Request kind _ e)

-- What a header that is not refused says of its numbers.
pub record Heads (kind : Kind) (s f q : ℕ) : Type 0 where
  pub some : 1 ≤ f
  pub few : f ≤ 5
  pub station : s < stations f
  pub sequence : bad_sequence kind q ≡ false

pub heads : (kind : Kind) (s f q : ℕ) → head_fault kind s f q ≡ None → Heads kind s f q
heads kind s f q e =
    let a = unless-none (outside 1 5 f) FrameFaultBound 7 _ e in
    let o = or_parts (ltb f 1) (ltb 5 f) a.0 in
    let b = unless-none (leb (stations f) s) FrameSender 3 _ a.1 in
    let c = unless-none (bad_sequence kind q) FrameSequence 10 None b.1 in
    record { some = ltb-false f 1 o.0; few = ltb-false 5 f o.1; station = leb-false (stations f) s b.0; sequence = c.0 }

inside : (q : ℕ) → outside 1 63 q ≡ false → (0 < q) × (q < 64)
inside q e =
    let o = or_parts (ltb q 1) (ltb 63 q) e in
    let a = ltb-false q 1 o.0 in
    let b = ltb-false 63 q o.1 in
    (omega arith, omega arith)

pub sequence_small : (kind : Kind) (q : ℕ) → bad_sequence kind q ≡ false → q < 64
sequence_small Request q e = (inside q e).1
sequence_small Ack q e = (inside q e).1
sequence_small Summary q e = let a = ltb-false 0 q e in omega arith
sequence_small Proposal q e = (inside q e).1
sequence_small Prepare q e = (inside q e).1
sequence_small Commit q e = (inside q e).1

pub sequence_some : (q : ℕ) → outside 1 63 q ≡ false → 0 < q
sequence_some q e = (inside q e).0

pub sequence_none : (q : ℕ) → ltb 0 q ≡ false → q ≡ 0
sequence_none q e = let a = ltb-false 0 q e in omega arith
