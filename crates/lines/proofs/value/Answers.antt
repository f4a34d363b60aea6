use Rattle.std.proofs.Common.{◌≡◌, ℕ, ◌+◌, ◌*◌, ◌^◌, ◌<◌, ◌≤◌, leb, get_or, sym, ap, ◌∙◌, pow-suc, add-one, arith}
use Rattle.lines.proofs.value.Goals as goal
use Rattle.lines.specs.Numbers.{decimal}
use Rattle.std.proofs.lemmas.List.{take_all}
use Rattle.std.proofs.lemmas.List.Sums.{fold_more}
use Rattle.std.proofs.lemmas.Bool.{and_parts, leb-true}
use native.Mathlib.Nat.{pow-le-pow_right}

-- Fewer than nine digits write a number below a hundred million.
small : (n i : ℕ) → n < 10 ^ i → i ≤ 8 → n < 100000000
small n i h l = let p : 10 ^ i ≤ 10 ^ 8 = pow-le-pow_right (omega arith) l in omega arith

at-most-nine : (c : goal.After-row_known-1) → get_or c.args.digits.now c.loop-b.b-index 0 ≤ 57
at-most-nine c =
    let b = get_or c.args.digits.now c.loop-b.b-index 0 in
    leb-true b 57 (and_parts (leb 48 b) (leb b 57) (c.requires.all c.loop-b.b-index c.loop-b-test.true)).1

pub overflow_mul-n : goal.overflow_mul-n
overflow_mul-n c = let s = small c.loop-b.n c.loop-b.b-index c.loop-b.invariant.1 (omega (arith, c.requires.few)) in omega arith

pub overflow_add-n : goal.overflow_add-n
overflow_add-n c =
    let s = small c.loop-b.n c.loop-b.b-index c.loop-b.invariant.1 (omega (arith, c.requires.few)) in
    let most = at-most-nine c in
    omega arith

pub loop-b-preserved : goal.loop-b-preserved
loop-b-preserved c =
    let most = at-most-nine c in
    let inv = c.loop-b.invariant.1 in
    let p : 10 ^ (c.loop-b.b-index + 1) ≡ 10 ^ c.loop-b.b-index * 10 = ap (λ k. 10 ^ k) (add-one c.loop-b.b-index) ∙ pow-suc 10 c.loop-b.b-index in (
      rw c.loop-b.invariant.0 (sym (fold_more _ 0 c.args.digits.now c.loop-b.b-index 0 c.loop-b-test.true)),
      omega arith,
    )

pub returns : goal.returns
returns c = c.loop-b.invariant.0 ∙ ap decimal (take_all c.loop-b.b-index c.args.digits.now c.loop-b-test.false)
