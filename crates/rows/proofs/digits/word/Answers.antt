use Rattle.std.proofs.Common.{◌≡◌, ℕ, ◌+◌, ◌*◌, ◌^◌, ◌<◌, ◌≤◌, List, refl, ap, ◌∙◌, arith, pow_mono}
use Rattle.rows.proofs.Repack.{field-append, field_below, field_of_digit}
use Rattle.rows.proofs.digits.word.Goals as goal
use Rattle.rows.specs.Bits.{field_of}

-- While a byte is still to come, at most 56 bits are read.
short : (bs : List ℕ) (at k : ℕ) → k < 8 → field_of 8 bs at (8 * k) < 2 ^ 56
short bs at k h =
    let b = field_below 8 bs at (8 * k) in
    let few : 8 * k ≤ 56 = omega arith in
    let p = pow_mono few in
    omega arith

pub loop-k-init : goal.loop-k-init
unfolding field_of
loop-k-init c = refl

pub overflow_mul-all : goal.overflow_mul-all
overflow_mul-all c = omega (arith, short c.args.bytes.now (8 * c.args.from) c.loop-k.k c.loop-k-test.true)

pub overflow_add-all : goal.overflow_add-all
overflow_add-all c = omega (arith, short c.args.bytes.now (8 * c.args.from) c.loop-k.k c.loop-k-test.true)

pub loop-k-preserved : goal.loop-k-preserved
loop-k-preserved c =
    let bs = c.args.bytes.now in
    let from = c.args.from in
    let k = c.loop-k.k in
    let more : 8 * (k + 1) ≡ 8 * k + 8 = omega arith in
    let place : 8 * from + 8 * k ≡ 8 * (from + k) = omega arith in
    let digit = field_of_digit 8 bs (from + k) (omega (arith, c.type_inv.bytes (from + k))) in
    let whole : field_of 8 bs (8 * from) (8 * (k + 1)) ≡ field_of 8 bs (8 * from) (8 * k) * 256 + field_of 8 bs (8 * (from + k)) 8 =
    ap (field_of 8 bs (8 * from)) more ∙ field-append 8 bs (8 * from) (8 * k) 8
    ∙ ap (λ p. field_of 8 bs (8 * from) (8 * k) * 256 + field_of 8 bs p 8) place in
    omega arith
