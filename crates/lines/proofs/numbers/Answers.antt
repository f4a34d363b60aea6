use Rattle.std.proofs.Common.{◌≡◌, suc, ◌+◌, ◌-◌, false, eqb, ◌++◌, take, set, Some, sym, ap, ◌∙◌, append-nil, arith}
use Rattle.lines.proofs.Fields.{ends, mapped_same, stop, turn}
use Rattle.lines.proofs.numbers.Goals as goal
use Rattle.lines.specs.Numbers.{fields}
use Rattle.std.proofs.lemmas.List.{length-replicate, length-set, take_all, take_more_set}
use Rattle.std.proofs.lemmas.Bool.{ne_eqb}
use Rattle.std.specs.Option.{option_map}

pub loop-i-init : goal.loop-i-init
loop-i-init g c =
    let all : g.row.K - 0 ≡ g.row.K = omega arith in
    (length-replicate g.row.K 0, rw all (mapped_same (fields g.row.K _ c.args.text.now)))

pub returns-in_err-found : goal.returns-in_err-found
returns-in_err-found g c =
    let i = c.loop-i.i in
    let k : g.row.K - i ≡ suc (g.row.K - (i + 1)) = omega arith in
    c.from_residual.ensures
    ∙ stop (take i c.loop-i.value-items) (g.row.K - (i + 1)) (eqb i 0) c.loop-i.rest.now c.in_err-found.ensures
    ∙ sym (c.loop-i.invariant.1 ∙ ap (λ n. option_map (λ others. take i c.loop-i.value-items ++ others) (fields n (eqb i 0) c.loop-i.rest.now)) k)

pub loop-i-preserved : goal.loop-i-preserved
loop-i-preserved g c =
    let i = c.loop-i.i in
    let k : g.row.K - i ≡ suc (g.row.K - (i + 1)) = omega arith in
    let later : eqb (i + 1) 0 ≡ false = ne_eqb (i + 1) 0 (λ e. omega arith) in
    let v = c.in_ok-found.found in
    let rest = c.in_ok-found.more.now in
    let next = fields (g.row.K - (i + 1)) false rest in (
      length-set c.loop-i.value-items i v ∙ c.loop-i.invariant.0,
      c.loop-i.invariant.1
          ∙ ap (λ n. option_map (λ others. take i c.loop-i.value-items ++ others) (fields n (eqb i 0) c.loop-i.rest.now)) k
          ∙ turn (take i c.loop-i.value-items) (g.row.K - (i + 1)) (eqb i 0) c.loop-i.rest.now v rest c.in_ok-found.ensures
          ∙ ap (λ front. option_map (λ others. front ++ others) next) (sym (take_more_set c.loop-i.value-items i v (omega arith)))
          ∙ ap (λ first. option_map (λ others. take (i + 1) (set c.loop-i.value-items i v) ++ others) (fields (g.row.K - (i + 1)) first rest)) (sym later),
    )

pub returns-then-is_empty : goal.returns-then-is_empty
returns-then-is_empty g c =
    let i = c.loop-i.i in
    let values = c.loop-i.value-items in
    let none : g.row.K - i ≡ 0 = omega arith in
    sym (c.loop-i.invariant.1
    ∙ ap (λ n. option_map (λ others. take i values ++ others) (fields n (eqb i 0) c.loop-i.rest.now)) none
    ∙ ap (λ o. option_map (λ others. take i values ++ others) o) (ends c.loop-i.rest.now c.if-is_empty.ensures)
    ∙ ap Some (append-nil (take i values) ∙ take_all i values (omega (arith, c.loop-i.invariant.0))))
