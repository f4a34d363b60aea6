use Rattle.std.proofs.Common.{◌≤◌, ◌++◌, length, drop, vec_items, sym, ap, ◌∙◌, arith, ltb-false}
use Rattle.frames_tool.proofs.Pairs.{pair}
use Rattle.frames_tool.proofs.hex.unhex.Goals as goal
use Rattle.frames_tool.specs.Hex.{bytes_of}
use Rattle.std.proofs.lemmas.List.{take_rest}
use Rattle.std.specs.Option.{option_map}

pub loop-rest-preserved : goal.loop-rest-preserved
loop-rest-preserved c =
    let rest = c.loop-rest.rest.now in
    let front = vec_items c.loop-rest.bytes in
    let two : 2 ≤ length rest = omega (arith, ltb-false) in
    c.loop-rest.invariant
    ∙ pair front rest c.in-Some.high c.in-Some-nibble.low two c.in-Some.ensures.is c.in-Some-nibble.ensures.is
    ∙ ap (λ items. option_map (λ others. items ++ others) (bytes_of (drop 2 rest))) (sym c.in_ok-push.ensures.items)
    ∙ ap (λ l. option_map (λ others. vec_items c.push.new.self ++ others) (bytes_of l)) (sym (take_rest rest 2))
