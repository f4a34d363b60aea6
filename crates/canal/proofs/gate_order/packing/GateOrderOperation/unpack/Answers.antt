use Rattle.std.proofs.Common.{◌≡◌, ◌^◌, ◌<◌, map, sym, ◌∙◌, arith}
use Rattle.canal.proofs.Packing.{only, order_back, unpacks}
use Rattle.canal.proofs.gate_order.packing.GateOrderOperation.unpack.Goals as goal
use Rattle.canal.specs.GateOrders.{fields, packed, read, said}
use Rattle.canal.specs.Layout.{Made, bad, content, head}
use Rattle.canal.specs.Transfers.{refusal as others}
use Rattle.std.proofs.lemmas.Bool.Decides.{nat_tests}

pub returns : goal.returns
returns c =
    let n = c.args.bits in
    let tagged : content head n ≡ 1 = sym c.of.ensures ∙ c.if-of-ne1.false in
    let whole : n < 2 ^ 64 = omega arith in
    let built : Made said (bad fields (map (λ f. content f n) fields)) (read n) c.new-2.result =
    simp (sym c.of-2.ensures, sym c.of-3.ensures, sym c.of-4.ensures, sym c.of-5.ensures, sym c.of-6.ensures) c.new-2.ensures in
    record {
      is = unpacks said packed read 1 fields order_back n whole tagged c.new-2.result built;
      unique = only said packed read 1 fields order_back n whole tagged others (grind (arith, nat_tests)) c.new-2.result built;
    }
