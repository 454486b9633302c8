use Rattle.std.proofs.Common.{◌≡◌, ◌+◌, ◌∷◌, ◌++◌, [], length, take, ap, ◌∙◌, sym, arith, length-append}
use Rattle.std.proofs.lemmas.List.{take_more}
use Rattle.lr_packet.specs.Verdict.{good_packets}
use Rattle.lr_packet.proofs.VerdictLemmas.{good_packets-append}
use Rattle.lr_cmd_print.proofs.packet_lines.count_good.Goals as goal
use Rattle.lr_cmd_print.proofs.packet_lines.count_good.Goals.{then-is_good, else-is_good}

pub loop-raw-preserved : goal.loop-raw-preserved
loop-raw-preserved c =
    let packets = c.args.packets.now in
    let packet = c.raw-item.result in
    let before = take c.loop-raw.raw-index packets in
    let more : take (c.loop-raw.raw-index + 1) packets ≡ before ++ packet ∷ [] =
    take_more packets c.loop-raw.raw-index packet c.loop-raw-test.true
    ∙ ap (λ p. before ++ p ∷ []) (sym c.raw-item.is) in
    let counted : length (good_packets (take (c.loop-raw.raw-index + 1) packets)) ≡ length (good_packets before)
    + length (good_packets (packet ∷ [])) =
    ap (λ l. length (good_packets l)) more ∙ ap length (good_packets-append before (packet ∷ []))
    ∙ length-append (good_packets before) (good_packets (packet ∷ [])) in
    elim c.if-is_good.branch [
      | then-is_good w ↦
          let one : length (good_packets (packet ∷ [])) ≡ 1 = ap length w.if-is_good.ensures
          in record {
            good = omega (arith, counted, one, w.good-is, c.loop-raw.invariant.good);
            few =
                omega (arith, w.good-is, c.loop-raw.invariant.few);
          }
      | else-is_good w ↦
          let none : length (good_packets (packet ∷ [])) ≡ 0 = ap length w.if-is_good.ensures
          in record {
            good = omega (arith, counted, none, w.good-is, c.loop-raw.invariant.good);
            few =
                omega (arith, w.good-is, c.loop-raw.invariant.few);
          }
    ]
