use Rattle.std.proofs.Common.{arith, ap, refl, subst, sym, ◌∙◌, ◌≡◌, ◌+◌, ◌-◌, ◌*◌, ◌++◌, [], length}
use Rattle.lr_trellis.specs.Words.{decisions, state_back}
use Rattle.lr_trellis.proofs.EightSteps.{eight_read}
use Rattle.lr_trellis.proofs.ReadBack.{BytesRead, all_bytes, no_bytes, one_byte_more}
use Rattle.lr_trellis.proofs.way_back.halves_back.Goals as goal

pub loop-k-init : goal.loop-k-init
loop-k-init c =
    let older = decisions c.args.words.now in
    let half = length c.args.low.now in
    record {
      in_low = record {
        low = c.requires.low;
        read =
            ([], no_bytes c.args.line older 0 c.args.states.0 c.args.low.now);
      };
      in_high = record {
        low = c.requires.high;
        read = (
          [],
          subst (λ k. BytesRead c.args.line older (8 * half) c.args.states.1 k c.args.states.1 c.args.high.now [])
              (sym c.requires.halves) (no_bytes c.args.line older (8 * half) c.args.states.1 c.args.high.now),
        );
      };
    }

pub loop-k-preserved : goal.loop-k-preserved
loop-k-preserved c =
    let older = decisions c.args.words.now in
    let line = c.args.line in
    let half = length c.args.low.now in
    let k = c.loop-k.k in
    let low = c.loop-k.invariant.in_low.read in
    let high = c.loop-k.invariant.in_high.read in
    let two = c.states_back-two_before in
    let eight = c.states_back-eight_before in
    let low_end : 8 * (k - 1) ≡ 0 + 8 * (k - 1) = omega arith in
    let high_end : 8 * (k - 1) + 8 * half ≡ 8 * half + 8 * (k - 1) = omega arith in
    let low_bits = eight_read older line (0 + 8 * (k - 1)) (8 * (k - 1) + 6) (0 + 8 * (k - 1) + 8) c.loop-k.states.0
    two.result.0 eight.result.0 (omega arith) refl two.ensures.low_below two.ensures.low
    (eight.ensures.low ∙ ap (λ n. state_back older n 6 two.result.0) low_end) in
    let high_bits = eight_read older line (8 * half + 8 * (k - 1)) (8 * (k - 1) + 6 + 8 * half)
    (8 * half + 8 * (k - 1) + 8) c.loop-k.states.1 two.result.1 eight.result.1 (omega arith) refl
    two.ensures.high_below two.ensures.high
    (eight.ensures.high ∙ ap (λ n. state_back older n 6 two.result.1) high_end) in
    record {
      in_low = record {
        low = eight.ensures.low_below;
        read = (
          low_bits.0 ++ low.0,
          one_byte_more line older 0 c.args.states.0 (k - 1) k c.loop-k.states.0 eight.result.0 c.byte_before.result
              c.loop-k.low low.0 low_bits.0 (omega arith) (omega arith) low_bits.1
              (c.byte_before.ensures ∙ low_bits.2) low_bits.3 low.1,
        );
      };
      in_high = record {
        low = eight.ensures.high_below;
        read = (
          high_bits.0 ++ high.0,
          one_byte_more line older (8 * half) c.args.states.1 (k - 1) k c.loop-k.states.1 eight.result.1
              c.byte_before-in-loop-k.result c.loop-k.high high.0 high_bits.0 (omega arith) (omega arith) high_bits.1
              (c.byte_before-in-loop-k.ensures ∙ high_bits.2) high_bits.3 high.1,
        );
      };
    }

pub returns-clause-low : goal.returns-clause-low
returns-clause-low c =
    all_bytes c.args.line c.args.words.now 0 c.args.states.0 c.loop-k.k c.loop-k.states.0 c.loop-k.low (omega arith)
    c.loop-k.invariant.in_low

pub returns-clause-high : goal.returns-clause-high
returns-clause-high c =
    all_bytes c.args.line c.args.words.now (8 * length c.args.low.now) c.args.states.1 c.loop-k.k c.loop-k.states.1
    c.loop-k.high (omega arith) c.loop-k.invariant.in_high
