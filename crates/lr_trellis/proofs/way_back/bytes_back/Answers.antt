use Rattle.std.proofs.Common.{arith, refl, length}
use Rattle.lr_trellis.proofs.ReadBack.{halves_joined}
use Rattle.lr_trellis.proofs.way_back.bytes_back.Goals as goal

pub returns-then-joint-guess-clause-read : goal.returns-then-joint-guess-clause-read
returns-then-joint-guess-clause-read c =
    halves_joined c.args.line c.args.words.now c.args.state c.halves_back-before.result.1 c.bits_back-guess.result
    c.halves_back-before.result.0 (length c.split_at_mut-low.result.0.now)
    c.halves_back-before.new.low c.halves_back-before.new.high
    (omega (arith, c.split_at_mut-low.ensures.front_len, c.if-half-lt-MEETING_STEPS.false))
    c.halves_back-before.auto.low c.if-joint-guess.true c.halves_back-before.ensures.low
    c.halves_back-before.ensures.high

pub returns-clause-read : goal.returns-clause-read
returns-clause-read c =
    halves_joined c.args.line c.args.words.now c.args.state c.halves_back-before.result.1 c.halves_back-before.result.1
    c.bytes_in_order-2.result (length c.split_at_mut-low.result.0.now)
    c.bytes_in_order-2.new.out c.halves_back-before.new.high
    (omega (arith, c.split_at_mut-low.ensures.front_len, c.if-half-lt-MEETING_STEPS.false))
    (omega (arith, c.bytes_in_order-2.auto.out, c.halves_back-before.auto.low)) refl c.bytes_in_order-2.ensures.read
    c.halves_back-before.ensures.high
