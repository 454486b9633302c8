use Rattle.std.proofs.Common.{◌≡◌, ◌+◌, ℕ, Bool, true, false, arith, subst, sym}
use Rattle.lr_uplink.specs.Standing.{with_frame}
use Rattle.lr_cmd_transmit.specs.Standing.{HasSent, history_at}
use Rattle.lr_cmd_transmit.proofs.Sending.{all_put, all_sent, cut_here, next_stands}
use Rattle.lr_cmd_transmit.proofs.Sending.{one_more, so_none, some_here, too_many}
use Rattle.lr_cmd_transmit.proofs.transmit.put_frames.Goals as goal

not_both : (b : Bool) → b ≡ true → b ≡ false → ⊥
not_both b is is' = cc (is, is')

pub frames-init : goal.frames-init
frames-init g c = record {
  so = λ line files given at.
      so_none g.O.Sink line c.args.wrong files given c.args.uplink.now c.args.out.now at;
}

pub returns-then-not-next_frame-clause-put : goal.returns-then-not-next_frame-clause-put
returns-then-not-next_frame-clause-put g c = λ line files given at.
    let so = c.frames.invariant.so line files given at in
    let place : ℕ = given + c.frames._given in
    let left = c.next_frame.ensures.left line (history_at c.args.wrong files place) so.at in
    let over = c.if-not-next_frame.true in
    all_put g.O.Sink line c.args.wrong files given c.frames._given c.frames.uplink c.args.out.now c.frames.out so
    (λ more. not_both c.next_frame.result (left.1 more) over)

pub returns-then-not-next_frame-clause-sent : goal.returns-then-not-next_frame-clause-sent
returns-then-not-next_frame-clause-sent g c = λ line files given at.
    let so = c.frames.invariant.so line files given at in
    let place : ℕ = given + c.frames._given in
    let left = c.next_frame.ensures.left line (history_at c.args.wrong files place) so.at in
    let over = c.if-not-next_frame.true in
    subst (HasSent line c.args.wrong files) (sym (c.next_frame.ensures.none over).0)
    (all_sent g.O.Sink line c.args.wrong files given c.frames._given c.frames.uplink c.args.out.now c.frames.out so
    (λ more. not_both c.next_frame.result (left.1 more) over))

pub returns-in-Err-clause-failed : goal.returns-in-Err-clause-failed
returns-in-Err-clause-failed g c = λ line files given at.
    let so = c.frames.invariant.so line files given at in
    let history = history_at c.args.wrong files (given + c.frames._given) in
    let yes = c.if-not-next_frame.false in
    let more = (c.next_frame.ensures.left line history so.at).0 yes in
    let stands = c.next_frame.ensures.given line history so.at yes in
    cut_here g.O.Sink line c.args.wrong files given c.frames._given c.frames.uplink c.args.out.now c.frames.out so more
    c.next_frame.new.frame c.put_block.new.block c.symbols.new.out (c.next_frame.ensures.frame line history so.at yes)
    c.put_block.ensures.block (c.symbols.ensures.symbols line (with_frame history) stands) c.put_bytes.new.bytes
    c.put_bytes.ensures c.put_text.new.out c.in-Err.ensures.failed

pub returns-in-Err-clause-some : goal.returns-in-Err-clause-some
returns-in-Err-clause-some g c = λ line files given at.
    let so = c.frames.invariant.so line files given at in
    let history = history_at c.args.wrong files (given + c.frames._given) in
    let yes = c.if-not-next_frame.false in
    let more = (c.next_frame.ensures.left line history so.at).0 yes in
    let stands = c.next_frame.ensures.given line history so.at yes in
    some_here g.O.Sink line c.args.wrong files given c.frames._given c.frames.uplink c.args.out.now c.frames.out so more
    c.next_frame.new.frame c.put_block.new.block c.symbols.new.out (c.next_frame.ensures.frame line history so.at yes)
    c.put_block.ensures.block (c.symbols.ensures.symbols line (with_frame history) stands) c.put_bytes.new.bytes
    c.put_bytes.ensures (omega (arith, c.put_bytes.array_long, c.put_bytes.array_long2))

pub frames-preserved : goal.frames-preserved
frames-preserved g c = record {
  so = λ line files given at.
      let so = c.frames.invariant.so line files given at in
      let wrong = c.args.wrong in
      let history = history_at wrong files (given + c.frames._given) in
      let yes = c.if-not-next_frame.false in
      let more = (c.next_frame.ensures.left line history so.at).0 yes in
      let frame = c.next_frame.ensures.frame line history so.at yes in
      let stands = c.next_frame.ensures.given line history so.at yes in
      one_more g.O.Sink line wrong files given c.frames._given c.frames.uplink c.args.out.now c.frames.out so more
      c.next_frame.new.frame c.put_block.new.block c.symbols.new.out frame c.put_block.ensures.block
      (c.symbols.ensures.symbols line (with_frame history) stands) c.symbols.new.self
      (next_stands g.O.Sink line wrong files given c.frames._given c.frames.uplink c.args.out.now c.frames.out so more
      c.next_frame.new.frame c.put_block.new.block frame (c.put_block.ensures.sent c.requires) c.symbols.new.self
      (c.symbols.ensures.block line (with_frame history) stands))
      c.put_bytes.new.bytes c.put_bytes.ensures c.put_text.new.out c.in_default.ensures.put;
}

pub returns-clause-put : goal.returns-clause-put
returns-clause-put g c = λ line files given at.
    absurd (too_many g.O.Sink line c.args.wrong files given c.frames._given c.args.uplink.now c.frames.uplink
    c.args.out.now c.frames.out at (c.frames.invariant.so line files given at)
    (omega (arith, c.frames-test.false, c.frames.auto._given-end)))

pub returns-clause-sent : goal.returns-clause-sent
returns-clause-sent g c = λ line files given at.
    absurd (too_many g.O.Sink line c.args.wrong files given c.frames._given c.args.uplink.now c.frames.uplink
    c.args.out.now c.frames.out at (c.frames.invariant.so line files given at)
    (omega (arith, c.frames-test.false, c.frames.auto._given-end)))
