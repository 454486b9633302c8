use Rattle.std.proofs.Common.{refl, arith}
use Rattle.lr_make.specs.Frames.{frame_at}
use Rattle.std.proofs.lemmas.Result.{err_from_is_err_and}
use Rattle.lr_make.specs.Stream.{frame_stream}
use Rattle.lr_make.proofs.Sending.{frame_stream-more}
use Rattle.lr_cmd_receive.proofs.Making.{put_none, put_next, put_cut}
use Rattle.lr_cmd_receive.proofs.test_stream.make_frames.Goals as goal

pub frames-init : goal.frames-init
unfolding frame_stream
frames-init g c = record {
  stands = c.in-Ok.ensures;
  put = put_none (λ n. frame_stream c.args.start n) (frame_at c.args.start)
      (λ n. frame_stream-more c.args.start n) g.O.Sink refl c.args.out.now;
  few = omega arith;
}

pub returns-in_err-put_text-clause-failed : goal.returns-in_err-put_text-clause-failed
returns-in_err-put_text-clause-failed g c =
    let so = c.frames.invariant in
    let p = err_from_is_err_and c.from_residual.result c.from_residual.ensures.1 in
    rw p.1
    (put_cut (λ n. frame_stream c.args.start n) (frame_at c.args.start) (λ n. frame_stream-more c.args.start n)
    g.O.Sink c.frames.made c.args.frames (omega (arith, c.frames-test.true)) c.next_frame.new.frame
    (c.next_frame.ensures.frame c.args.start 0 c.frames.made so.stands) c.args.out.now c.frames.out
    c.put_text.new.out so.put c.in_err-put_text.ensures.failed)

pub frames-preserved : goal.frames-preserved
frames-preserved g c =
    let so = c.frames.invariant in record {
      stands = c.next_frame.ensures.moves c.args.start 0 c.frames.made so.stands;
      put = put_next (λ n. frame_stream c.args.start n) (frame_at c.args.start)
          (λ n. frame_stream-more c.args.start n) g.O.Sink c.frames.made c.next_frame.new.frame
          (c.next_frame.ensures.frame c.args.start 0 c.frames.made so.stands) c.args.out.now c.frames.out
          c.put_text.new.out so.put c.in_ok-put_text.ensures.put;
      few = omega (arith, c.frames-test.true);
    }
