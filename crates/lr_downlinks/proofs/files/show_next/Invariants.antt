use Rattle.std.proofs.Common.{◌≡◌, ◌≤◌, List}
use Rattle.lr_conv.specs.declared.line.LineCode.{LineCode}
use Rattle.lr_conv.specs.declared.passes.Passes.TheVariants.{One}
use Rattle.lr_lock.specs.declared.frame.Frame.{Frame}
use Rattle.lr_downlinks.specs.Decoding.{DecodesOn, IsFed, decode_steps_left, coded_stream, given_frames}
use Rattle.lr_downlinks.proofs.files.show_next.Given as goal

abbrev pub invariant-steps : goal.invariant-steps
invariant-steps l = record {
  feeds : (line : LineCode) (given : List Frame) → IsFed (coded_stream line l.stream)
      (given_frames l.fn.fed given) l.fn.lock
      → DecodesOn (coded_stream line l.stream) (given_frames l.fn.fed given) l.taken l.lock;
  standing : (line : LineCode) × (given : List Frame) × IsFed (coded_stream line l.stream)
      (given_frames l.taken given) l.lock;
  window_line : l.window.line ≡ l.lock.line;
  one_pass : l.window.passes ≡ One;
  fewer : decode_steps_left l.stream l.taken l.lock ≤ decode_steps_left l.stream l.fn.fed l.fn.lock;
}

abbrev pub decreases-steps : goal.decreases-steps
decreases-steps l = decode_steps_left l.stream l.taken l.lock
