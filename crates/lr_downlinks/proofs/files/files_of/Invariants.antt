use Rattle.std.proofs.Common.{◌≡◌}
use Rattle.lr_conv.specs.declared.passes.Passes.TheVariants.{One}
use Rattle.lr_downlinks.specs.Decoding.{IsDecodedSoFar, decode_steps_left, coded_stream}
use Rattle.lr_downlinks.proofs.files.files_of.Given as goal

abbrev pub invariant-windows : goal.invariant-windows
invariant-windows l = record {
  decoded : IsDecodedSoFar (coded_stream l.fn.line l.fn.stream) l.fed l.lock l.layers l.files.items;
  window_line : l.window.line ≡ l.lock.line;
  one_pass : l.window.passes ≡ One;
}

abbrev pub decreases-windows : goal.decreases-windows
decreases-windows l = decode_steps_left l.fn.stream l.fed l.lock
