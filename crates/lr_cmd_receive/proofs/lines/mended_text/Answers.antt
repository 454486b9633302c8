use Rattle.std.proofs.Common.{append_assoc}
use Rattle.lr_cmd_receive.specs.Shelving.{mended_line}
use Rattle.lr_cmd_receive.proofs.lines.mended_text.Goals as goal

pub returns : goal.returns
unfolding mended_line
returns c = rw (
  ← c.vc-vc.ensures.value,
  ← c.apid-apid.ensures.value,
  ← c.counter-counter.ensures,
  ← c.bytes.ensures.value,
  ← c.packets-packets.ensures,
) (simp append_assoc at c.format.ensures.ok)
