use Rattle.std.proofs.Common.{◌≡◌, ◌+◌, ◌-◌, length, refl, arith}
use Rattle.std.proofs.lemmas.Grind.{common_steps}
use Rattle.lr_packet.proofs.reading.head.Goals as goal

pub returns : goal.returns
returns c =
    let long : c.from.result + 1 ≡ length c.args.raw.now.bytes - 6 = grind (arith, common_steps) in
    rw (
      c.field.ensures.value,
      c.field-2.ensures.value,
      c.field-3.ensures.value,
      c.field-4.ensures.value,
      c.field-5.ensures.value,
      c.field-6.ensures.value,
      c.as_slice-bytes.ensures.value,
      long,
    ) refl
