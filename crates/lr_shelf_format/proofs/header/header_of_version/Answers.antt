use Rattle.std.proofs.Common.{refl}
use Rattle.lr_shelf_format.specs.Header.{header_bytes}
use Rattle.lr_shelf_format.proofs.header.header_of_version.Goals as goal

pub returns : goal.returns
unfolding header_bytes
returns c = rw (
  c.write_u16.ensures,
  c.crc16-checksum.ensures,
  c.write_u64.ensures,
  c.copy_from_slice.ensures.after,
) refl
