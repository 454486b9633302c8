use Rattle.std.proofs.Common.{◌+◌, length, min, subst}
use Rattle.lr_disk.specs.Disk.{FollowsWrite, Torn}
use Rattle.lr_disk.specs.MemDisk.{held_by, images_by}
use Rattle.lr_disk.specs.Past.{images_of}
use Rattle.lr_disk.specs.declared.mem.MemDisk.{MemDisk}
use Rattle.lr_disk.proofs.mem.MemDiskDisk.write_at.Goals as goal

pub returns-clause-crash : goal.returns-clause-crash
returns-clause-crash c =
    subst
    (
    λ (d : MemDisk). FollowsWrite (Torn (min c.args.at (length (held_by d))) (c.args.at + length c.args.bytes.now))
    (images_by d) (images_of c.write.new.self)
    )
    c.if-is_refused.ensures.0 c.write.ensures.crash
