use Rattle.std.proofs.Common.{arith, ◌+◌, length, length-take, min}
use Rattle.lr_disk.proofs.Pieces.{follows_wider, torn_wider}
use Rattle.lr_disk.specs.MemDisk.{held_by, images_by}
use Rattle.lr_disk.proofs.mem_file.MemFileRandomAccessFile.write_at.Goals as goal

pub returns-in-Ok-clause-torn : goal.returns-in-Ok-clause-torn
returns-in-Ok-clause-torn c _ =
    torn_wider (min c.args.at (length (held_by c.args.self.now.disk))) _ (c.args.at + length c.args.bytes.now)
    (held_by c.args.self.now.disk) (held_by c.write_at.new.self)
    (omega (arith, length-take c.min-most.result c.args.bytes.now)) c.write_at.ensures.torn

pub returns-in-Ok-clause-crash : goal.returns-in-Ok-clause-crash
returns-in-Ok-clause-crash c _ =
    follows_wider (min c.args.at (length (held_by c.args.self.now.disk))) _ (c.args.at + length c.args.bytes.now)
    (images_by c.args.self.now.disk) (images_by c.write_at.new.self)
    (omega (arith, length-take c.min-most.result c.args.bytes.now)) c.write_at.ensures.crash

pub returns-in-Err-clause-crash : goal.returns-in-Err-clause-crash
returns-in-Err-clause-crash c _ =
    follows_wider (min c.args.at (length (held_by c.args.self.now.disk))) _ (c.args.at + length c.args.bytes.now)
    (images_by c.args.self.now.disk) (images_by c.write_at.new.self)
    (omega (arith, length-take c.min-most.result c.args.bytes.now)) c.write_at.ensures.crash
