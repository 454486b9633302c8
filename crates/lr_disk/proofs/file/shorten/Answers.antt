use Rattle.lr_disk.proofs.Pieces.{uncut}
use Rattle.lr_disk.proofs.file.shorten.Goals as goal

pub returns-in_err-length-clause-crash : goal.returns-in_err-length-clause-crash
returns-in_err-length-clause-crash g c tells =
    uncut c.args.size (g.F.RandomAccessFile.may_leave c.args.file.now)
    (g.F.RandomAccessFile.may_leave c.length.new.self)
    (c.length.ensures.crash tells)

pub returns-else-branch-size-clause-crash : goal.returns-else-branch-size-clause-crash
returns-else-branch-size-clause-crash g c tells =
    uncut c.args.size (g.F.RandomAccessFile.may_leave c.args.file.now)
    (g.F.RandomAccessFile.may_leave c.length.new.self)
    (c.length.ensures.crash tells)
