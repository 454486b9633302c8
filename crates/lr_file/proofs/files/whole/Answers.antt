use Rattle.std.proofs.Common.{None}
use Rattle.lr_packet.specs.Reading.{good}
use Rattle.lr_file.proofs.KeyLemmas.{sets_key}
use Rattle.lr_file.proofs.files.whole.Goals as goal

pub returns-in_err-file-clause-files : goal.returns-in_err-file-clause-files
returns-in_err-file-clause-files c =
    sets_key c.args.files.now c.remove.new.self
    (good c.args.packet.now) None c.remove.ensures.updates.0 c.remove.ensures.ordered

pub returns-clause-files : goal.returns-clause-files
returns-clause-files c =
    sets_key c.args.files.now c.remove.new.self
    (good c.args.packet.now) None c.remove.ensures.updates.0 c.remove.ensures.ordered
