use Rattle.lr_file.proofs.FileLaws.{length-files-le-one}
use Rattle.lr_file.proofs.laws.one_file_ends_with_a_packet.Goals as goal

pub returns : goal.returns
returns c = length-files-le-one
