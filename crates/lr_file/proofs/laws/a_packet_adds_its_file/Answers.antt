use Rattle.lr_file.proofs.FileLaws.{files_of-more}
use Rattle.lr_file.proofs.laws.a_packet_adds_its_file.Goals as goal

pub returns : goal.returns
returns c = files_of-more
