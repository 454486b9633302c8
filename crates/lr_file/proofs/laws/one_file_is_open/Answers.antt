use Rattle.lr_file.proofs.FileLaws.{length-open-le-one}
use Rattle.lr_file.proofs.laws.one_file_is_open.Goals as goal

pub returns : goal.returns
returns c = length-open-le-one
