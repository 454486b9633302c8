use Rattle.lr_file.proofs.FileLaws.{files_of-append}
use Rattle.lr_file.proofs.laws.files_keep_their_order.Goals as goal

pub returns : goal.returns
returns c = files_of-append
