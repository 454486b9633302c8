use Rattle.lr_cmd_shelf.proofs.Reasons.{one_file_puts_one_text}
use Rattle.lr_cmd_shelf.proofs.laws.one_file_puts_one_text.Goals as goal

pub returns : goal.returns
returns c = one_file_puts_one_text
