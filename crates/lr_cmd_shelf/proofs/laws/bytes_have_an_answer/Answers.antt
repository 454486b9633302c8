use Rattle.lr_cmd_shelf.proofs.EachAnswer.{has_an_answer}
use Rattle.lr_cmd_shelf.proofs.laws.bytes_have_an_answer.Goals as goal

pub returns : goal.returns
returns c = has_an_answer
