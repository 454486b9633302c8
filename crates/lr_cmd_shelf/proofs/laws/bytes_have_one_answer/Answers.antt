use Rattle.lr_cmd_shelf.specs.Laws.{query_of}
use Rattle.lr_cmd_shelf.proofs.Answering.{answer_is}
use Rattle.lr_cmd_shelf.proofs.Seeing.{asked_sight}
use Rattle.lr_cmd_shelf.proofs.laws.bytes_have_one_answer.Goals as goal

pub returns : goal.returns
returns c = λ asked. answer_is (query_of asked) (asked_sight asked)
