use Rattle.lr_cmd_shelf.specs.Laws.{query_of}
use Rattle.lr_cmd_shelf.proofs.Answering.{begun_front}
use Rattle.lr_cmd_shelf.proofs.Seeing.{asked_sight}
use Rattle.lr_cmd_shelf.proofs.laws.begun_texts_come_first.Goals as goal

pub returns : goal.returns
returns c = λ asked. begun_front (query_of asked) (asked_sight asked)
