use Rattle.lr_gate.proofs.OneMachine.{same_words}
use Rattle.lr_gate.proofs.laws.words_tell_the_machine.Goals as goal

pub returns : goal.returns
returns g c = λ size s t r q. same_words g.W.Work.gives size.cells size.workers s t r q
