use Rattle.lr_redecode.proofs.Agreeing.{known_words, path_agrees, some_agrees}
use Rattle.lr_redecode.proofs.laws.known_is_agreed.Goals as goal

pub returns-clause-has : goal.returns-clause-has
returns-clause-has c = known_words

pub returns-clause-agrees : goal.returns-clause-agrees
returns-clause-agrees c = path_agrees

pub returns-clause-some : goal.returns-clause-some
returns-clause-some c = some_agrees
