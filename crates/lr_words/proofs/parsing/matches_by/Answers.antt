use Rattle.lr_words.proofs.parsing.matches_by.Goals as goal

pub returns : goal.returns
returns c = λ app is. rw (← (rw c.in_ok-parser.was at is)) c.matches_of.ensures
