use Rattle.lr_words.proofs.values.most.Goals as goal

pub returns-clause-gives : goal.returns-clause-gives
returns-clause-gives c = c.number_or.ensures.gives
