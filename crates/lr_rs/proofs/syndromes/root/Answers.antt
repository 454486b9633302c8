use Rattle.lr_rs.proofs.syndromes.root.Goals as goal

pub returns : goal.returns
returns c = c.pow.ensures
