use Rattle.lr_lock.proofs.Existing.{given_are_prefix}
use Rattle.lr_lock.proofs.laws.given_are_prefix.Goals as goal

pub returns : goal.returns
returns c tail symbols given t h = given_are_prefix tail symbols given t h
