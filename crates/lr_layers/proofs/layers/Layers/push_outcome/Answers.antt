use Rattle.std.proofs.lemmas.Result.{on_ok_weaker}
use Rattle.lr_layers.proofs.Pushing.{adds_files}
use Rattle.lr_layers.proofs.layers.Layers.push_outcome.Goals as goal

pub returns-clause-files : goal.returns-clause-files
returns-clause-files c mend outcomes h = on_ok_weaker c.take.result adds_files (c.take.ensures.files mend outcomes h)
