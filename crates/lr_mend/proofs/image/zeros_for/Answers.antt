use Rattle.std.proofs.Common.{length}
use Rattle.std.proofs.lemmas.List.{take-replicate}
use Rattle.lr_bits.specs.Sizes.{most_body_bytes}
use Rattle.lr_mend.proofs.image.zeros_for.Goals as goal

pub returns : goal.returns
returns c = take-replicate (length c.args.body.now) most_body_bytes 0 c.requires
