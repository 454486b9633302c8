use Rattle.std.proofs.Common.{refl}
use Rattle.lr_headers.proofs.records.has_wrong_length.Goals as goal

pub returns-in-1 : goal.returns-in-1
returns-in-1 c = rw c.in-1.is refl
