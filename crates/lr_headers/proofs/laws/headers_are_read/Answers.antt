use Rattle.lr_headers.proofs.Readings.{headers_are_read}
use Rattle.lr_headers.proofs.laws.headers_are_read.Goals as goal

pub returns : goal.returns
returns c = headers_are_read
