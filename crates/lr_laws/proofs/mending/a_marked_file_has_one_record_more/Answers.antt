use Rattle.lr_laws.proofs.MarkedHeaders.{marked_headers}
use Rattle.lr_laws.proofs.mending.a_marked_file_has_one_record_more.Goals as goal

pub returns : goal.returns
returns c = marked_headers
