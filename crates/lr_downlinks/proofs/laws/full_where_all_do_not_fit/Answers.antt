use Rattle.lr_downlinks.proofs.Room.{full_where_all_do_not_fit}
use Rattle.lr_downlinks.proofs.laws.full_where_all_do_not_fit.Goals as goal

pub returns : goal.returns
returns c = full_where_all_do_not_fit
