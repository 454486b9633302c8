use Rattle.lr_uplink.proofs.Agreeing.{zones_agree}
use Rattle.lr_uplink.proofs.laws.zones_agree.Goals as goal

pub returns : goal.returns
returns c = zones_agree
