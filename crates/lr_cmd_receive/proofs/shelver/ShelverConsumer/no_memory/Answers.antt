use Rattle.lr_cmd_receive.proofs.Taking.{shelver_refused}
use Rattle.lr_cmd_receive.proofs.shelver.ShelverConsumer.no_memory.Goals as goal

pub returns : goal.returns
returns g c c' arrivals took = shelver_refused g.D.Disk g.O.Sink took
