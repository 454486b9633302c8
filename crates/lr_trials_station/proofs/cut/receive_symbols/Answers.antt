use Rattle.lr_trials_station.proofs.CutSources.{lines_there}
use Rattle.lr_trials_station.proofs.cut.receive_symbols.Goals as goal

pub returns : goal.returns
returns g c = record {
  lines = λ place count way cut past come told is_way only tells.
      lines_there g.D.Disk g.O.Sink c.args.decoding c.args.mend c.args.most c.args.source.now c.receive_alone.new.source
      c.args.disk.now c.receive_alone.new.disk c.args.out.now c.receive_alone.new.out c.receive_alone.result
      c.receive_alone.ensures c.requires.fresh place count way cut past come told is_way only tells;
}
