use Rattle.lr_causes.specs.Outside.{outside}
use Rattle.lr_station.proofs.StatusLemmas.{stations}
use Rattle.lr_station.proofs.top.station_alone.Goals as goal

pub returns-clause-stations : goal.returns-clause-stations
returns-clause-stations g c =
    let ran = c.run_words_alone-cause.ensures in
    stations _ (outside c.args.source.now c.args.disk.now c.args.out.now)
    (outside c.run_words_alone-cause.new.source c.run_words_alone-cause.new.disk c.run_words_alone-cause.new.out) _
    c.run_words_alone-cause.result _ c.status.ensures ran.runs ran.caused c.tell.ensures.line (record {
      by_source = ran.source_tells;
      by_disk = ran.disk_tells;
      by_out = ran.out_tells;
      by_err = c.tell.ensures.tells;
    })
