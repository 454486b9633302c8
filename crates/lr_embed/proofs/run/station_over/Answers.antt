use Rattle.std.proofs.Common.{rules, refl}
use Rattle.lr_causes.specs.Outside.{outside}
use Rattle.lr_station.specs.Runs.{outside_and_err}
use Rattle.lr_embed.proofs.run.station_over.Goals as goal

pub returns : goal.returns
returns c = record {
  before = outside_and_err (outside (record { rest = c.args.input }) c.in_ok-disk.disk c.in_ok-out.out) c.in_ok-err.err;
  after = outside_and_err (outside c.station_alone-status.new.source c.station_alone-status.new.disk
      c.station_alone-status.new.out) c.station_alone-status.new.err;
  gives_input = refl;
  gives_shelf = search rules;
  gives_out = search rules;
  gives_err = search rules;
  stations = c.station_alone-status.ensures.stations;
  unknown = c.station_alone-status.ensures.unknown;
  is_status = search rules;
  says = refl;
  tells = refl;
  keeps = refl;
}
