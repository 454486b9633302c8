use Rattle.std.proofs.Common.{Option, inr, refl, subst, ◌∙◌}
use Rattle.lr_causes.specs.Outside.{outside, world_of}
use Rattle.lr_words.specs.declared.command.Command.{Command}
use Rattle.lr_station.specs.Runs.{Runs}
use Rattle.lr_station.proofs.Unknown.{unnamed}
use Rattle.lr_station.proofs.top.run_words.Goals as goal

pub returns-in_default-clause-runs : goal.returns-in_default-clause-runs
returns-in_default-clause-runs g c =
    inr (record { is = refl; source_stays = refl; disk_stays = refl; out_stays = refl })

pub returns-clause-unknown : goal.returns-clause-unknown
returns-clause-unknown g c = λ unknown.
    (subst (λ (command : Option Command). Runs (world_of g.S.Source g.D.Disk g.O.Sink) command c.run.result
    (outside c.args.source.now c.args.disk.now c.args.out.now)
    (outside c.run.new.source c.run.new.disk c.run.new.out))
    (c.in-Ok.ensures.gives ∙ unnamed _ unknown) c.run.ensures.runs).is
