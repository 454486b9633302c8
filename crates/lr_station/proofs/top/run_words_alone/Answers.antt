use Rattle.std.proofs.Common.{Option, inl, inr, refl, subst, sym, ◌∙◌}
use Rattle.lr_causes.specs.Outside.{outside, world_of}
use Rattle.lr_causes.specs.declared.cause.Cause.TheVariants.{Usage}
use Rattle.lr_words.specs.declared.command.Command.{Command}
use Rattle.lr_station.specs.Runs.{RunsOrNot}
use Rattle.lr_station.proofs.Unknown.{not_alone}
use Rattle.lr_station.proofs.top.run_words_alone.Goals as goal

pub returns-then-not-runs_alone-clause-runs : goal.returns-then-not-runs_alone-clause-runs
returns-then-not-runs_alone-clause-runs g c =
    subst
    (λ (command : Option Command). RunsOrNot (world_of g.S.Source g.D.Disk g.O.Sink) command Usage
    (outside c.args.source.now c.args.disk.now c.args.out.now)
    (outside c.args.source.now c.args.disk.now c.args.out.now))
    (sym (not_alone _ (sym c.runs_alone.ensures ∙ c.if-not-runs_alone.true)))
    (inl (record { is = refl; source_stays = refl; disk_stays = refl; out_stays = refl }))

pub returns-in-Err-clause-runs : goal.returns-in-Err-clause-runs
returns-in-Err-clause-runs g c = inr (record { is = refl; source_stays = refl; disk_stays = refl; out_stays = refl })

pub returns-in-Err-clause-unknown : goal.returns-in-Err-clause-unknown
returns-in-Err-clause-unknown g c = λ unknown.
    absurd (unknown (sym c.runs_alone.ensures ∙ c.if-not-runs_alone.false))

pub returns-in-Ok-clause-unknown : goal.returns-in-Ok-clause-unknown
returns-in-Ok-clause-unknown g c = λ unknown.
    absurd (unknown (sym c.runs_alone.ensures ∙ c.if-not-runs_alone.false))
