use Rattle.std.proofs.Common.{rules, ◌≡◌, Option, Some, refl, subst, sym}
use Rattle.lr_causes.specs.Outside.{outside, world_of}
use Rattle.lr_words.specs.declared.command.Command.{Command}
use Rattle.lr_words.specs.declared.command.Command.TheVariants.{OnFile, Repack}
use Rattle.lr_words.specs.declared.command.FileAction.TheVariants.{Discard, Show}
use Rattle.lr_station.specs.Effects.{alone}
use Rattle.lr_station.specs.Runs.{Runs}
use Rattle.lr_station.proofs.top.run_alone.Goals as goal

pub returns-in-Some-OnFile-Discard-default-clause-runs : goal.returns-in-Some-OnFile-Discard-default-clause-runs
returns-in-Some-OnFile-Discard-default-clause-runs g c =
    let named : c.args.command ≡ Some (OnFile Discard c.in-Some-OnFile-Discard-default.number) = search rules in
    subst (λ (command : Option Command). Runs (world_of g.S.Source g.D.Disk g.O.Sink) (alone command)
    c.discard.result (outside c.args.source.now c.args.disk.now c.args.out.now)
    (outside c.args.source.now c.discard.new.disk c.discard.new.out)) (sym named) (refl, c.discard.ensures)

pub returns-in-Some-Repack-clause-runs : goal.returns-in-Some-Repack-clause-runs
returns-in-Some-Repack-clause-runs g c =
    let named : c.args.command ≡ Some (Repack c.in-Some-Repack.number c.in-Some-Repack.block) = search rules in
    subst (λ (command : Option Command). Runs (world_of g.S.Source g.D.Disk g.O.Sink) (alone command)
    c.repack.result (outside c.args.source.now c.args.disk.now c.args.out.now)
    (outside c.args.source.now c.repack.new.disk c.repack.new.out)) (sym named) (refl, c.repack.ensures)

pub returns-in-Some-OnFile-Show-default-clause-runs : goal.returns-in-Some-OnFile-Show-default-clause-runs
returns-in-Some-OnFile-Show-default-clause-runs g c =
    let named : c.args.command ≡ Some (OnFile Show c.in-Some-OnFile-Show-default.number) = search rules in
    subst (λ (command : Option Command). Runs (world_of g.S.Source g.D.Disk g.O.Sink) (alone command)
    c.show.result (outside c.args.source.now c.args.disk.now c.args.out.now)
    (outside c.args.source.now c.show.new.disk c.show.new.out)) (sym named) (refl, c.show.ensures)
