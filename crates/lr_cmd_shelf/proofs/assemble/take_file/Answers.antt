use Rattle.std.proofs.Common.{◌≡◌, Option, Some, IfErr, rules, arith, subst}
use Rattle.lr_segment.specs.Canvas.{Member, member}
use Rattle.lr_cmd_shelf.specs.Assemble.{join_fate, member_with}
use Rattle.lr_cmd_shelf.specs.Gathered.{IsStop}
use Rattle.lr_cmd_shelf.proofs.assemble.take_file.Goals as goal

pub returns-in-Some-Ok-clause-stops : goal.returns-in-Some-Ok-clause-stops
returns-in-Some-Ok-clause-stops c = λ members skipped gathers.
    let same : Some (member c.in-Some-Ok.image c.in-Some.segment) ≡ member_with c.args.segment c.args.opened.now.image =
    search rules in
    subst (λ (o : Option Member). IfErr c.add_segment.result (IsStop (join_fate members o))) same
    (c.add_segment.ensures.stops members skipped gathers)

pub returns-in-Some-Err-clause-gathered : goal.returns-in-Some-Err-clause-gathered
returns-in-Some-Err-clause-gathered c = search (rules, arith)
