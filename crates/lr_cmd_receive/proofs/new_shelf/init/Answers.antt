use Rattle.std.proofs.Common.{rules, OnErr, subst}
use Rattle.lr_shelf.specs.Init.{IsLeftByInit}
use Rattle.lr_refusals.proofs.Answering.{refused}
use Rattle.lr_cmd_receive.proofs.new_shelf.init.Goals as goal

-- src/new_shelf.rt:33:1
pub returns-in-Err-shelf_answer-clause-run : goal.returns-in-Err-shelf_answer-clause-run
returns-in-Err-shelf_answer-clause-run g c = record {
  ends = search rules;
  counted = search rules;
  taken = search rules;
  left = λ t failed. subst (λ r. OnErr r (IsLeftByInit c.args.capacity (g.D.Disk.contents c.args.disk.now)
      (g.D.Disk.contents c.init.new.disk))) (refused c.init.result c.shelf_answer.result c.shelf_answer.ensures
      c.in-Err-shelf_answer.cause c.in-Err-shelf_answer.is).1 (c.init.ensures.left t);
  any_moment = search rules;
}
