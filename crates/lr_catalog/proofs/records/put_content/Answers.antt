use Rattle.std.proofs.Common.{arith, rules}
use Rattle.lr_catalog.proofs.Lines.{put_stamp}
use Rattle.lr_catalog.proofs.records.put_content.Goals as goal

pub returns-in_ok-extend-in-Stamp : goal.returns-in_ok-extend-in-Stamp
returns-in_ok-extend-in-Stamp c =
    let middle = c.in_ok-extend-in-Stamp.ensures in
    rw c.in-Stamp.is
    (put_stamp c.stamp_text.result c.in-Stamp.stamp c.args.out.now c.extend-in-Stamp.new.self c.stamp_text.new.out
    middle.ok c.stamp_text.ensures.ok)

pub returns-in-Key : goal.returns-in-Key
returns-in-Key c = search (rules, arith)
