use Rattle.std.proofs.Common.{length, ap}
use Rattle.lr_shelf_format.proofs.ItemLemmas.{put_add_item}
use Rattle.lr_shelf_format.proofs.Results.{on_ok}
use Rattle.lr_shelf_format.proofs.record.put_record.Goals as goal

pub returns-clause-ok : goal.returns-clause-ok
returns-clause-ok c =
    on_ok c.put_end.result
    (put_add_item c.args.file.now c.args.origin c.args.out.now c.put_front.new.out c.put_body.new.out
    c.put_end.new.out (length c.as_slice-start.result.now)
    c.in_ok-put_front.ensures.ok c.in_ok-put_body.ensures.ok (ap length c.as_slice-start.ensures))
    c.put_end.ensures.ok
