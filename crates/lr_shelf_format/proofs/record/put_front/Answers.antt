use Rattle.lr_shelf_format.proofs.ItemLemmas.{put_front_of}
use Rattle.lr_shelf_format.proofs.Results.{on_ok}
use Rattle.lr_shelf_format.proofs.record.put_front.Goals as goal

pub returns-clause-ok : goal.returns-clause-ok
returns-clause-ok c =
    on_ok c.extend-3.result
    (λ new_is. put_front_of c.args.file.now c.args.origin c.args.out.now c.extend.new.self c.extend-2.new.self
    c.extend-3.new.self c.fields_of_file-fields.result c.origin_of.result
    c.in_ok-extend.ensures.ok c.in_ok-extend-2.ensures.ok new_is c.fields_of_file-fields.ensures.value
    c.origin_of.ensures)
    c.extend-3.ensures.ok
