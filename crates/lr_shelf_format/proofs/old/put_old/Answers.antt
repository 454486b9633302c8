use Rattle.std.proofs.Common.{◌++◌, List, ℕ, length, ap, ◌∙◌}
use Rattle.lr_shelf_format.proofs.ItemLemmas.{put_old_item}
use Rattle.lr_shelf_format.proofs.Results.{on_ok}
use Rattle.lr_shelf_format.proofs.old.put_old.Goals as goal

pub returns-clause-ok : goal.returns-clause-ok
returns-clause-ok c =
    on_ok c.put_end.result
    (put_old_item c.args.file.now c.args.out.now c.extend.new.self c.put_body.new.out c.put_end.new.out
    (length c.as_slice-start.result.now)
    (c.in_ok-extend.ensures.ok
    ∙ ap (λ (l : List ℕ). c.args.out.now ++ l) c.fields_of_file.ensures.value) c.in_ok-put_body.ensures.ok
    (ap length c.as_slice-start.ensures))
    c.put_end.ensures.ok
