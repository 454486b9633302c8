use Rattle.std.proofs.Common.{◌++◌, ◌∙◌, List, ℕ, ap}
use Rattle.lr_catalog.specs.Records.{record_line}
use Rattle.lr_catalog.proofs.Lines.{put_same}
use Rattle.lr_catalog.proofs.records.record_line.Goals as goal

pub returns-clause-ok : goal.returns-clause-ok
returns-clause-ok c = λ e is.
    let line = c.in_ok-put_record.ensures e is
    ∙ ap (λ (l : List ℕ). l ++ record_line c.args.records.now e) c.new-line.ensures in
    put_same c.extend.result c.args.out.now c.as_slice.result.now _ c.extend.new.self (c.as_slice.ensures ∙ line)
    c.extend.ensures.ok
