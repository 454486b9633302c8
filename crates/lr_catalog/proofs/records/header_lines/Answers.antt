use Rattle.std.proofs.Common.{◌∙◌}
use Rattle.lr_headers.proofs.Readings.{header_is}
use Rattle.lr_catalog.specs.Records.{header_lines}
use Rattle.lr_catalog.proofs.Lines.{put_fault, put_same}
use Rattle.lr_catalog.proofs.records.header_lines.Goals as goal

pub returns-in_ok-lines-in-Ok-clause-ok : goal.returns-in_ok-lines-in-Ok-clause-ok
unfolding header_lines
returns-in_ok-lines-in-Ok-clause-ok c =
    let is = header_is c.args.proper.now c.in-Ok.records c.in-Ok.ensures.ok in
    rw is
    (put_same c.extend.result c.args.out.now c.as_slice.result.now _ c.extend.new.self
    (c.as_slice.ensures ∙ c.in_ok-lines-in-Ok.ensures) c.extend.ensures.ok)

pub returns-in-Err-clause-ok : goal.returns-in-Err-clause-ok
returns-in-Err-clause-ok c =
    put_fault c.put_fault.result c.args.proper.now c.in-Err.fault c.args.out.now c.put_fault.new.out
    c.in-Err.ensures.err c.put_fault.ensures.ok c.put_fault.ensures.is_fault
