use Rattle.lr_headers.proofs.Readings.{header_is}
use Rattle.lr_catalog.proofs.Faults.{is_fault}
use Rattle.lr_catalog.proofs.entries.put_type.Goals as goal

pub returns-in-Ok : goal.returns-in-Ok
returns-in-Ok c =
    let is = header_is c.args.proper.now c.in-Ok.records c.in-Ok.ensures.ok in
    rw (is, ← c.file_type.ensures) (c.put_words.ensures.ok _ c.kind_word.ensures)

pub returns-in_default : goal.returns-in_default
returns-in_default c =
    let is = is_fault c.args.proper.now c.in-Err.fault c.in-Err.ensures.err c.in_default.not-NoMemory in
    rw is c.extend.ensures.ok
