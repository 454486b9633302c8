use Rattle.std.proofs.Common.{◌∙◌, sym}
use Rattle.lr_cmd_shelf.proofs.Assembling.{other_application, segment_is}
use Rattle.lr_cmd_shelf.proofs.assemble.segment_in.Goals as goal

pub returns-then-apid : goal.returns-then-apid
returns-then-apid c =
    other_application c.args.apid c.args.image c.args.file.now (λ same. c.if-apid.true (c.apid.ensures.value ∙ same))

pub returns : goal.returns
returns c =
    segment_is c.args.apid c.args.image c.args.file.now (sym c.apid.ensures.value ∙ c.if-apid.false) c.read.result
    c.segment_by.result (rw c.proper.ensures.value at c.read.ensures.ok)
    (rw c.proper.ensures.value at c.read.ensures.err) c.segment_by.ensures.segment
