use Rattle.lr_cmd_shelf.specs.Assemble.{members_of}
use Rattle.lr_cmd_shelf.proofs.Assembling.{assembled_some}
use Rattle.lr_cmd_shelf.proofs.assemble.AssembleRangeReadsFiles.last.Goals as goal

pub returns-clause-sure : goal.returns-clause-sure
returns-clause-sure g c = λ read gathers none.
    assembled_some (members_of c.args.self.now.apid c.args.self.now.image read) none
