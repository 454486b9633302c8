use Rattle.std.proofs.Common.{Some, subst}
use Rattle.lr_packet.specs.Reading.{good}
use Rattle.lr_file.specs.Standing.{Open}
use Rattle.lr_file.specs.Steps.{SetsKey}
use Rattle.lr_file.proofs.KeyLemmas.{sets_key}
use Rattle.lr_file.proofs.files.open_first.Goals as goal

pub returns : goal.returns
returns c =
    let old = c.args.files.now in
    let new = c.insert.new.self in
    let p = good c.args.packet.now in
    subst (λ (file : Open). SetsKey old.entries new.entries p (Some file)) c.in_ok-file.ensures
    (sets_key old new p (Some c.in_ok-file.file) c.in_ok-insert.ensures.updates.0 c.in_ok-insert.ensures.ordered)
