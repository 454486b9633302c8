use Rattle.std.proofs.Common.{◌∙◌, arith, drop, refl}
use Rattle.lr_uplink.proofs.Parts.{byte_sent}
use Rattle.lr_uplink.proofs.sending.Sending.next_byte.Goals as goal

pub returns-then-self-len-2-clause-moves : goal.returns-then-self-len-2-clause-moves
returns-then-self-len-2-clause-moves c = λ file count rest s.
    c.advance.ensures file count (drop 1 rest)
    (byte_sent c.args.self.now _ file count rest s.part
    (omega (arith, c.args.self.now.sent_fits, c.if-self-len.false, c.len.ensures.value)) refl refl refl refl refl)
    (c.if-self-len-2.true ∙ c.len-2.ensures.value)
