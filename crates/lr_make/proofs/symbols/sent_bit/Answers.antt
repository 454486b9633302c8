use Rattle.std.proofs.Common.{◌/◌, nat_eq, get_or, ap, refl}
use Rattle.lr_make.proofs.Coding.{bit_is}
use Rattle.lr_make.proofs.symbols.sent_bit.Goals as goal

pub returns : goal.returns
returns c =
    let bytes = c.args.bytes.now in
    let place = c.args.place in
    ap (λ z. nat_eq z 1) (bit_is bytes place (get_or bytes (place / 8) 0) refl)
