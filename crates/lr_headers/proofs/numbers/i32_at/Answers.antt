use Rattle.std.proofs.Common.{ℕ, List, ap, ◌∙◌, rules, FitsSigned, w32}
use Rattle.std.specs.Int.{cast_signed}
use Rattle.std.proofs.lemmas.List.{take_rest}
use Rattle.std.proofs.lemmas.Int.{to_z-of_z}
use Rattle.byteorder.specs.Endian.{big_number}
use Rattle.lr_headers.specs.Tiling.{number_at}
use Rattle.lr_headers.proofs.numbers.i32_at.Goals as goal

pub returns : goal.returns
unfolding number_at
returns c =
    let fits : FitsSigned w32 c.read_i32.result = search rules in
    to_z-of_z w32 c.read_i32.result fits ∙ c.read_i32.ensures
    ∙ ap (λ (bytes : List ℕ). cast_signed w32 (big_number 4 bytes)) (take_rest c.args.bytes.now c.args.place)
