use Rattle.std.proofs.Common.{ap, ◌∙◌, ◌≡◌, ◌+◌, ◌*◌, ◌%◌}
use Rattle.lr_conv.specs.Convolution.{bit, first_of_seven, second_of_seven}
use Rattle.lr_conv.specs.Encoder.{past_of}
use Rattle.lr_conv.specs.declared.line.TheConstants.{STANDARD}
use Rattle.lr_conv.proofs.OneMore.{symbols_are, last_six_are}
use Rattle.lr_conv.proofs.SevenBits.{byte_is_bit}
use Rattle.lr_conv.proofs.encoder.Encoder.push.Goals as goal

pub returns-clause-symbols : goal.returns-clause-symbols
returns-clause-symbols c = λ past bits stands.
    let seven = ap (λ r. 2 * c.args.self.now.state + r) (c.from.ensures ∙ byte_is_bit c.args.bit) in
    let all = symbols_are STANDARD c.args.self.now.state past bits c.args.bit stands.six stands.last_six in
    let first = c.first_symbol.ensures ∙ ap first_of_seven seven in
    let second = c.second_symbol.ensures ∙ ap (second_of_seven STANDARD) seven in
    cc

pub returns-clause-history : goal.returns-clause-history
returns-clause-history c = λ past bits stands.
    let seven : (2 * c.args.self.now.state + c.from.result) % 64 ≡
    (2 * c.args.self.now.state + bit c.args.bit) % 64 =
    ap (λ r. (2 * c.args.self.now.state + r) % 64) (c.from.ensures ∙ byte_is_bit c.args.bit) in
    record {
      six = stands.six;
      last_six =
          ap past_of seven ∙ last_six_are STANDARD c.args.self.now.state past bits c.args.bit stands.six
          stands.last_six;
    }
