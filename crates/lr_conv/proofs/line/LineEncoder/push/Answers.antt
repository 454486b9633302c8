use Rattle.std.proofs.Common.{ap, refl, sym, subst, ◌∙◌, ◌≡◌, ◌+◌, ◌*◌, ◌/◌, ◌%◌, ◌^◌, ℕ, Bool, false, nat_eq, List}
use Rattle.std.proofs.Common.{[], ◌∷◌, ◌++◌, length, drop, arith, length-append}
use Rattle.lr_conv.specs.Convolution.{bit, code, first_of_seven, second_of_seven}
use Rattle.lr_conv.specs.Encoder.{past_of}
use Rattle.lr_conv.specs.Levels.{last_level, level_of, levels, six_zeros}
use Rattle.lr_conv.specs.declared.line.LineCode.{LineCode}
use Rattle.lr_conv.proofs.Lines.{last_level-drop, length-levels, levels-append, levels_one}
use Rattle.lr_conv.proofs.OneMore.{symbols_are, last_six_are}
use Rattle.lr_conv.proofs.SevenBits.{byte_is_bit}
use Rattle.lr_conv.proofs.line.LineEncoder.push.Goals as goal

module _ (line : LineCode) (state : ℕ) (bits : List Bool) (b next : Bool)
    (last_six : past_of state ≡ drop (length bits) (six_zeros ++ levels line false bits))
    (is_next : next ≡ level_of line (nat_eq (state % 2) 1) b) where
  size : length (levels line false bits) ≡ length bits
  size = length-levels line false bits

  at_size : past_of state ≡ drop (length (levels line false bits)) (six_zeros ++ levels line false bits)
  at_size = subst (λ n. past_of state ≡ drop n (six_zeros ++ levels line false bits)) (sym size) last_six

  -- the newest bit of the state is the last level
  newest : nat_eq (state % 2) 1 ≡ last_level false (levels line false bits)
  newest =
      let low : state / 2 ^ 0 % 2 ≡ state % 2 = omega arith in
      let of_state : last_level false (past_of state) ≡ nat_eq (state % 2) 1 = ap (λ x. nat_eq x 1) low in
      let dropped = last_level-drop false (length (levels line false bits)) (six_zeros ++ levels line false bits)
      (omega (arith, length-append six_zeros (levels line false bits))) in
      sym of_state ∙ ap (last_level false) at_size ∙ dropped

  one_more : levels line false (bits ++ b ∷ []) ≡ levels line false bits ++ next ∷ []
  one_more =
      levels-append line false bits (b ∷ [])
      ∙ ap (λ z. levels line false bits ++ z) (levels_one line (last_level false (levels line false bits)) b
      ∙ ap (λ z. level_of line z b ∷ []) (sym newest) ∙ ap (λ z. z ∷ []) (sym is_next))

  pub coded : code line six_zeros (levels line false (bits ++ b ∷ [])) ≡ code line six_zeros
      (levels line false bits) ++ first_of_seven (2 * state + bit next) ∷ second_of_seven line
      (2 * state + bit next) ∷ []
  coded = ap (code line six_zeros) one_more
      ∙ symbols_are line state six_zeros (levels line false bits) next refl at_size

  pub last_six_more : past_of ((2 * state + bit next) % 64) ≡ drop (length (bits ++ b ∷ []))
      (six_zeros ++ levels line false (bits ++ b ∷ []))
  last_six_more =
      let more : length (levels line false bits ++ next ∷ []) ≡ length (bits ++ b ∷ []) =
      omega (arith, length-append (levels line false bits) (next ∷ []), length-append bits (b ∷ []), size) in
      last_six_are line state six_zeros (levels line false bits) next refl at_size
      ∙ ap (λ n. drop n (six_zeros ++ (levels line false bits ++ next ∷ []))) more
      ∙ ap (λ z. drop (length (bits ++ b ∷ [])) (six_zeros ++ z)) (sym one_more)

pub returns-clause-symbols : goal.returns-clause-symbols
returns-clause-symbols c = λ line bits stands.
    let own = c.args.self.now.line in
    let state = c.args.self.now.state in
    let next = c.next_level-level.result in
    let same : own ≡ line = stands.same in
    let seven = ap (λ r. 2 * state + r) (c.from.ensures ∙ byte_is_bit next) in
    let level : next ≡ level_of line (nat_eq (state % 2) 1) c.args.bit = c.next_level-level.ensures
    ∙ ap (λ (k : LineCode). level_of k (nat_eq (state % 2) 1) c.args.bit) same in
    let all = coded line state bits c.args.bit next stands.last_six level in
    let first = c.first_symbol.ensures ∙ ap first_of_seven seven in
    let second = c.second_symbol.ensures ∙ ap (second_of_seven own) seven
    ∙ ap (λ (k : LineCode). second_of_seven k (2 * state + bit next)) same in
    cc

pub returns-clause-history : goal.returns-clause-history
returns-clause-history c = λ line bits stands.
    let own = c.args.self.now.line in
    let state = c.args.self.now.state in
    let next = c.next_level-level.result in
    let level : next ≡ level_of line (nat_eq (state % 2) 1) c.args.bit = c.next_level-level.ensures
    ∙ ap (λ (k : LineCode). level_of k (nat_eq (state % 2) 1) c.args.bit) stands.same in
    let seven : (2 * state + c.from.result) % 64 ≡ (2 * state + bit next) % 64 =
    ap (λ r. (2 * state + r) % 64) (c.from.ensures ∙ byte_is_bit next) in
    record {
      same = stands.same;
      last_six =
          ap past_of seven ∙ last_six_more line state bits c.args.bit next stands.last_six level;
    }
