use Rattle.std.proofs.Common.{◌≤◌, rules, ◌≡◌, ◌-◌, ◌*◌, ◌<◌, ℕ, zero, suc, [], ◌∷◌, All, length, take, drop, sum, ap}
use Rattle.std.proofs.Common.{subst, ◌∙◌, arith, ◌+◌}
use Rattle.std.proofs.lemmas.List.{take_rest}
use Rattle.byteorder.specs.Endian.{big_number}
use Rattle.lr_bits.specs.Sizes.{most_body_bytes}
use Rattle.lr_shelf_format.specs.Record.{numbers_in}
use Rattle.lr_shelf_format.proofs.LengthLemmas.{short_add, short_there, sum_add}
use Rattle.lr_shelf_format.proofs.read.sum_of.Goals as goal

pub returns-then-length-clause-none : goal.returns-then-length-clause-none
returns-then-length-clause-none c short =
    let pairs = c.args.pairs.now in
    let place = c.loop-place.place in
    let given : c.read_u16-length.result ≡ big_number 2 (take (length pairs - 2 * place) (drop (2 * place) pairs)) =
    c.read_u16-length.ensures in
    let there : c.read_u16-length.result ≡ big_number 2 (drop (2 * place) pairs) = given
    ∙ ap (big_number 2) (take_rest pairs (2 * place)) in
    let below : big_number 2 (drop (2 * place) pairs) ≤ most_body_bytes =
    short_there place c.args.count pairs (omega arith) short in
    omega (arith, there, below)

-- one more number is short, and counts
one_short : (n : ℕ) → n ≤ most_body_bytes → All (λ one. one ≤ most_body_bytes) (n ∷ [])
one_short n below zero d inside = below
one_short n below (suc k) d inside = absurd (omega arith)

pub loop-place-preserved : goal.loop-place-preserved
loop-place-preserved c =
    let pairs = c.args.pairs.now in
    let place = c.loop-place.place in
    let inv = c.loop-place.invariant in
    let given : c.read_u16-length.result ≡ big_number 2 (take (length pairs - 2 * place) (drop (2 * place) pairs)) =
    c.read_u16-length.ensures in
    let there : c.read_u16-length.result ≡ big_number 2 (drop (2 * place) pairs) = given
    ∙ ap (big_number 2) (take_rest pairs (2 * place)) in
    let below : c.read_u16-length.result ≤ most_body_bytes = omega arith in
    let same : c.from-total.result ≡ c.read_u16-length.result = search rules in
    let one : sum (numbers_in 1 (drop (2 * place) pairs)) ≡ big_number 2 (drop (2 * place) pairs) = omega arith in
    record {
      short = short_add place 1 pairs inv.short
          (subst (λ n. All (λ one. one ≤ most_body_bytes) (n ∷ [])) there (one_short c.read_u16-length.result below));
      total = omega (arith, sum_add place 1 pairs, one, same, there, inv.total);
      low = omega (arith, same, below, inv.low);
    }
