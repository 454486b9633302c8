use Rattle.std.proofs.Common.{◌≡◌, ◌+◌, ◌-◌, ◌*◌, ◌/◌, ◌%◌, ◌^◌, ◌++◌, ◌∷◌, [], ℕ, List, length}
use Rattle.std.proofs.Common.{ap, sym, ◌∙◌, arith, length-append}
use Rattle.std.proofs.lemmas.List.{append-nil}
use Rattle.std.proofs.lemmas.Nat.{and_mask}
use Rattle.lr_bits.specs.Bits.{bits_of, number_bits}
use Rattle.lr_bits.proofs.BitsLemmas.{length-bits_of}
use Rattle.lr_bits.proofs.ReaderLemmas.{length-number_bits}
use Rattle.lr_rice_coder.proofs.WriterLemmas.{byte_put, number_bits-none, number_bits-zeros}
use Rattle.lr_rice_coder.proofs.writer.BitWriter.finish.Goals as goal

-- the bits of bytes and of a number
bit_count : (bytes : List ℕ) (count pending : ℕ) → length (bits_of bytes ++ number_bits count pending)
    ≡ 8 * length bytes + count
bit_count bytes count pending =
    omega (
      arith,
      length-append (bits_of bytes) (number_bits count pending),
      length-bits_of bytes,
      length-number_bits count pending,
    )

pub loop-count-init : goal.loop-count-init
loop-count-init c =
    let w = c.self.inside in
    let v = c.self-2.inside in
    let zeros = 7 - (w.count + 7) % 8 in
    record {
      few = c.self-2.invariant.0;
      whole = omega (
        arith,
        ap length c.self.view_is,
        ap length c.self-2.view_is,
        ap length c.in_ok-number.ensures,
        bit_count w.bytes.items w.count w.pending,
        bit_count v.bytes.items v.count v.pending,
        length-append c.args.self (number_bits zeros 0),
        length-number_bits zeros 0,
      );
      bits_are = c.self-2.view_is ∙ c.in_ok-number.ensures;
    }

pub loop-count-preserved : goal.loop-count-preserved
loop-count-preserved c =
    let count = c.loop-count.count in
    let pending = c.self-2.inside.pending in
    let some : 8 + (count - 8) ≡ count = omega (arith, c.loop-count.invariant.whole, c.loop-count-test.true) in
    record {
      few = omega (arith, c.loop-count.invariant.few);
      whole = omega (arith, c.loop-count.invariant.whole, c.loop-count-test.true);
      bits_are = ap (λ (l : List ℕ). bits_of l ++ number_bits (count - 8) pending) c.in_ok-push.ensures.items
          ∙ ap (λ (b : ℕ). bits_of (c.loop-count.bytes.items ++ b ∷ []) ++ number_bits (count - 8) pending)
          (and_mask (pending / 2 ^ (count - 8)) 8)
          ∙ byte_put c.loop-count.bytes.items (count - 8) pending
          ∙ ap (λ (n : ℕ). bits_of c.loop-count.bytes.items ++ number_bits n pending) some
          ∙ c.loop-count.invariant.bits_are;
    }

pub returns : goal.returns
returns c =
    let w = c.self.inside in
    let zeros = 7 - (w.count + 7) % 8 in
    let none : c.loop-count.count ≡ 0 = omega (arith, c.loop-count-test.false) in
    let bytes = c.loop-count.bytes in
    record {
      zeros = zeros;
      few = omega arith;
      whole = sym (append-nil (bits_of bytes.items))
          ∙ ap (λ l. bits_of bytes.items ++ l) (sym (ap (λ (n : ℕ). number_bits n c.self-2.inside.pending) none
          ∙ number_bits-none c.self-2.inside.pending))
          ∙ c.loop-count.invariant.bits_are ∙ ap (λ l. c.args.self ++ l) (number_bits-zeros zeros);
    }
