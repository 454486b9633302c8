use Rattle.std.proofs.Common.{◌≡◌, ◌+◌, ◌-◌, ◌*◌, ◌/◌, ◌%◌, ◌^◌, ◌<◌, ◌++◌, ℕ, List, ap, ◌∙◌, arith}
use Rattle.std.specs.Int.{to_be_bytes, w32}
use Rattle.std.proofs.lemmas.Nat.{one_shl, shl_whole, shr_below}
use Rattle.lr_bits.specs.Bits.{bits_of, number_bits}
use Rattle.lr_rice_coder.proofs.WriterLemmas.{pending_fits, pending_put, word_put}
use Rattle.lr_rice_coder.proofs.writer.BitWriter.number.Goals as goal

pub invariant_of-self : goal.invariant_of-self
invariant_of-self c =
    let w = c.self.inside in
    let whole = shl_whole w.pending w.count c.args.width 64 c.self.invariant.1 (omega (arith, c.self.invariant.0)) in (
      c.if-count-lt-WORD_BITS.true,
      omega (
        arith,
        whole,
        pending_fits w.count w.pending c.args.width c.args.number c.self.invariant.1
            c.requires.fits,
      ),
    )

pub returns-then-count-lt-WORD_BITS : goal.returns-then-count-lt-WORD_BITS
returns-then-count-lt-WORD_BITS c =
    let w = c.self.inside in
    let whole = shl_whole w.pending w.count c.args.width 64 c.self.invariant.1 (omega (arith, c.self.invariant.0)) in
    ap (λ (n : ℕ). bits_of w.bytes.items ++ number_bits (w.count + c.args.width) (n + c.args.number)) whole
    ∙ pending_put (bits_of w.bytes.items) w.count w.pending c.args.width c.args.number c.requires.fits
    ∙ ap (λ l. l ++ number_bits c.args.width c.args.number) c.self.view_is

pub overflow_cast-word-2 : goal.overflow_cast-word-2
overflow_cast-word-2 c =
    let w = c.self.inside in
    let whole = shl_whole w.pending w.count c.args.width 64 c.self.invariant.1 (omega (arith, c.self.invariant.0)) in
    let rest = w.count + c.args.width - 32 in
    let pending = w.pending * 2 ^ c.args.width % 2 ^ 64 + c.args.number in
    let size : 32 + rest ≡ w.count + c.args.width = omega (arith, c.if-count-lt-WORD_BITS.false) in
    let fits : pending < 2 ^ (32 + rest) =
    omega (
      arith,
      whole,
      pending_fits w.count w.pending c.args.width c.args.number c.self.invariant.1 c.requires.fits,
      ap (λ (n : ℕ). 2 ^ n) size,
    ) in
    omega (arith, shr_below pending 32 rest fits)

pub returns : goal.returns
returns c =
    let w = c.self.inside in
    let whole = shl_whole w.pending w.count c.args.width 64 c.self.invariant.1 (omega (arith, c.self.invariant.0)) in
    let rest = w.count + c.args.width - 32 in
    let pending = w.pending * 2 ^ c.args.width % 2 ^ 64 + c.args.number in
    let one : 1 * 2 ^ rest % 2 ^ 64 ≡ 2 ^ rest = one_shl rest 64 (omega (arith, c.self.invariant.0)) in
    let size : 32 + rest ≡ w.count + c.args.width = omega (arith, c.if-count-lt-WORD_BITS.false) in
    ap (λ (l : List ℕ). bits_of l ++ number_bits rest (pending % (1 * 2 ^ rest % 2 ^ 64)))
    (c.in_ok-extend_from_slice.ensures.items
    ∙ ap (λ (l : List ℕ). w.bytes.items ++ l) c.to_be_bytes.ensures)
    ∙ ap (λ (n : ℕ). bits_of (w.bytes.items ++ to_be_bytes w32 (pending / 2 ^ rest))
    ++ number_bits rest (pending % n)) one
    ∙ word_put w.bytes.items rest pending
    ∙ ap (λ (n : ℕ). bits_of w.bytes.items ++ number_bits n pending) size
    ∙ ap (λ (n : ℕ). bits_of w.bytes.items ++ number_bits (w.count + c.args.width) (n + c.args.number)) whole
    ∙ pending_put (bits_of w.bytes.items) w.count w.pending c.args.width c.args.number c.requires.fits
    ∙ ap (λ l. l ++ number_bits c.args.width c.args.number) c.self.view_is
