-- What is sent of one frame more.
use Rattle.std.proofs.Common.{◌≡◌, ℕ, zero, suc, ◌+◌, ◌*◌, Bool, false, ℤ, List, ◌++◌, length, map, drop, replicate}
use Rattle.std.proofs.Common.{refl, sym, ap, subst, ◌∙◌, arith, add-one, length-append}
use Rattle.std.proofs.lemmas.List.{drop-map, drop_at, length-map, map-append}
use Rattle.lr_bits.specs.declared.sizes.TheConstants.{BLOCK_BYTES, FRAME_SYMBOLS}
use Rattle.lr_conv.specs.Convolution.{code}
use Rattle.lr_conv.specs.LineEncoder.{LineEncoderStandsFor}
use Rattle.lr_conv.specs.declared.line.LineEncoder.{LineEncoder}
use Rattle.lr_conv.specs.declared.line.TheConstants.{STANDARD}
use Rattle.lr_block.specs.Randomiser.{randomised_block}
use Rattle.lr_block.proofs.Sequence.{length-randomised_block}
use Rattle.lr_make.specs.Frames.{frame_at}
use Rattle.lr_make.specs.Blocks.{block_at, damaged_block, encoded_block}
use Rattle.lr_make.specs.Symbols.{bits_of_bytes, marked_block, sent_bits, level, all_symbols, symbols_at}
use Rattle.lr_make.specs.Stream.{frame_stream, block_stream, symbol_stream, SymbolsAreOneCode}
use Rattle.lr_make.proofs.Coding.{bits_of_bytes-all, code-front, length-code, length-first_bits, line_code}

pub block_at-is : (start wrong n made_wrong : ℕ) (frame block : List ℕ) → frame ≡ frame_at start n → made_wrong ≡ wrong
    → block ≡ randomised_block (damaged_block made_wrong (encoded_block frame)) → block ≡ block_at start wrong n
unfolding block_at
block_at-is start wrong n made_wrong frame block f w b =
    b ∙ ap (λ z. randomised_block (damaged_block z (encoded_block frame))) w
    ∙ ap (λ z. randomised_block (damaged_block wrong (encoded_block z))) f

pub length-block_at : (start wrong n : ℕ) → length (block_at start wrong n) ≡ BLOCK_BYTES
unfolding block_at
length-block_at start wrong n = length-randomised_block (damaged_block wrong (encoded_block (frame_at start n)))

length-bits : (block : List ℕ) → length block ≡ BLOCK_BYTES → length (bits_of_bytes (marked_block block)) ≡ 8192
length-bits block e =
    sym (ap length (bits_of_bytes-all (marked_block block) 8192 (omega arith)))
    ∙ length-first_bits (marked_block block) 8192

pub sent_bits-more : (start wrong n : ℕ) →
    sent_bits start wrong (n + 1) ≡ sent_bits start wrong n ++ bits_of_bytes (marked_block (block_at start wrong n))
unfolding sent_bits
sent_bits-more start wrong n = rw add-one refl

pub length-sent_bits : (start wrong n : ℕ) → length (sent_bits start wrong n) ≡ 8192 * n
unfolding sent_bits
length-sent_bits start wrong zero = refl
length-sent_bits start wrong (suc n) =
    omega (
      arith,
      length-append (sent_bits start wrong n) (bits_of_bytes (marked_block (block_at start wrong n))),
      length-sent_bits start wrong n,
      length-bits (block_at start wrong n) (length-block_at start wrong n),
    )

-- an encoder takes the marker and a block more
pub stands-more : (encoder : LineEncoder) (start wrong n : ℕ) (block : List ℕ) → block ≡ block_at start wrong n
    → LineEncoderStandsFor encoder STANDARD (sent_bits start wrong n ++ bits_of_bytes (marked_block block))
    → LineEncoderStandsFor encoder STANDARD (sent_bits start wrong (n + 1))
stands-more encoder start wrong n block b s =
    subst (LineEncoderStandsFor encoder STANDARD)
    (ap (λ z. sent_bits start wrong n ++ bits_of_bytes (marked_block z)) b
    ∙ sym (sent_bits-more start wrong n)) s

pub symbols_at-is : (start wrong n : ℕ) (block : List ℕ) (symbols : List ℤ) → block ≡ block_at start wrong n
    → symbols ≡ map level (drop (2 * length (sent_bits start wrong n)) (line_code STANDARD
    (sent_bits start wrong n ++ bits_of_bytes (marked_block block))))
    → symbols ≡ symbols_at start wrong n
unfolding symbols_at
symbols_at-is start wrong n block symbols b s =
    let bits : List Bool = sent_bits start wrong n ++ bits_of_bytes (marked_block block) in
    let places : 2 * length (sent_bits start wrong n) ≡ FRAME_SYMBOLS * n =
    omega (arith, length-sent_bits start wrong n) in
    let all : bits ≡ sent_bits start wrong (n + 1) =
    ap (λ z. sent_bits start wrong n ++ bits_of_bytes (marked_block z)) b ∙ sym (sent_bits-more start wrong n) in
    s ∙ ap (λ k. map level (drop k (code STANDARD (replicate 6 false) bits))) places
    ∙ ap (λ z. map level (drop (FRAME_SYMBOLS * n) (code STANDARD (replicate 6 false) z))) all
    ∙ sym (drop-map level (FRAME_SYMBOLS * n) (code STANDARD (replicate 6 false) (sent_bits start wrong (n + 1))))

-- ---- the law

pub length-all_symbols : (start wrong n : ℕ) → length (all_symbols start wrong n) ≡ FRAME_SYMBOLS * n
length-all_symbols start wrong n =
    omega (
      arith,
      length-map (code STANDARD (replicate 6 false) (sent_bits start wrong n)) level,
      length-code STANDARD (replicate 6 false) (sent_bits start wrong n),
      length-sent_bits start wrong n,
    )

symbols_at-drop : (start wrong n : ℕ)
    → symbols_at start wrong n ≡ drop (FRAME_SYMBOLS * n) (all_symbols start wrong (n + 1))
unfolding symbols_at
symbols_at-drop start wrong n = refl

pub symbols_are_one_code : SymbolsAreOneCode
unfolding symbol_stream sent_bits
symbols_are_one_code start wrong zero = refl
symbols_are_one_code start wrong (suc n) =
    let zeros : List Bool = replicate 6 false in
    let more : List Bool = bits_of_bytes (marked_block (block_at start wrong n)) in
    let front = code-front STANDARD zeros (sent_bits start wrong n) more refl in
    let whole : all_symbols start wrong (suc n) ≡ all_symbols start wrong n ++ map level front.0 =
    ap (map level) front.1 ∙ map-append level (code STANDARD zeros (sent_bits start wrong n)) front.0 in
    let next : n + 1 ≡ suc n = add-one n in
    let last : symbols_at start wrong n ≡ map level front.0 =
    symbols_at-drop start wrong n ∙ ap (λ k. drop (FRAME_SYMBOLS * n) (all_symbols start wrong k)) next
    ∙ ap (drop (FRAME_SYMBOLS * n)) whole
    ∙ drop_at (all_symbols start wrong n) (map level front.0) (FRAME_SYMBOLS * n) (length-all_symbols start wrong n) in
    ap (λ z. z ++ symbols_at start wrong n) (symbols_are_one_code start wrong n)
    ∙ ap (λ z. all_symbols start wrong n ++ z) last ∙ sym whole

-- ---- the stream with one frame more

pub frame_stream-more : (start n : ℕ) → frame_stream start (n + 1) ≡ frame_stream start n ++ frame_at start n
unfolding frame_stream
frame_stream-more start n = rw add-one refl

pub block_stream-more : (start wrong n : ℕ) →
    block_stream start wrong (n + 1) ≡ block_stream start wrong n ++ block_at start wrong n
unfolding block_stream
block_stream-more start wrong n = rw add-one refl

pub symbol_stream-more : (start wrong n : ℕ) →
    symbol_stream start wrong (n + 1) ≡ symbol_stream start wrong n ++ symbols_at start wrong n
unfolding symbol_stream
symbol_stream-more start wrong n = rw add-one refl
