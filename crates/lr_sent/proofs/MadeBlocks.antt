-- The blocks of the test stream, and what is received of them.
use Rattle.std.proofs.Common.{◌≡◌, ℕ, zero, suc, ◌+◌, ◌/◌, ◌<◌, Bool, unwrap_or, List, [], ◌∷◌, ◌++◌, get_or, map}
use Rattle.std.proofs.Common.{inl, inr, refl, sym, ap, ap₂, ◌∙◌, arith, add-one, append-nil, zero-add, replicate}
use Rattle.std.specs.Prelude.{All}
use Rattle.std.specs.List.{range_with_len}
use Rattle.std.proofs.lemmas.List.Elements.{All-from_recursion}
use Rattle.std.proofs.lemmas.List.FromFn.{map-range_with_len_more}
use Rattle.std.proofs.lemmas.Nat.{xor_lt}
use Rattle.lr_bits.specs.declared.outcome.Outcome.{Outcome}
use Rattle.lr_bits.specs.declared.outcome.Outcome.TheVariants.{Restored}
use Rattle.lr_bits.specs.declared.sizes.TheConstants.{BLOCK_BYTES}
use Rattle.lr_block.specs.Outcomes.{IsBlock, all_lists, outcome_of_block}
use Rattle.lr_block.specs.Randomiser.{sequence_byte}
use Rattle.lr_block.proofs.Searching.{cases_find, from-all_lists}
use Rattle.lr_block.proofs.Sequence.{get_or-randomised_block, sequence_byte-lt}
use Rattle.lr_conv.specs.Convolution.{code}
use Rattle.lr_conv.specs.Levels.{six_zeros}
use Rattle.lr_conv.specs.declared.line.TheConstants.{STANDARD}
use Rattle.lr_frame.specs.Outcomes.{outcomes_of_symbols}
use Rattle.lr_vc.proofs.Lists.{Each-map, Each_any}
use Rattle.lr_make.specs.Blocks.{is_encoded, encoded_block, damaged_block, block_at}
use Rattle.lr_make.specs.Frames.{frame_at}
use Rattle.lr_make.specs.Received.{IsReceivedAs}
use Rattle.lr_make.specs.Stream.{symbol_stream}
use Rattle.lr_make.specs.Symbols.{bits_of_bytes, level, marked_block, sent_bits}
use Rattle.lr_make.proofs.Receiving.{damaged_is_byte, get_or-damaged_block, is_wrong}
use Rattle.lr_make.proofs.Sending.{length-block_at, symbols_are_one_code}
use Rattle.lr_sent.specs.Made.{StreamIsReceived}
use Rattle.lr_sent.specs.Sent.{bits_of_blocks, symbols_of_blocks}
use Rattle.lr_sent.proofs.Receiving.{blocks_are_received}
use Rattle.lr_sent.proofs.Splitting.{bits-append}

-- ---- they are blocks

encoded_block_bytes : (frame : List ℕ) (i : ℕ) → i < BLOCK_BYTES → get_or (encoded_block frame) i 0 < 256
unfolding encoded_block
encoded_block_bytes frame i h =
    elim (cases_find (is_encoded frame) (all_lists 256 BLOCK_BYTES)) [
      | inl none ↦ omega (arith, ap (λ z. get_or (unwrap_or z []) i 0) none.0)
      | inr some ↦ omega (
        arith,
        ap (λ z. get_or (unwrap_or z []) i 0) some.1,
        (from-all_lists 256 BLOCK_BYTES some.0 some.2).1 i h,
      )
    ]

block_bytes : (start wrong k i : ℕ) → i < BLOCK_BYTES → get_or (block_at start wrong k) i 0 < 256
unfolding block_at
block_bytes start wrong k i h =
    let encoded : List ℕ = encoded_block (frame_at start k) in
    let damaged : get_or (damaged_block wrong encoded) i 0 < 256 =
    omega (
      arith,
      get_or-damaged_block wrong encoded i h,
      damaged_is_byte wrong (i / 4) (get_or encoded i 0) (is_wrong wrong (i / 4)) refl
          (encoded_block_bytes (frame_at start k) i h),
    ) in
    omega (
      arith,
      get_or-randomised_block (damaged_block wrong encoded) i h,
      xor_lt 8 (get_or (damaged_block wrong encoded) i 0) (sequence_byte i) damaged (sequence_byte-lt i),
    )

-- the first blocks
abbrev made_blocks : ℕ → ℕ → ℕ → List (List ℕ)
made_blocks start wrong n = map (block_at start wrong) (range_with_len 0 n)

all_blocks : (start wrong n : ℕ) → All IsBlock (made_blocks start wrong n)
all_blocks start wrong n =
    All-from_recursion IsBlock (made_blocks start wrong n)
    (Each-map IsBlock (block_at start wrong) (range_with_len 0 n)
    (Each_any (λ k. IsBlock (block_at start wrong k))
    (λ k. record { long = length-block_at start wrong k; bytes = block_bytes start wrong k }) (range_with_len 0 n)))

-- ---- their symbols are the stream's

sent_bits-are : (start wrong n : ℕ) → sent_bits start wrong n ≡ bits_of_blocks (made_blocks start wrong n)
unfolding sent_bits bits_of_blocks
sent_bits-are start wrong zero = refl
sent_bits-are start wrong (suc n) =
    let own : List Bool = bits_of_bytes (marked_block (block_at start wrong n)) in
    let more : made_blocks start wrong (suc n) ≡ made_blocks start wrong n ++ block_at start wrong n ∷ [] =
    ap (made_blocks start wrong) (sym (add-one n))
    ∙ map-range_with_len_more (block_at start wrong) 0 n n (zero-add n) in
    ap₂ (λ x y. x ++ y) (sent_bits-are start wrong n) (sym (append-nil own))
    ∙ sym (ap bits_of_blocks more ∙ bits-append (made_blocks start wrong n) (block_at start wrong n ∷ []))

symbols-are : (start wrong n : ℕ) → symbol_stream start wrong n ≡ symbols_of_blocks STANDARD (made_blocks start wrong n)
unfolding symbols_of_blocks
symbols-are start wrong n =
    symbols_are_one_code start wrong n
    ∙ ap (λ bits. map level (code STANDARD six_zeros bits)) (sent_bits-are start wrong n)

-- ---- and are received

received_each : (start wrong a n : ℕ) →
    ((k : ℕ) → k < a + n → IsReceivedAs wrong (frame_at start k) (block_at start wrong k)) →
    map outcome_of_block (map (block_at start wrong) (range_with_len a n))
    ≡ map (λ k. Restored (record { 0 = replicate 4 wrong }) (frame_at start k)) (range_with_len a n)
received_each start wrong a zero received = refl
received_each start wrong a (suc n) received =
    ap₂ (λ (o : Outcome) (os : List Outcome). o ∷ os) (received a (omega arith))
    (received_each start wrong (a + 1) n (λ k h. received k (omega arith)))

pub stream_is_received : StreamIsReceived
stream_is_received start wrong n received =
    ap (outcomes_of_symbols STANDARD) (symbols-are start wrong n)
    ∙ blocks_are_received STANDARD (made_blocks start wrong n) (all_blocks start wrong n)
    ∙ received_each start wrong 0 n (λ k h. received k (omega arith))
