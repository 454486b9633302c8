-- The files of a trial's symbols fit its shelf.
use Rattle.std.proofs.Common.{ℤ, ◌≡◌, ℕ, ◌+◌, ◌*◌, ◌<◌, ◌≤◌, false, List, [], ◌∷◌, map, length, replicate}
use Rattle.std.proofs.Common.{refl, sym, ◌∙◌, ap, arith}
use Rattle.std.proofs.Common.{append-nil}
use Rattle.std.specs.Int.{cast_unsigned, w8}
use Rattle.std.proofs.lemmas.List.{length-map}
use Rattle.std.proofs.lemmas.List.Sums.{sum_by-cons}
use Rattle.lr_bits.specs.declared.placed.Placed.{Placed}
use Rattle.lr_bits.specs.declared.sizes.TheConstants.{FRAME_SYMBOLS}
use Rattle.lr_conv.specs.Convolution.{code}
use Rattle.lr_conv.specs.declared.line.TheConstants.{STANDARD}
use Rattle.lr_conv.specs.declared.passes.Passes.TheVariants.{One}
use Rattle.lr_frame.specs.Outcomes.{outcomes_of_symbols, redecoded_outcomes}
use Rattle.lr_frame.proofs.Passing.{one_pass_of_all}
use Rattle.lr_layers.specs.Origins.{placed_of_outcomes}
use Rattle.lr_lock.specs.Symbols.{symbols_of}
use Rattle.lr_make.specs.Blocks.{block_at}
use Rattle.lr_make.specs.Frames.{frame_at}
use Rattle.lr_make.specs.Received.{IsReceivedAs}
use Rattle.lr_make.specs.Stream.{symbol_stream}
use Rattle.lr_make.specs.Symbols.{sent_bits, bytes_of_symbols}
use Rattle.lr_make.proofs.Sending.{length-all_symbols, symbols_are_one_code}
use Rattle.lr_sent.proofs.SymbolsBack.{levels_back}
use Rattle.lr_sent.proofs.MadeBlocks.{stream_is_received}
use Rattle.lr_sent.specs.Made.{made_outcomes, room_of_files, room_for_file}
use Rattle.lr_sent.proofs.MadeFiles.{placed_fit}
use Rattle.lr_shelf_format.specs.Items.{extent_of, head_of_item}
use Rattle.lr_shelf_format.specs.ShelfBytes.{end_of}
use Rattle.lr_shelf.specs.Append.{item_for}
use Rattle.lr_forms.specs.declared.forms.Output.TheVariants.{Symbols as AsSymbols}
use Rattle.lr_reading.specs.Inputs.{outcomes_of_bytes}
use Rattle.lr_cmd_receive.specs.Inputs.{files_of_bytes}
use Rattle.lr_cmd_receive.specs.Made.{made_bytes, test_frames}
use Rattle.lr_shelf.specs.InitialShelves.{with_files}
use Rattle.lr_cmd_receive.specs.Trial.{trial_capacity, trial_files}
use Rattle.lr_cmd_receive.proofs.Noted.{placed_are}

-- ---- symbols in bytes

-- the symbols of the made bytes are the stream's
symbols_made : (start wrong n : ℕ)
    → symbols_of (made_bytes AsSymbols (test_frames start n wrong)) ≡ symbol_stream start wrong n
unfolding made_bytes
symbols_made start wrong n =
    let one = symbols_are_one_code start wrong n in
    ap (λ s. symbols_of (bytes_of_symbols s)) one
    ∙ levels_back (code STANDARD (replicate 6 false) (sent_bits start wrong n)) ∙ sym one

pub made_length : (start wrong n : ℕ) → length (made_bytes AsSymbols (test_frames start n wrong)) ≡ FRAME_SYMBOLS * n
unfolding made_bytes
made_length start wrong n =
    length-map (symbol_stream start wrong n) (cast_unsigned w8) ∙ ap length (symbols_are_one_code start wrong n)
    ∙ length-all_symbols start wrong n

-- ---- the stream's outcomes, and their files

files_made : (start wrong n : ℕ) → ((k : ℕ) → k < n → IsReceivedAs wrong (frame_at start k) (block_at start wrong k))
    → trial_files (made_bytes AsSymbols (test_frames start n wrong))
    ≡ placed_of_outcomes (made_outcomes start wrong n)
unfolding files_of_bytes outcomes_of_bytes
files_made start wrong n received =
    let symbols : List ℤ = symbols_of (made_bytes AsSymbols (test_frames start n wrong)) in
    placed_are 0 (redecoded_outcomes STANDARD One symbols) ∙ ap placed_of_outcomes (one_pass_of_all STANDARD symbols)
    ∙ ap (λ s. placed_of_outcomes (outcomes_of_symbols STANDARD s)) (symbols_made start wrong n)
    ∙ ap placed_of_outcomes (stream_is_received start wrong n received)

-- each file takes its room on the shelf
room_is : (files : List Placed)
    → end_of (with_files [] files) ≡ 20 + room_of_files (map (λ placed. placed.file) files)
room_is [] = refl
room_is (placed ∷ files) =
    omega (
      arith,
      room_is files,
      sum_by-cons (λ item. extent_of (head_of_item item) + 1) (item_for placed) (map item_for files),
      sum_by-cons room_for_file placed.file (map (λ (p : Placed). p.file) files),
    )

sent_files_fit : (start wrong n : ℕ) → n ≤ 1024
    → end_of (with_files [] (placed_of_outcomes (made_outcomes start wrong n))) ≤ trial_capacity
sent_files_fit start wrong n few =
    let outcomes = made_outcomes start wrong n in
    omega (
      arith,
      few,
      room_is (placed_of_outcomes outcomes),
      placed_fit start wrong n outcomes [] (sym (append-nil outcomes)),
    )

pub made_files_fit : (start wrong n : ℕ) → n ≤ 1024
    → ((k : ℕ) → k < n → IsReceivedAs wrong (frame_at start k) (block_at start wrong k))
    → end_of (with_files [] (trial_files (made_bytes AsSymbols (test_frames start n wrong)))) ≤ trial_capacity
made_files_fit start wrong n few received =
    let fit = sent_files_fit start wrong n few in
    omega (arith, fit, ap (λ files. end_of (with_files [] files)) (files_made start wrong n received))
