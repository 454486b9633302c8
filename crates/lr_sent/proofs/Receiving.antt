-- The frames that a lock finds in the symbols of blocks, their windows, and what becomes of them.
use Rattle.std.proofs.Common.{◌≡◌, ◌⊎◌, inl, inr, ℕ, zero, suc, ◌+◌, ◌*◌, ◌<◌, ◌≤◌, Bool, true, false, not, ℤ, pos}
use Rattle.std.proofs.Common.{Option, None, Some, List, [], ◌∷◌, ◌++◌, length, take, drop, get_or, map, replicate}
use Rattle.std.proofs.Common.{refl, sym, ap, ap₂, subst, ◌∙◌, arith, append-nil, append_assoc, length-append}
use Rattle.std.proofs.lemmas.List.{drop_at, drop-drop, drop-map, get_or-drop, get_or_append_left, length-map}
use Rattle.std.proofs.lemmas.List.{map-append, take_at, take-map}
use Rattle.std.proofs.lemmas.List.FromFn.{fill_by_all}
use Rattle.std.proofs.lemmas.List.Elements.{All-cons, All-head, All-nil, All-tail}
use Rattle.std.specs.List.{All}
use Rattle.lr_bits.specs.declared.outcome.Outcome.{Outcome}
use Rattle.lr_bits.specs.declared.outcome.Outcome.TheVariants.{Restored}
use Rattle.lr_bits.specs.declared.sizes.TheConstants.{FRAME_SYMBOLS, WINDOW_SYMBOLS}
use Rattle.lr_block.specs.Outcomes.{IsBlock, outcome_of_block}
use Rattle.lr_block.specs.Blocks.{changes_of}
use Rattle.lr_block.specs.Randomiser.{randomised_block}
use Rattle.lr_block.proofs.Sequence.{randomised_block-randomised_block}
use Rattle.lr_block.proofs.Outcomes as outcomes_of
use Rattle.lr_conv.specs.Convolution.{code}
use Rattle.lr_conv.specs.Levels.{levels, six_zeros}
use Rattle.lr_conv.specs.Marker.{marker, marker_start, tail_of}
use Rattle.lr_conv.specs.declared.line.LineCode.{LineCode}
use Rattle.lr_conv.specs.declared.marker.TheConstants.{MARKER_SYMBOLS, TAIL_SYMBOLS}
use Rattle.lr_conv.proofs.Tails.{tail_size}
use Rattle.lr_trellis.specs.Path.{bytes_of_bits, nearest_path}
use Rattle.lr_lock.specs.Frames.{AreNext, IsHeld, IsNext, last_of}
use Rattle.lr_lock.specs.Hits.{agreeing, hits}
use Rattle.lr_lock.specs.Windows.{turned_value, window_of, window_value}
use Rattle.lr_lock.specs.declared.frame.Frame.{Frame}
use Rattle.lr_lock.specs.declared.sizes.TheConstants.{TAIL_START}
use Rattle.lr_lock.proofs.Stepping.{reach}
use Rattle.lr_frame.specs.Outcomes.{outcome_in}
use Rattle.lr_frame.proofs.Given.{all_plain}
use Rattle.lr_make.specs.Symbols.{bits_of_bytes, level}
use Rattle.lr_sent.specs.Sent.{bits_of_blocks, symbols_of_blocks, AreRestored, AreSentFor, BlocksAreReceived, IsFrame}
use Rattle.lr_sent.specs.Sent.{IsSentFor, SentIsReceived}
use Rattle.lr_sent.proofs.Carrying.{All_right}
use Rattle.lr_sent.proofs.BytesBack.{bytes_back}
use Rattle.lr_sent.proofs.Nearest.{length-path_code, nearest_is_sent, path_code, path_code-front}
use Rattle.lr_sent.proofs.Splitting.{bits-append, bits-cons, bits-none, length-bits, length-block_bits, length-sent}
use Rattle.lr_sent.proofs.Splitting.{tail_behind, turns}
use Rattle.lr_sent.proofs.Turning.{turned, length-turned, turned-append}

All_left : {X : Type 0} (P : X → Type 0) (xs ys : List X) → All P (xs ++ ys) → All P xs
All_left P [] ys h = All-nil P
All_left P (x ∷ xs) ys h = All-cons P x xs (All-head P x (xs ++ ys) h) (All_left P xs ys (All-tail P x (xs ++ ys) h))

-- ---- levels, turned or not, and the polarity that turns them back

-- levels agree with their bits
agreeing-turned : (turn : Bool) (bits : List Bool) (more : List ℤ) →
    agreeing (not turn) bits (map level (turned turn bits) ++ more) ≡ length bits
agreeing-turned true [] more = refl
agreeing-turned true (true ∷ bits) more = omega (arith, agreeing-turned true bits more)
agreeing-turned true (false ∷ bits) more = omega (arith, agreeing-turned true bits more)
agreeing-turned false [] more = refl
agreeing-turned false (true ∷ bits) more = omega (arith, agreeing-turned false bits more)
agreeing-turned false (false ∷ bits) more = omega (arith, agreeing-turned false bits more)

-- a level comes back, and so does the 0 past the end
value_back : (turn : Bool) (bits : List Bool) (i : ℕ) →
    turned_value (not turn) (get_or (map level (turned turn bits)) i (pos 0)) ≡ get_or (map level bits) i (pos 0)
value_back true [] i = refl
value_back true (true ∷ bits) zero = refl
value_back true (false ∷ bits) zero = refl
value_back true (bit ∷ bits) (suc i) = value_back true bits i
value_back false [] i = refl
value_back false (true ∷ bits) zero = refl
value_back false (false ∷ bits) zero = refl
value_back false (bit ∷ bits) (suc i) = value_back false bits i

-- zeros at the end are read past the end
get_or-zeros : (values : List ℤ) (n i : ℕ) → get_or (values ++ replicate n (pos 0)) i (pos 0) ≡ get_or values i (pos 0)
get_or-zeros [] zero i = refl
get_or-zeros [] (suc n) zero = refl
get_or-zeros [] (suc n) (suc i) = get_or-zeros [] n i
get_or-zeros (value ∷ values) n zero = refl
get_or-zeros (value ∷ values) n (suc i) = get_or-zeros values n i

-- nothing comes next where the symbols end after the last frame
none_next : (tail : List Bool) (symbols : List ℤ) (last : Option Frame) (frame : Frame) → length symbols ≤ reach last →
    IsNext tail symbols last frame → ⊥
none_next tail symbols None frame h (inl next) = next
none_next tail symbols None frame h (inr next) = absurd (omega (arith, next.2.whole))
none_next tail symbols (Some last) frame h (inl (inl next)) = absurd (omega (arith, next.place, next.whole))
none_next tail symbols (Some last) frame h (inl (inr next)) = absurd (omega (arith, next.place, next.whole))
none_next tail symbols (Some last) frame h (inr next) = absurd (omega (arith, next.1.0.whole))

-- ---- a window

-- a window shows these levels, and 0 past their end
window_is : (symbols : List ℤ) (place : ℕ) (turn : Bool) (bits : List Bool) (values : List ℤ)
    → length values ≡ WINDOW_SYMBOLS
    → ((i : ℕ) → i < WINDOW_SYMBOLS → get_or (drop (place + MARKER_SYMBOLS) symbols) i (pos 0)
    ≡ get_or (map level (turned turn bits)) i (pos 0))
    → ((i : ℕ) → get_or values i (pos 0) ≡ get_or (map level bits) i (pos 0))
    → window_of symbols place (not turn) ≡ values
unfolding window_of
window_is symbols place turn bits values size behind same =
    sym (fill_by_all (window_value symbols place (not turn)) values WINDOW_SYMBOLS (pos 0) size
    (λ i h. same i ∙ sym (value_back turn bits i) ∙ ap (turned_value (not turn))
    (sym (behind i h) ∙ get_or-drop (place + MARKER_SYMBOLS) symbols i (pos 0))))

module _ (line : LineCode) (symbols : List ℤ) (place : ℕ) (turn : Bool) (bits : List Bool)
    (size : length bits ≡ 8160) where
  -- that of the last frame
  window_at_end : drop (place + MARKER_SYMBOLS) symbols ≡ map level (turned turn (path_code line bits)) →
      window_of symbols place (not turn) ≡ map level (path_code line bits) ++ replicate 12 (pos 0)
  window_at_end behind =
      let sent : List Bool = path_code line bits in
      window_is symbols place turn sent (map level sent ++ replicate 12 (pos 0))
      (omega (
        arith,
        length-append (map level sent) (replicate 12 (pos 0)),
        length-map sent level,
        length-path_code line bits,
      ))
      (λ i h. ap (λ z. get_or z i (pos 0)) behind)
      (λ i. get_or-zeros (map level sent) 12 i)

  -- that of one with a marker after it
  window_within : (more : List Bool) →
      drop (place + MARKER_SYMBOLS) symbols ≡ map level (turned turn (path_code line (bits ++ (marker_start ++ more))))
      → window_of symbols place (not turn) ≡ map level (path_code line (bits ++ marker_start))
  window_within more behind =
      let both : List Bool = bits ++ marker_start in
      let sent : List Bool = path_code line both in
      let front = path_code-front line both more in
      let long : length sent ≡ WINDOW_SYMBOLS =
      omega (arith, length-path_code line both, length-append bits marker_start) in
      let whole : drop (place + MARKER_SYMBOLS) symbols ≡ map level (turned turn sent) ++ map level
      (turned turn front.0) =
      behind ∙ ap (λ z. map level (turned turn (path_code line z))) (sym (append_assoc bits marker_start more))
      ∙ ap (λ z. map level (turned turn z)) front.1 ∙ ap (map level) (turned-append turn sent front.0)
      ∙ map-append level (turned turn sent) (turned turn front.0) in
      window_is symbols place turn sent (map level sent) (length-map sent level ∙ long)
      (λ i h. ap (λ z. get_or z i (pos 0)) whole
      ∙ get_or_append_left (map level (turned turn sent)) (map level (turned turn front.0)) (pos 0) i
      (omega (arith, length-map (turned turn sent) level, length-turned turn sent, long)))
      (λ i. refl)

-- a window of a block, with what follows it, is read as the block
block_is_read : (line : LineCode) (block : List ℕ) (window : List ℤ) → IsBlock block → length window ≡ WINDOW_SYMBOLS
    → take 16320 window ≡ map level (path_code line (bits_of_bytes block))
    → (drop 16320 window ≡ map level (drop 16320 (path_code line (bits_of_bytes block ++ marker_start)))) ⊎
    (drop 16320 window ≡ replicate 12 (pos 0))
    → bytes_of_bits (nearest_path line window) ≡ block
block_is_read line block window whole size front back =
    let bits : List Bool = bits_of_bytes block in
    let twice : 16320 ≡ 2 * length bits = omega (arith, length-block_bits block whole.long) in
    let path : nearest_path line window ≡ bits =
    nearest_is_sent line bits window (omega arith)
    (subst (λ n. take n window ≡ map level (path_code line bits)) twice front)
    (subst (λ n. (drop n window ≡ map level (drop n (path_code line (bits ++ marker_start)))) ⊎
    (drop n window ≡ replicate 12 (pos 0))) twice back) in
    ap bytes_of_bits path ∙ bytes_back block (λ i l. whole.bytes i (omega (arith, whole.long)))

-- ---- the frames

-- how many symbols are after these blocks, and the frame of the next one
abbrev frame_after_blocks : LineCode → List (List ℕ) → Frame
frame_after_blocks line before =
    record { place = FRAME_SYMBOLS * length before; positive = not (turns line (bits_of_blocks before)); misses = 0 }

-- the frames of blocks, after other blocks
abbrev frames_of_blocks : LineCode → List (List ℕ) → List (List ℕ) → List Frame
frames_of_blocks line before [] = []
frames_of_blocks line before (block ∷ later) =
    frame_after_blocks line before ∷ frames_of_blocks line (before ++ block ∷ []) later

module _ (line : LineCode) (before : List (List ℕ)) (block : List ℕ) (later : List (List ℕ))
    (whole : All IsBlock (before ++ block ∷ later)) where
  abbrev all : List ℤ
  all = symbols_of_blocks line (before ++ block ∷ later)

  abbrev place : ℕ
  place = FRAME_SYMBOLS * length before

  abbrev turn : Bool
  turn = turns line (bits_of_blocks before)

  abbrev after : List Bool
  after = bits_of_bytes block ++ bits_of_blocks later

  fronts : All IsBlock before
  fronts = All_left IsBlock before (block ∷ later) whole

  this : IsBlock block
  this = All-head IsBlock block later (All_right IsBlock before (block ∷ later) whole)

  -- the marker's tail, and the code of what follows
  behind : drop (place + TAIL_START) all ≡ map level (turned turn (tail_of line))
      ++ map level (turned turn (path_code line after))
  unfolding symbols_of_blocks
  behind =
      let bits : List Bool = bits_of_blocks before in
      let places : place + TAIL_START ≡ 2 * length bits + 12 = omega (arith, length-bits before fronts) in
      let sent : bits_of_blocks (before ++ block ∷ later) ≡ bits ++ (marker ++ after) =
      bits-append before (block ∷ later) ∙ ap (λ z. bits ++ z) (bits-cons block later) in
      ap (λ z. drop (place + TAIL_START) (map level (code line six_zeros (levels line false z)))) sent
      ∙ drop-map level (place + TAIL_START) (code line six_zeros (levels line false (bits ++ (marker ++ after))))
      ∙ ap (λ p. map level (drop p (code line six_zeros (levels line false (bits ++ (marker ++ after)))))) places
      ∙ ap (map level) (tail_behind line bits after ∙ turned-append turn (tail_of line) (path_code line after))
      ∙ map-append level (turned turn (tail_of line)) (turned turn (path_code line after))

  seen : hits (tail_of line) all place (not turn) ≡ TAIL_SYMBOLS
  unfolding hits
  seen =
      ap (agreeing (not turn) (tail_of line)) behind
      ∙ agreeing-turned turn (tail_of line) (map level (turned turn (path_code line after))) ∙ tail_size line

  room : place + FRAME_SYMBOLS ≤ length all
  room = omega (arith, length-sent line (before ++ block ∷ later) whole, length-append before (block ∷ later))

  first_frame : length before ≡ 0 → IsNext (tail_of line) all None (frame_after_blocks line before)
  first_frame start =
      inr (
        0,
        refl,
        record {
          from = omega arith;
          first = λ p h k. absurd (omega (arith, start));
          whole = omega (arith, room);
          locked = omega (arith, seen);
          misses = refl;
        },
      )

  held_frame : (last : Frame) → last.place + FRAME_SYMBOLS ≡ place
      → IsHeld (tail_of line) all last (frame_after_blocks line before)
  held_frame last next = record {
    place = omega (arith, next);
    whole = omega (arith, room);
    seen =
        omega (arith, seen);
    misses = refl;
  }

  -- what is after the marker
  after_marker : drop (place + MARKER_SYMBOLS) all ≡ map level (turned turn (path_code line after))
  after_marker =
      let tail : List ℤ = map level (turned turn (tail_of line)) in
      let code : List ℤ = map level (turned turn (path_code line after)) in
      let places : place + MARKER_SYMBOLS ≡ place + TAIL_START + TAIL_SYMBOLS = omega arith in
      ap (λ p. drop p all) places ∙ sym (drop-drop TAIL_SYMBOLS (place + TAIL_START) all)
      ∙ ap (drop TAIL_SYMBOLS) behind
      ∙ drop_at tail code TAIL_SYMBOLS (length-map (turned turn (tail_of line)) level
      ∙ length-turned turn (tail_of line)
      ∙ tail_size line)

  read_by : (bits : List Bool) → bits_of_blocks later ≡ bits →
      (bits ≡ []) ⊎ ((more : List Bool) × (bits ≡ marker_start ++ more)) →
      bytes_of_bits (nearest_path line (window_of all place (not turn))) ≡ block
  read_by bits are (inl none) =
      let own : List Bool = bits_of_bytes block in
      let sent : List ℤ = map level (path_code line own) in
      let zeros : List ℤ = replicate 12 (pos 0) in
      let long : length sent ≡ 16320 =
      omega (
        arith,
        length-map (path_code line own) level,
        length-path_code line own,
        length-block_bits block this.long,
      ) in
      let window : window_of all place (not turn) ≡ sent ++ zeros =
      window_at_end line all place turn own (length-block_bits block this.long)
      (after_marker ∙ ap (λ z. map level (turned turn (path_code line z))) (ap (λ z. own ++ z) (are ∙ none)
      ∙ append-nil own)) in
      block_is_read line block (window_of all place (not turn)) this
      (ap length window ∙ omega (arith, long, length-append sent zeros))
      (ap (take 16320) window ∙ take_at sent zeros 16320 long)
      (inr (ap (drop 16320) window ∙ drop_at sent zeros 16320 long))
  read_by bits are (inr begun) =
      let own : List Bool = bits_of_bytes block in
      let both : List Bool = path_code line (own ++ marker_start) in
      let front = path_code-front line own marker_start in
      let long : length (path_code line own) ≡ 16320 =
      omega (arith, length-path_code line own, length-block_bits block this.long) in
      let window : window_of all place (not turn) ≡ map level both =
      window_within line all place turn own (length-block_bits block this.long) begun.0
      (after_marker ∙ ap (λ z. map level (turned turn (path_code line (own ++ z)))) (are ∙ begun.1)) in
      block_is_read line block (window_of all place (not turn)) this
      (ap length window ∙ omega (
        arith,
        length-map both level,
        length-path_code line (own ++ marker_start),
        length-append own marker_start,
        length-block_bits block this.long,
      ))
      (ap (take 16320) window ∙ take-map level 16320 both ∙ ap (λ z. map level (take 16320 z)) front.1
      ∙ ap (map level) (take_at (path_code line own) front.0 16320 long))
      (inl (ap (drop 16320) window ∙ drop-map level 16320 both))

  outcome_is : outcome_in line all (frame_after_blocks line before) ≡ outcome_of_block block
  unfolding Rattle.lr_frame.specs.Outcomes.outcome_of_window
  outcome_is = ap outcome_of_block (read_by (bits_of_blocks later) refl (begins later))
    where
      begins : (blocks : List (List ℕ)) →
          (bits_of_blocks blocks ≡ []) ⊎ ((more : List Bool) × (bits_of_blocks blocks ≡ marker_start ++ more))
      begins [] = inl bits-none
      begins (next ∷ blocks) = inr (
        drop 6 marker ++ (bits_of_bytes next ++ bits_of_blocks blocks),
        bits-cons next blocks,
      )

-- ---- all frames

module _ (line : LineCode) (blocks : List (List ℕ)) (whole : All IsBlock blocks) where
  abbrev sent : List ℤ
  sent = symbols_of_blocks line blocks

  next_frame : (before : List (List ℕ)) (block : List ℕ) (later : List (List ℕ)) → before ++ block ∷ later ≡ blocks →
      (last : Option Frame) → reach last ≡ FRAME_SYMBOLS * length before →
      IsNext (tail_of line) sent last (frame_after_blocks line before)
  next_frame before block later e None reached =
      subst (λ bs. IsNext (tail_of line) (symbols_of_blocks line bs) None (frame_after_blocks line before)) e
      (first_frame line before block later (subst (All IsBlock) (sym e) whole) (omega (arith, reached)))
  next_frame before block later e (Some last) reached =
      subst (λ bs. IsNext (tail_of line) (symbols_of_blocks line bs) (Some last) (frame_after_blocks line before)) e
      (inl (inl (held_frame line before block later (subst (All IsBlock) (sym e) whole) last (omega (arith, reached)))))

  -- these frames follow the last one, and no other does
  abbrev AreAllAfter : Option Frame → List Frame → Type 0
  AreAllAfter last frames =
      AreNext (tail_of line) sent last frames
      × ((frame : Frame) → IsNext (tail_of line) sent (last_of last frames) frame → ⊥)

  all_after : (before later : List (List ℕ)) → before ++ later ≡ blocks → (last : Option Frame) →
      reach last ≡ FRAME_SYMBOLS * length before → AreAllAfter last (frames_of_blocks line before later)
  all_after before [] e last reached =
      let long : length sent ≡ FRAME_SYMBOLS * length before =
      length-sent line blocks whole ∙ ap (λ bs. FRAME_SYMBOLS * length bs) (sym e ∙ append-nil before) in
      (tt, λ frame. none_next (tail_of line) sent last frame (omega (arith, long, reached)))
  all_after before (block ∷ later) e last reached =
      let rest =
      all_after (before ++ block ∷ []) later (append_assoc before (block ∷ []) later ∙ e)
      (Some (frame_after_blocks line before)) (omega (arith, length-append before (block ∷ []))) in
      ((next_frame before block later e last reached, rest.0), rest.1)

  outcomes : (before later : List (List ℕ)) → before ++ later ≡ blocks →
      map (outcome_in line sent) (frames_of_blocks line before later) ≡ map outcome_of_block later
  outcomes before [] e = refl
  outcomes before (block ∷ later) e =
      let here : outcome_in line sent (frame_after_blocks line before) ≡ outcome_of_block block =
      subst (λ bs. outcome_in line (symbols_of_blocks line bs) (frame_after_blocks line before)
      ≡ outcome_of_block block) e
      (outcome_is line before block later (subst (All IsBlock) (sym e) whole)) in
      ap₂ (λ (o : Outcome) (os : List Outcome). o ∷ os) here
      (outcomes (before ++ block ∷ []) later (append_assoc before (block ∷ []) later ∙ e))

pub blocks_are_received : BlocksAreReceived
blocks_are_received line blocks whole =
    let all = all_after line blocks whole [] blocks refl None refl in
    all_plain line (symbols_of_blocks line blocks) (frames_of_blocks line [] blocks)
    (record { next = all.0; all = all.1 })
    ∙ outcomes line blocks whole [] blocks refl

-- ---- blocks that are sent for frames

module _ (frame block : List ℕ) (each : IsSentFor frame block) where
  restored : IsFrame frame (outcome_of_block block)
  restored =
      let plain : List ℕ = randomised_block block in
      let is : outcome_of_block block ≡ Restored (record { 0 = changes_of plain each.encoded }) frame =
      ap outcome_of_block (sym (randomised_block-randomised_block block each.whole.long))
      ∙ outcomes_of.sent_is_received frame each.encoded plain each.is
      (outcomes_of.randomised_is_block block each.whole) each.near in
      subst (IsFrame frame) (sym is) refl

all_blocks : (frames blocks : List (List ℕ)) → AreSentFor frames blocks → All IsBlock blocks
all_blocks [] [] each = All-nil IsBlock
all_blocks [] (block ∷ blocks) each = absurd each
all_blocks (frame ∷ frames) [] each = absurd each
all_blocks (frame ∷ frames) (block ∷ blocks) each =
    All-cons IsBlock block blocks each.0.whole (all_blocks frames blocks each.1)

all_restored : (frames blocks : List (List ℕ)) → AreSentFor frames blocks
    → AreRestored frames (map outcome_of_block blocks)
all_restored [] [] each = tt
all_restored [] (block ∷ blocks) each = absurd each
all_restored (frame ∷ frames) [] each = absurd each
all_restored (frame ∷ frames) (block ∷ blocks) each = (restored frame block each.0, all_restored frames blocks each.1)

pub sent_is_received : SentIsReceived
sent_is_received line frames blocks each =
    subst (AreRestored frames) (sym (blocks_are_received line blocks (all_blocks frames blocks each)))
    (all_restored frames blocks each)
