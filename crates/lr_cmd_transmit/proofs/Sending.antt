-- The symbols of frames, one frame after another, and of files, one file after another.
use Rattle.std.proofs.Common.{◌≡◌, ℕ, ◌+◌, ◌^◌, ◌<◌, ◌≤◌, ℤ, List, [], ◌∷◌, ◌++◌, length, take, drop}
use Rattle.std.proofs.Common.{get_or, refl, sym, ap, ◌∙◌, subst, arith, append-nil, append_assoc, length-append}
use Rattle.std.proofs.Common.{drop_at}
use Rattle.std.specs.Int.{cast_unsigned, w8}
use Rattle.std.proofs.lemmas.List.{length-map, length-take-le, map-append, take-append-drop, take_all, take_more}
use Rattle.lr_bits.specs.File.{File}
use Rattle.lr_conv.specs.declared.line.LineCode.{LineCode}
use Rattle.lr_io.specs.declared.sink.Sink.{Ghosts as SinkOf}
use Rattle.lr_make.specs.Received.{IsSentFor}
use Rattle.lr_make.specs.Symbols.{bytes_of_symbols}
use Rattle.lr_sent.specs.Sent.{symbols_of_blocks}
use Rattle.lr_causes.specs.Puts.{Puts, PutFails}
use Rattle.lr_causes.proofs.Joining.{puts_none, puts_both, fails_after, fails_before}
use Rattle.lr_uplink.specs.declared.uplink.Uplink.{Uplink}
use Rattle.lr_uplink.specs.Sent.{sent}
use Rattle.lr_uplink.specs.Standing.{History, UplinkStandsFor, with_block, with_frame}
use Rattle.lr_uplink.proofs.Coding.{symbols-front}
use Rattle.lr_uplink.proofs.UnderWay.{few_left, given_most}
use Rattle.lr_cmd_transmit.specs.Transmit.{block_for, blocks_for, frame_bytes}
use Rattle.lr_cmd_transmit.specs.Standing.{HasSent, IsUplinkAt, history_at, rest_bytes}

-- ---- bytes of frames

bytes-append : (x y : List ℤ) → bytes_of_symbols (x ++ y) ≡ bytes_of_symbols x ++ bytes_of_symbols y
bytes-append x y = map-append (cast_unsigned w8) x y

module _ (line : LineCode) (wrong : ℕ) where
  -- frames put a prefix of what these frames and more put
  pub frames-front : (frames later : List (List ℕ)) → (rest : List ℕ)
      × (frame_bytes line wrong (frames ++ later) ≡ frame_bytes line wrong frames ++ rest)
  unfolding frame_bytes
  frames-front frames later =
      let blocks = blocks_for wrong frames in
      let more = symbols-front line blocks (blocks_for wrong later) in (
        bytes_of_symbols more.0,
        ap (λ bs. bytes_of_symbols (symbols_of_blocks line bs)) (map-append (block_for wrong) frames later)
            ∙ ap bytes_of_symbols more.1 ∙ bytes-append (symbols_of_blocks line blocks) more.0,
      )

  -- one frame more
  frames-more : (frames : List (List ℕ)) (frame : List ℕ) (symbols : List ℤ)
      → symbols_of_blocks line (blocks_for wrong frames ++ block_for wrong frame ∷ [])
      ≡ symbols_of_blocks line (blocks_for wrong frames) ++ symbols
      → frame_bytes line wrong (frames ++ frame ∷ []) ≡ frame_bytes line wrong frames ++ bytes_of_symbols symbols
  unfolding frame_bytes
  frames-more frames frame symbols is =
      ap (λ bs. bytes_of_symbols (symbols_of_blocks line bs)) (map-append (block_for wrong) frames (frame ∷ []))
      ∙ ap bytes_of_symbols is ∙ bytes-append (symbols_of_blocks line (blocks_for wrong frames)) symbols

-- ---- the frames that are left of files

module _ {O : Type 0} (out : SinkOf O) (line : LineCode) (wrong : ℕ) (files : List File) (given : ℕ) where
  abbrev frames : List (List ℕ)
  frames = sent files

  -- what the first n frames put
  abbrev first_bytes : ℕ → List ℕ
  first_bytes n = frame_bytes line wrong (take n frames)

  -- this many frames more were given, sent and put
  pub record SoSent (n : ℕ) (uplink : Uplink) (o o1 : O) : Type 0 where
    pub at : IsUplinkAt line wrong files (given + n) uplink
    pub put : List ℕ
    pub adds : first_bytes (given + n) ≡ first_bytes given ++ put
    pub puts : Puts out put o o1

  pub so_none : (uplink : Uplink) (o : O) → IsUplinkAt line wrong files given uplink → SoSent 0 uplink o o
  so_none uplink o at =
      let none : given ≡ given + 0 = omega arith in
      record {
        at = subst (λ k. IsUplinkAt line wrong files k uplink) none at;
        put = [];
        adds = ap first_bytes (sym none) ∙ sym (append-nil (first_bytes given));
        puts = puts_none out o;
      }

  most : (n : ℕ) (uplink : Uplink) → IsUplinkAt line wrong files (given + n) uplink → given + n ≤ length frames
  most n uplink at = given_most uplink.counters uplink.sending files (given + n) at.frames

  pub blocks_given : (n : ℕ) → n ≤ length frames → length (blocks_for wrong (take n frames)) ≡ n
  blocks_given n inside = length-map (take n frames) (block_for wrong) ∙ length-take-le n frames inside

  module _ (n : ℕ) (uplink : Uplink) (o o1 : O) (so : SoSent n uplink o o1) where
    abbrev place : ℕ
    place = given + n

    abbrev history : History
    history = history_at wrong files place

    -- one more is left
    module _ (more : place < length frames) where
      next_frames : take (place + 1) frames ≡ take place frames ++ get_or frames place [] ∷ []
      next_frames = take_more frames place [] more

      -- the block that is sent next is the one that the uplink waits for
      pub next_stands : (frame block : List ℕ) → frame ≡ get_or frames place [] → IsSentFor frame block
          → (later : Uplink)
          → (length history.blocks < place + 1 → IsSentFor (get_or frames (length history.blocks) []) block
          → UplinkStandsFor later line (with_block (with_frame history) block))
          → UplinkStandsFor later line (with_block (with_frame history) block)
      next_stands frame block is sent later call =
          let given_all : length history.blocks ≡ place = blocks_given place (omega (arith, more)) in
          call (omega (arith, given_all))
          (subst (λ f. IsSentFor f block) (is ∙ ap (λ k. get_or frames k []) (sym given_all)) sent)

      module _ (frame block : List ℕ) (symbols : List ℤ) (is_frame : frame ≡ get_or frames place [])
          (is_block : block ≡ block_for wrong frame)
          (adds : symbols_of_blocks line (history.blocks ++ block ∷ [])
          ≡ symbols_of_blocks line history.blocks ++ symbols) where
        own : block ≡ block_for wrong (get_or frames place [])
        own = is_block ∙ ap (block_for wrong) is_frame

        next_bytes : first_bytes (place + 1) ≡ first_bytes place ++ bytes_of_symbols symbols
        next_bytes =
            ap (frame_bytes line wrong) next_frames
            ∙ frames-more line wrong (take place frames) (get_or frames place []) symbols
            (ap (λ b. symbols_of_blocks line (history.blocks ++ b ∷ [])) (sym own) ∙ adds)

        next_blocks : history.blocks ++ block ∷ [] ≡ blocks_for wrong (take (place + 1) frames)
        next_blocks =
            ap (λ b. history.blocks ++ b ∷ []) own
            ∙ sym (ap (blocks_for wrong) next_frames
            ∙ map-append (block_for wrong) (take place frames) (get_or frames place [] ∷ []))

        next_history : with_block (with_frame history) block ≡ history_at wrong files (given + (n + 1))
        next_history =
            let there : place + 1 ≡ given + (n + 1) = omega arith in
            ap (λ bs. record { files = files; given = place + 1; blocks = bs }) next_blocks
            ∙ ap (history_at wrong files) there

        pub one_more : (later : Uplink) → UplinkStandsFor later line (with_block (with_frame history) block)
            → (bytes : List ℕ) → bytes ≡ bytes_of_symbols symbols → (o2 : O) → Puts out bytes o1 o2
            → SoSent (n + 1) later o o2
        one_more later stands bytes is o2 puts =
            let there : place + 1 ≡ given + (n + 1) = omega arith in
            record {
              at = subst (UplinkStandsFor later line) next_history stands;
              put = so.put ++ bytes;
              adds =
                  ap first_bytes (sym there) ∙ next_bytes ∙ ap (λ l. l ++ bytes_of_symbols symbols) so.adds
                  ∙ append_assoc (first_bytes given) so.put (bytes_of_symbols symbols)
                  ∙ ap (λ l. first_bytes given ++ (so.put ++ l)) (sym is);
              puts = puts_both out so.put bytes o o1 o2 so.puts puts;
            }

        -- all that is left, with this frame in the middle
        module _ (bytes : List ℕ) (is : bytes ≡ bytes_of_symbols symbols) where
          later : (rest : List ℕ) × (frame_bytes line wrong frames ≡ first_bytes (place + 1) ++ rest)
          later =
              let front = frames-front line wrong (take (place + 1) frames) (drop (place + 1) frames) in (
                front.0,
                ap (frame_bytes line wrong) (sym (take-append-drop (place + 1) frames)) ∙ front.1,
              )

          whole : rest_bytes line wrong files given ≡ (so.put ++ bytes) ++ later.0
          whole =
              let middle : first_bytes (place + 1) ≡ first_bytes given ++ (so.put ++ bytes) =
              next_bytes ∙ ap (λ l. l ++ bytes_of_symbols symbols) so.adds
              ∙ append_assoc (first_bytes given) so.put (bytes_of_symbols symbols)
              ∙ ap (λ l. first_bytes given ++ (so.put ++ l)) (sym is) in
              let all : frame_bytes line wrong frames ≡ first_bytes given ++ ((so.put ++ bytes) ++ later.0) =
              later.1 ∙ ap (λ l. l ++ later.0) middle
              ∙ append_assoc (first_bytes given) (so.put ++ bytes) later.0 in
              ap (drop (length (first_bytes given))) all
              ∙ drop_at (first_bytes given) ((so.put ++ bytes) ++ later.0) (length (first_bytes given)) refl

          pub cut_here : (o2 : O) → PutFails out bytes o1 o2
              → PutFails out (rest_bytes line wrong files given) o o2
          cut_here o2 fails =
              subst (λ l. PutFails out l o o2) (sym whole)
              (fails_before out (so.put ++ bytes) later.0 o o2
              (fails_after out so.put bytes o o1 o2 so.puts fails))

          pub some_here : 0 < length bytes → 0 < length (rest_bytes line wrong files given)
          some_here some =
              omega (
                arith,
                some,
                ap length whole,
                length-append (so.put ++ bytes) later.0,
                length-append so.put bytes,
              )

    -- none is left
    module _ (none : place < length frames → ⊥) where
      all_given : given + n ≡ length frames
      all_given = omega (arith, most n uplink so.at, none)

      pub all_sent : HasSent line wrong files uplink
      all_sent = subst (λ k. IsUplinkAt line wrong files k uplink) all_given so.at

      pub all_put : Puts out (rest_bytes line wrong files given) o o1
      all_put =
          let all : frame_bytes line wrong frames ≡ first_bytes given ++ so.put =
          ap (frame_bytes line wrong) (sym (take_all place frames (omega (arith, all_given)))) ∙ so.adds in
          let rest : rest_bytes line wrong files given ≡ so.put =
          ap (drop (length (first_bytes given))) all
          ∙ drop_at (first_bytes given) so.put (length (first_bytes given)) refl in
          subst (λ l. Puts out l o o1) (sym rest) so.puts

  -- the loop has more turns than there are frames
  pub too_many : (n : ℕ) (before later : Uplink) (o o1 : O) → IsUplinkAt line wrong files given before
      → SoSent n later o o1 → 2 ^ 32 ≤ n → ⊥
  too_many n before later o o1 at so many =
      omega (
        arith,
        many,
        few_left before.counters before.sending files given at.frames,
        most n later so.at,
      )
