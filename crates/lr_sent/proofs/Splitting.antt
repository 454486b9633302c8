-- The symbols of blocks from one of their markers on.
use Rattle.std.proofs.Common.{◌≡◌, ℕ, zero, suc, ◌+◌, ◌-◌, ◌*◌, ◌/◌, ◌%◌, ◌≤◌, Bool, false, nat_eq, ◌&&◌, List, []}
use Rattle.std.proofs.Common.{◌∷◌, ◌++◌, length, drop, get_or, map, refl, sym, ap, ◌∙◌, arith, append-nil}
use Rattle.std.proofs.Common.{append_assoc, length-append, length-drop}
use Rattle.std.proofs.lemmas.List.{drop_at, drop-append-le, drop-drop, get_or-drop, take-append-drop, length-map}
use Rattle.std.proofs.lemmas.List.FromFn.{fill_by_all, get_or-map-range_with_len, length-map-range_with_len}
use Rattle.std.proofs.lemmas.List.FromFn.{take-map-range_with_len}
use Rattle.std.specs.Int.{bit_at}
use Rattle.std.specs.List.{range_with_len, All}
use Rattle.std.proofs.lemmas.List.Elements.{All-head, All-tail}
use Rattle.lr_bits.specs.Bits.{bit_of}
use Rattle.lr_bits.specs.declared.sizes.TheConstants.{BLOCK_BYTES, FRAME_SYMBOLS}
use Rattle.lr_block.specs.Outcomes.{IsBlock}
use Rattle.lr_conv.specs.Convolution.{bit, code, earlier_bit, first_symbol, second_symbol, symbols}
use Rattle.lr_conv.specs.Levels.{last_level, levels, six_zeros}
use Rattle.lr_conv.specs.Marker.{marker, marker_end, tail_of}
use Rattle.lr_conv.specs.declared.line.LineCode.{LineCode}
use Rattle.lr_conv.proofs.Lines.{last_level-drop, length-levels, levels-append}
use Rattle.lr_trellis.specs.Path.{path_levels}
use Rattle.lr_make.specs.Symbols.{bits_of_bytes, level, marked_block}
use Rattle.lr_make.proofs.Coding.{bits_of_bytes-all, code-front, length-code, length-first_bits, length-symbols}
use Rattle.lr_sent.specs.Sent.{bits_of_blocks, symbols_of_blocks}
use Rattle.lr_sent.proofs.Turning.{after_marker, code_turned, length-marker_end, length-marker_levels}
use Rattle.lr_sent.proofs.Turning.{marker_end_turned, tail_turned, turned, turned-append}

-- ---- a code in two parts

-- the symbols of a later place are those of the bits from six before it on
module _ (line : LineCode) (t : List Bool) (n i : ℕ) where
  earlier_bit-drop : (places : ℕ) → places ≤ 6 → earlier_bit t (n + i) places ≡ earlier_bit (drop n t) i places
  earlier_bit-drop places h =
      ap (λ p. bit (get_or t p false)) (omega arith) ∙ ap bit (sym (get_or-drop n t (6 + i - places) false))

  first-drop : first_symbol t (n + i) ≡ first_symbol (drop n t) i
  first-drop =
      let e0 = earlier_bit-drop 0 (omega arith) in
      let e1 = earlier_bit-drop 1 (omega arith) in
      let e2 = earlier_bit-drop 2 (omega arith) in
      let e3 = earlier_bit-drop 3 (omega arith) in
      let e6 = earlier_bit-drop 6 (omega arith) in
      cc

  second-drop : second_symbol line t (n + i) ≡ second_symbol line (drop n t) i
  second-drop =
      let e0 = earlier_bit-drop 0 (omega arith) in
      let e2 = earlier_bit-drop 2 (omega arith) in
      let e3 = earlier_bit-drop 3 (omega arith) in
      let e5 = earlier_bit-drop 5 (omega arith) in
      let e6 = earlier_bit-drop 6 (omega arith) in
      cc

symbols-add : (line : LineCode) (t : List Bool) (n m : ℕ) →
    symbols line t (n + m) ≡ symbols line t n ++ symbols line (drop n t) m
symbols-add line t n zero =
    let all : n + 0 ≡ n = omega arith in ap (symbols line t) all ∙ sym (append-nil (symbols line t n))
symbols-add line t n (suc m) =
    let front = symbols-add line t n m in
    let first = first-drop line t n m in
    let second = second-drop line t n m in
    let next : n + suc m ≡ suc (n + m) = omega arith in
    let more = ap (symbols line t) next in
    let both =
    append_assoc (symbols line t n) (symbols line (drop n t) m)
    (first_symbol (drop n t) m ∷ second_symbol line (drop n t) m ∷ []) in
    cc

-- what follows is the code after the last six bits
pub code-append : (line : LineCode) (past x y : List Bool) → length past ≡ 6 →
    code line past (x ++ y) ≡ code line past x ++ code line (drop (length x) (past ++ x)) y
code-append line past x y six =
    let n : ℕ = length x in
    let t : List Bool = past ++ (x ++ y) in
    let front = code-front line past x y six in
    let behind : drop n t ≡ drop n (past ++ x) ++ y =
    ap (drop n) (sym (append_assoc past x y)) ∙ drop-append-le n (past ++ x) y (omega (arith, length-append past x)) in
    front.1 ∙ ap (λ z. code line past x ++ z) (
    sym (drop_at (code line past x) front.0 (2 * n) (length-code line past x))
    ∙ ap (drop (2 * n)) (sym front.1 ∙ ap (symbols line t) (length-append x y) ∙ symbols-add line t n (length y))
    ∙ drop_at (symbols line t n) (symbols line (drop n t) (length y)) (2 * n) (length-symbols line t n)
    ∙ ap (λ z. symbols line z (length y)) behind)

-- ---- the bits of blocks

pub bits-marked : (block : List ℕ) → bits_of_bytes (marked_block block) ≡ marker ++ bits_of_bytes block
unfolding bits_of_bytes
bits-marked block =
    let n : ℕ = 8 * length block in
    let all : ℕ → Bool = λ place. nat_eq (bit_of (marked_block block) place) 1 in
    let own : ℕ → Bool = λ place. nat_eq (bit_of block place) 1 in
    let bits : List Bool = map all (range_with_len 0 (32 + n)) in
    let byte_behind : (k : ℕ) → all (32 + k) ≡ own k = λ k.
    let byte : (32 + k) / 8 ≡ suc (suc (suc (suc (k / 8)))) = omega arith in
    let place : (32 + k) % 8 ≡ k % 8 = omega arith in
    ap (λ z. nat_eq (bit_at (get_or (marked_block block) z 0) (7 - (32 + k) % 8)) 1) byte
    ∙ ap (λ z. nat_eq (bit_at (get_or block (k / 8) 0) (7 - z)) 1) place in
    let behind : drop 32 bits ≡ map own (range_with_len 0 n) =
    fill_by_all own (drop 32 bits) n false (omega (
      arith,
      length-drop 32 bits,
      length-map-range_with_len all 0 (32 + n),
    ))
    (λ k h. get_or-drop 32 bits k false ∙ get_or-map-range_with_len all 0 (32 + n) (32 + k) (32 + k) false (omega arith)
    (omega arith)
    ∙ byte_behind k) in
    ap (λ k. map all (range_with_len 0 k)) (omega arith) ∙ sym (take-append-drop 32 bits)
    ∙ ap (λ z. z ++ drop 32 bits) (take-map-range_with_len all 0 (32 + n) 32 (omega arith))
    ∙ ap (λ z. marker ++ z) behind

pub length-block_bits : (block : List ℕ) → length block ≡ BLOCK_BYTES → length (bits_of_bytes block) ≡ 8160
length-block_bits block size =
    sym (ap length (bits_of_bytes-all block 8160 (omega (arith, size)))) ∙ length-first_bits block 8160

pub bits-append : (front back : List (List ℕ)) → bits_of_blocks (front ++ back) ≡ bits_of_blocks front
    ++ bits_of_blocks back
unfolding bits_of_blocks
bits-append [] back = refl
bits-append (block ∷ front) back =
    let own : List Bool = bits_of_bytes (marked_block block) in
    ap (λ z. own ++ z) (bits-append front back) ∙ sym (append_assoc own (bits_of_blocks front) (bits_of_blocks back))

pub bits-none : bits_of_blocks [] ≡ []
unfolding bits_of_blocks
bits-none = refl

-- a block and those after it
pub bits-cons : (block : List ℕ) (later : List (List ℕ)) →
    bits_of_blocks (block ∷ later) ≡ marker ++ (bits_of_bytes block ++ bits_of_blocks later)
unfolding bits_of_blocks
bits-cons block later =
    ap (λ z. z ++ bits_of_blocks later) (bits-marked block)
    ∙ append_assoc marker (bits_of_bytes block) (bits_of_blocks later)

pub length-bits : (blocks : List (List ℕ)) → All IsBlock blocks → length (bits_of_blocks blocks) ≡ 8192 * length blocks
length-bits [] whole = ap length bits-none
length-bits (block ∷ blocks) whole =
    omega (
      arith,
      ap length (bits-cons block blocks),
      length-append marker (bits_of_bytes block ++ bits_of_blocks blocks),
      length-append (bits_of_bytes block) (bits_of_blocks blocks),
      length-block_bits block (All-head IsBlock block blocks whole).long,
      length-bits blocks (All-tail IsBlock block blocks whole),
    )

pub length-sent : (line : LineCode) (blocks : List (List ℕ)) → All IsBlock blocks →
    length (symbols_of_blocks line blocks) ≡ FRAME_SYMBOLS * length blocks
unfolding symbols_of_blocks
length-sent line blocks whole =
    let all : List Bool = levels line false (bits_of_blocks blocks) in
    omega (
      arith,
      length-map (code line six_zeros all) level,
      length-code line six_zeros all,
      length-levels line false (bits_of_blocks blocks),
      length-bits blocks whole,
    )

-- ---- from a marker on

-- whether the symbols after these bits are turned
abbrev pub turns : LineCode → List Bool → Bool
turns line bits = line.marks && last_level false (levels line false bits)

module _ (line : LineCode) (before later : List Bool) where
  abbrev first : List Bool
  first = levels line false before

  abbrev last : Bool
  last = last_level false first

  -- the last six levels
  abbrev past : List Bool
  past = drop (length first) (six_zeros ++ first)

  six : length past ≡ 6
  six = omega (arith, length-drop (length first) (six_zeros ++ first), length-append six_zeros first)

  last_is : last_level false past ≡ last
  last_is = last_level-drop false (length first) (six_zeros ++ first) (omega (arith, length-append six_zeros first))

  abbrev own : List Bool
  own = levels line last marker

  abbrev rest : List Bool
  rest = turned (turns line before) (path_levels line later)

  all_levels : levels line false (before ++ (marker ++ later)) ≡ first ++ (own ++ rest)
  all_levels = levels-append line false before (marker ++ later) ∙ ap (λ z. first ++ z) (after_marker line last later)

  after_own : drop 32 (past ++ own) ≡ turned (turns line before) (marker_end line)
  after_own =
      sym (drop-drop 26 6 (past ++ own)) ∙ ap (drop 26) (drop_at past own 6 six) ∙ marker_end_turned line last

  code_is : code line six_zeros (levels line false (before ++ (marker ++ later))) ≡
      code line six_zeros first ++ (code line past own ++ turned (turns line before)
      (code line (marker_end line) (path_levels line later)))
  code_is =
      ap (code line six_zeros) all_levels ∙ code-append line six_zeros first (own ++ rest) refl
      ∙ ap (λ z. code line six_zeros first ++ z) (code-append line past own rest six
      ∙ ap (λ z. code line past own ++ z)
      (ap (λ n. code line (drop n (past ++ own)) rest) (length-marker_levels line last)
      ∙ ap (λ p. code line p rest) after_own
      ∙ code_turned line (turns line before) (marker_end line) (path_levels line later) (length-marker_end line)))

  -- twelve symbols after the place of a marker stands its tail, and then the code of what follows, both turned or not
  pub tail_behind : drop (2 * length before + 12)
      (code line six_zeros (levels line false (before ++ (marker ++ later)))) ≡
      turned (turns line before) (tail_of line ++ code line (marker_end line) (path_levels line later))
  tail_behind =
      let turn = turns line before in
      let front : List Bool = code line six_zeros first in
      let mine : List Bool = code line past own in
      let behind : List Bool = turned turn (code line (marker_end line) (path_levels line later)) in
      let size : length front ≡ 2 * length before =
      omega (arith, length-code line six_zeros first, length-levels line false before) in
      let long : 12 ≤ length mine = omega (arith, length-code line past own, length-marker_levels line last) in
      ap (drop (2 * length before + 12)) code_is
      ∙ sym (drop-drop 12 (2 * length before) (front ++ (mine ++ behind)))
      ∙ ap (drop 12) (drop_at front (mine ++ behind) (2 * length before) size)
      ∙ drop-append-le 12 mine behind long
      ∙ ap (λ z. z ++ behind) (tail_turned line past last six last_is)
      ∙ sym (turned-append turn (tail_of line) (code line (marker_end line) (path_levels line later)))
