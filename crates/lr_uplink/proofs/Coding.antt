-- The symbols that one block more adds to those of the blocks before it.
use Rattle.std.proofs.Common.{◌≡◌, ℕ, ◌*◌, Bool, false, ℤ, List, [], ◌∷◌, ◌++◌, length, drop, map, refl, sym, ap, ◌∙◌}
use Rattle.std.proofs.Common.{append-nil, drop_at}
use Rattle.std.proofs.lemmas.List.{map-append}
use Rattle.lr_conv.specs.Convolution.{code}
use Rattle.lr_conv.specs.Levels.{levels, six_zeros, last_level}
use Rattle.lr_conv.specs.declared.line.LineCode.{LineCode}
use Rattle.lr_conv.proofs.Lines.{levels-append}
use Rattle.lr_make.specs.Symbols.{bits_of_bytes, level, marked_block}
use Rattle.lr_make.proofs.Coding.{code-front, length-line_code, line_code}
use Rattle.lr_sent.specs.Sent.{bits_of_blocks, symbols_of_blocks}
use Rattle.lr_sent.proofs.Splitting.{bits-append}

pub bits-more : (blocks : List (List ℕ)) (block : List ℕ) →
    bits_of_blocks (blocks ++ block ∷ []) ≡ bits_of_blocks blocks ++ bits_of_bytes (marked_block block)
unfolding bits_of_blocks
bits-more blocks block =
    bits-append blocks (block ∷ []) ∙ ap (λ z. bits_of_blocks blocks ++ z)
    (append-nil (bits_of_bytes (marked_block block)))

-- more bits leave the symbols of those before them
prefix_stays : (line : LineCode) (x y : List Bool) →
    line_code line (x ++ y) ≡ line_code line x ++ drop (2 * length x) (line_code line (x ++ y))
prefix_stays line x y =
    let more : List Bool = levels line (last_level false (levels line false x)) y in
    let all : levels line false (x ++ y) ≡ levels line false x ++ more = levels-append line false x y in
    let front = code-front line six_zeros (levels line false x) more refl in
    let whole : line_code line (x ++ y) ≡ line_code line x ++ front.0 = ap (code line six_zeros) all ∙ front.1 in
    let rest : drop (2 * length x) (line_code line (x ++ y)) ≡ front.0 =
    ap (drop (2 * length x)) whole ∙ drop_at (line_code line x) front.0 (2 * length x) (length-line_code line x) in
    whole ∙ ap (λ z. line_code line x ++ z) (sym rest)

pub symbols-more : (line : LineCode) (blocks : List (List ℕ)) (block : List ℕ) →
    symbols_of_blocks line (blocks ++ block ∷ [])
    ≡ symbols_of_blocks line blocks ++ map level (drop (2 * length (bits_of_blocks blocks))
    (line_code line (bits_of_blocks blocks ++ bits_of_bytes (marked_block block))))
unfolding symbols_of_blocks
symbols-more line blocks block =
    let x : List Bool = bits_of_blocks blocks in
    let y : List Bool = bits_of_bytes (marked_block block) in
    ap (λ z. map level (line_code line z)) (bits-more blocks block) ∙ ap (map level) (prefix_stays line x y)
    ∙ map-append level (line_code line x) (drop (2 * length x) (line_code line (x ++ y)))

-- the symbols of blocks are a prefix of those of these blocks and more
pub symbols-front : (line : LineCode) (blocks later : List (List ℕ)) → (rest : List ℤ)
    × (symbols_of_blocks line (blocks ++ later) ≡ symbols_of_blocks line blocks ++ rest)
unfolding symbols_of_blocks
symbols-front line blocks later =
    let x : List Bool = bits_of_blocks blocks in
    let y : List Bool = bits_of_blocks later in
    let rest : List Bool = drop (2 * length x) (line_code line (x ++ y)) in (
      map level rest,
      ap (λ z. map level (line_code line z)) (bits-append blocks later) ∙ ap (map level) (prefix_stays line x y)
          ∙ map-append level (line_code line x) rest,
    )
