use Rattle.std.proofs.Common.{◌≡◌, ◌∙◌, ◌+◌, ◌*◌, ◌++◌, Bool, true, false, nat_eq, List, [], ◌∷◌, length, map, ℕ}
use Rattle.std.proofs.Common.{take, drop, set, w8, to_z, of_z, refl, arith, sym, ap, subst, append-nil}
use Rattle.std.proofs.Common.{append_assoc, length-append, length-set}
use Rattle.std.proofs.lemmas.List.{drop_all, take_all}
use Rattle.lr_bits.specs.Bits.{bit_of}
use Rattle.lr_conv.specs.LineEncoder.{LineEncoderStandsFor}
use Rattle.lr_make.specs.Symbols.{bits_of_bytes, level, marked_block}
use Rattle.lr_make.proofs.Coding.{bits_of_bytes-all, first_bits, first_bits-more, length-line_code, line_code}
use Rattle.lr_make.proofs.Coding.{symbols_more}
use Rattle.lr_make.proofs.symbols.put_symbols.Goals as goal

pub loop-place-init : goal.loop-place-init
loop-place-init c = record {
  long = c.told-symbols;
  code = λ line bits s.
      sym (ap (map level) (drop_all (2 * length bits) (line_code line (bits ++ []))
      (omega (arith, length-line_code line (bits ++ []), length-append bits []))));
  stands = λ line bits s. subst (LineEncoderStandsFor c.args.encoder.now line) (sym (append-nil bits)) s;
}

-- a symbol is a byte with a sign
wrapped : (symbol : Bool) → to_z w8 (of_z w8 (level symbol)) ≡ level symbol
wrapped true = refl
wrapped false = refl

pub loop-place-preserved : goal.loop-place-preserved
loop-place-preserved c =
    let bytes : List ℕ = c.marked_block-bytes.result in
    let place = c.loop-place.place in
    let old = c.loop-place.symbols in
    let pair = c.push-first.result in
    let kept = c.loop-place.invariant in
    let first : to_z w8 (of_z w8 c.level_of.result) ≡ level pair.0 =
    ap (λ z. to_z w8 (of_z w8 z)) c.level_of.ensures ∙ wrapped pair.0 in
    let second : to_z w8 (of_z w8 c.level_of-in-loop-place.result) ≡ level pair.1 =
    ap (λ z. to_z w8 (of_z w8 z)) c.level_of-in-loop-place.ensures ∙ wrapped pair.1 in
    record {
      long = length-set (set old (2 * place) _) (2 * place + 1) _ ∙ length-set old (2 * place) _ ∙ kept.long;
      code = λ line bits s.
          let before : List Bool = bits ++ first_bits bytes place in
          let pushed : line_code line (before ++ nat_eq (bit_of bytes place) 1 ∷ []) ≡
          line_code line before ++ pair.0 ∷ pair.1 ∷ [] =
          ap (λ z. line_code line (before ++ z ∷ [])) (sym c.sent_bit.ensures)
          ∙ c.push-first.ensures.symbols line before (kept.stands line bits s) in
          ap (λ z. take (2 * (place + 1)) (set (set old (2 * place) z) (2 * place + 1)
          (to_z w8 (of_z w8 c.level_of-in-loop-place.result)))) first
          ∙ ap (λ z. take (2 * (place + 1)) (set (set old (2 * place) (level pair.0)) (2 * place + 1) z)) second
          ∙ symbols_more line bits bytes place pair.0 pair.1 old kept.long (omega arith) (kept.code line bits s) pushed;
      stands = λ line bits s.
          let before : List Bool = bits ++ first_bits bytes place in
          let longer : before ++ nat_eq (bit_of bytes place) 1 ∷ [] ≡ bits ++ first_bits bytes (place + 1) =
          append_assoc bits (first_bits bytes place) (nat_eq (bit_of bytes place) 1 ∷ [])
          ∙ sym (ap (λ z. bits ++ z) (first_bits-more bytes place)) in
          subst (LineEncoderStandsFor c.push-first.new.self line)
          (ap (λ z. before ++ z ∷ []) c.sent_bit.ensures ∙ longer)
          (c.push-first.ensures.history line before (kept.stands line bits s));
    }

pub returns-clause-symbols : goal.returns-clause-symbols
returns-clause-symbols c = λ line bits s.
    let bytes : List ℕ = c.marked_block-bytes.result in
    let place : c.loop-place.place ≡ 8192 = omega arith in
    let whole : first_bits bytes c.loop-place.place ≡ bits_of_bytes (marked_block c.args.block.now) =
    ap (first_bits bytes) place ∙ ap (λ z. first_bits z 8192) c.marked_block-bytes.ensures
    ∙ bits_of_bytes-all (marked_block c.args.block.now) 8192 (omega (arith, c.told-block)) in
    sym (take_all (2 * c.loop-place.place) c.loop-place.symbols (omega (arith, c.loop-place.invariant.long)))
    ∙ c.loop-place.invariant.code line bits s
    ∙ ap (λ z. map level (drop (2 * length bits) (line_code line (bits ++ z)))) whole

pub returns-clause-moves : goal.returns-clause-moves
returns-clause-moves c = λ line bits s.
    let bytes : List ℕ = c.marked_block-bytes.result in
    let place : c.loop-place.place ≡ 8192 = omega arith in
    let whole : first_bits bytes c.loop-place.place ≡ bits_of_bytes (marked_block c.args.block.now) =
    ap (first_bits bytes) place ∙ ap (λ z. first_bits z 8192) c.marked_block-bytes.ensures
    ∙ bits_of_bytes-all (marked_block c.args.block.now) 8192 (omega (arith, c.told-block)) in
    subst (λ z. LineEncoderStandsFor c.loop-place.encoder line (bits ++ z)) whole
    (c.loop-place.invariant.stands line bits s)
