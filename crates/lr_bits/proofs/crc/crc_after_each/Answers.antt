use Rattle.std.proofs.Common.{
  ◌≡◌,
  ◌+◌,
  ◌*◌,
  ◌^◌,
  ◌∙◌,
  ap,
  sym,
  append_assoc,
  bit_xor,
  get_or,
  take,
  ◌++◌,
  ◌∷◌,
  [],
  arith,
}
use Rattle.std.proofs.lemmas.List.{take_more}
use Rattle.lr_bits.specs.Crc.{crc_of, remainder_of}
use Rattle.lr_bits.proofs.CrcLemmas.{crc_of-push}
use Rattle.lr_bits.proofs.crc.crc_after_each.Goals as goal

pub loop-byte-preserved : goal.loop-byte-preserved
loop-byte-preserved c bytes is =
    let more = c.args.more.now in
    let place = c.loop-byte.byte-index in
    let byte = get_or more place 0 in
    let taken : take (place + 1) more ≡ take place more ++ byte ∷ [] = take_more more place 0 (omega arith) in
    c.crc_with-crc.ensures ∙ ap (λ crc. remainder_of 8 (bit_xor (crc * 2 ^ 8) (byte * 2 ^ 16)))
    (c.loop-byte.invariant bytes is)
    ∙ sym (ap (λ l. crc_of (bytes ++ l)) taken ∙ ap crc_of (sym (append_assoc bytes (take place more) (byte ∷ [])))
    ∙ crc_of-push (bytes ++ take place more) byte (omega (arith, c.type_inv.more place)))
