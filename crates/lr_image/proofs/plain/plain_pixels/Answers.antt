use Rattle.std.proofs.Common.{◌≡◌, ◌∙◌, ℕ, length, replicate, ap, refl, subst, rules, arith}
use Rattle.std.proofs.lemmas.List.{length-replicate}
use Rattle.lr_bits.specs.Bits.{bits_of}
use Rattle.lr_image.specs.Plain.{BeginsWithPixels}
use Rattle.lr_image.proofs.PlainLemmas.{written_over}
use Rattle.lr_image.proofs.plain.plain_pixels.Goals as goal

pub returns-clause-ok : goal.returns-clause-ok
returns-clause-ok c =
    let count = c.args.count in
    let places : c.as_mut_slice.result.now ≡ replicate count 0 = c.as_mut_slice.ensures.value ∙ c.in-Ok.ensures in
    let size : length c.as_mut_slice.result.now ≡ count = ap length places ∙ length-replicate count 0 in
    let read : BeginsWithPixels c.args.bits count (bits_of c.args.bytes.now) c.read_pixels.new.pixels =
    subst (λ (n : ℕ). BeginsWithPixels c.args.bits n (bits_of c.args.bytes.now) c.read_pixels.new.pixels) size
    c.read_pixels.ensures in
    rw (written_over count c.in-Ok.pixels c.read_pixels.new.pixels _ c.in-Ok.ensures read.count refl) read

pub returns-in-Some-clause-first : goal.returns-in-Some-clause-first
returns-in-Some-clause-first c = search (rules, arith)
