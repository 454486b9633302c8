use Rattle.std.proofs.Common.{◌≡◌, ◌<◌, ◌≤◌, ◌-◌, ◌*◌, ◌∙◌, ap, drop, length, take, subst, arith}
use Rattle.std.proofs.lemmas.List.{length-drop, take_all, take_more_set}
use Rattle.lr_bits.specs.Bits.{bits_of}
use Rattle.lr_bits.proofs.BitsLemmas.{length-bits_of}
use Rattle.lr_image.specs.Plain.{BeginsWithPixels}
use Rattle.lr_image.proofs.PlainLemmas.{next_is_there, none_read, pixel_more, pixels_begin}
use Rattle.lr_image.proofs.plain.read_numbers.Goals as goal

pub loop-pixel-init : goal.loop-pixel-init
loop-pixel-init c = rw c.reader_at-reader.ensures
    (none_read c.args.bits (drop c.args.first_bit (bits_of c.args.bytes.now)))

pub unreachable-requires : goal.unreachable-requires
unreachable-requires c =
    let now = c.loop-pixel in
    let bytes = c.args.bytes.now in
    let string = drop c.args.first_bit (bits_of bytes) in
    let size : length string ≡ 8 * length bytes - c.args.first_bit = length-drop c.args.first_bit (bits_of bytes)
    ∙ ap (λ n. n - c.args.first_bit) (length-bits_of bytes) in
    let enough : c.args.bits * length c.args.pixels.now ≤ length string = omega (arith, c.requires.enough) in
    next_is_there c.args.bits (length c.args.pixels.now) now.pixel-index string
    (take now.pixel-index now.pixels)
    now.reader now.invariant c.loop-pixel-test.true enough c.in_default.ensures.err.0

pub loop-pixel-preserved : goal.loop-pixel-preserved
loop-pixel-preserved c =
    let now = c.loop-pixel in
    let size = now.auto.pixels in
    let inside : now.pixel-index < length now.pixels = omega (arith, c.loop-pixel-test.true) in
    rw (take_more_set now.pixels now.pixel-index c.in-Ok.number inside)
    (pixel_more c.args.bits now.pixel-index (drop c.args.first_bit (bits_of c.args.bytes.now))
    (take now.pixel-index now.pixels) now.reader c.bits.new.self
    c.in-Ok.number now.invariant c.in-Ok.ensures.fits c.in-Ok.ensures.ok)

pub returns : goal.returns
returns c =
    let now = c.loop-pixel in
    let size = now.auto.pixels in
    let all : now.pixel-index ≡ length c.args.pixels.now = omega arith in
    let bits = c.args.bits in
    let string = drop c.args.first_bit (bits_of c.args.bytes.now) in
    let begin : BeginsWithPixels bits now.pixel-index string (take now.pixel-index now.pixels) =
    pixels_begin bits now.pixel-index string (take now.pixel-index now.pixels) now.reader now.invariant in
    subst (λ n. BeginsWithPixels bits n string now.pixels) all
    (subst (λ l. BeginsWithPixels bits now.pixel-index string l)
    (take_all now.pixel-index now.pixels (omega arith)) begin)
