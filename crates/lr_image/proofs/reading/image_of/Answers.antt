use Rattle.lr_image.proofs.WholePixels.{makes_picture}
use Rattle.lr_image.proofs.reading.image_of.Goals as goal

pub whole_image-requires : goal.whole_image-requires
whole_image-requires c =
    let layout = c.in_ok-layout.layout in
    rw (c.from.ensures, c.from-2.ensures)
    (makes_picture c.args.file.now layout.header_bytes layout.shape.structure layout.shape.lossless
    c.in_ok-pixels.pixels c.in_ok-layout.ensures.sound c.in_ok-pixels.ensures.ok)
