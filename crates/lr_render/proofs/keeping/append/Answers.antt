use Rattle.std.proofs.Common.{arith, length-drop}
use Rattle.lr_bits.specs.File.{bytes_of}
use Rattle.lr_render.proofs.keeping.append.Goals as goal

pub overflow_add-skipped : goal.overflow_add-skipped
overflow_add-skipped c =
    omega (arith, c.requires.inside, length-drop 10 (bytes_of c.args.file.now), c.requires.is_file.most)
