use Rattle.std.proofs.Common.{refl}
use Rattle.lr_mend.proofs.MendedTaking.{seams_new}
use Rattle.lr_mend.specs.Mending.{mended_packets}
use Rattle.lr_mend.proofs.mended.MendedFiles.new.Goals as goal

pub returns-clause-stands : goal.returns-clause-stands
unfolding mended_packets
returns-clause-stands c =
    record {
      unspent = refl;
      images = c.new.ensures.stands;
      files = c.new-2.ensures;
      seams = λ some. seams_new _ c.new-3.ensures.none c.new-3.ensures.once;
    }
