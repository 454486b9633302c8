use Rattle.std.proofs.Common.{subst}
use Rattle.lr_file.specs.Standing.{Open}
use Rattle.lr_file.specs.Steps.{IsBuilt}
use Rattle.lr_file.proofs.OpenLemmas.{built_from}
use Rattle.lr_file.proofs.open_file.OpenFile.finish.Goals as goal

pub returns : goal.returns
returns c =
    let parts = c.self.inside in
    subst (λ (file : Open). IsBuilt c.args.vc c.args.apid file c.build.result) c.self.view_is
    (built_from c.args.vc c.args.apid (record {
      lengths = parts.lengths;
      bytes = parts.bytes;
      count = parts.count;
    }) c.build.result c.requires.channel c.requires.application c.self.invariant
    c.build.ensures)
