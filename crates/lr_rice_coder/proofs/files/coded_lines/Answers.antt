use Rattle.std.proofs.Common.{ℕ, List, subst}
use Rattle.lr_rice_coder.specs.Fronts.{HoldsLines, picture_with}
use Rattle.lr_rice_coder.proofs.MakingLemmas.{all_held}
use Rattle.lr_rice_coder.proofs.files.coded_lines.Goals as goal

pub returns-in-Ok-code_lines-clause-ok : goal.returns-in-Ok-code_lines-clause-ok
returns-in-Ok-code_lines-clause-ok c =
    let held = c.code_lines.new.lines in
    subst (λ (pixels : List ℕ). HoldsLines (picture_with c.args.structure pixels) c.args.block c.args.first held)
    c.pixels.ensures.value
    (all_held (picture_with c.args.structure c.pixels.result.now) c.args.block c.args.first c.room_after-room.result _
    held
    c.in-Ok-code_lines.ensures.ok c.in-Ok.ensures c.room_after-room.ensures c.requires.low)
