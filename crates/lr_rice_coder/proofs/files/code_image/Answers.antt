use Rattle.std.proofs.Common.{◌≡◌, ◌+◌, ℕ, length, ap, sym, ◌∙◌, refl, subst, arith}
use Rattle.std.specs.List.{concat}
use Rattle.lr_bits.specs.File.{IsFile}
use Rattle.lr_rice_coder.specs.Fronts.{picture_with}
use Rattle.lr_rice_coder.proofs.MakingLemmas.{IsMade, is_made, lines_size, short_so_far}
use Rattle.lr_rice_coder.proofs.files.code_image.Goals as goal
use Rattle.lr_rice_coder.proofs.files.code_image.Goals.{After-apid-application}

pub returns-then-first-gt-MOST_BODY_BYTES-clause-err : goal.returns-then-first-gt-MOST_BODY_BYTES-clause-err
returns-then-first-gt-MOST_BODY_BYTES-clause-err c =
    let picture = picture_with c.args.structure c.args.image.pixels in
    let held = c.in-Ok.ensures.ok in
    record {
      short = short_so_far picture c.args.block picture.lines held.lines held.coded;
      size_is = refl;
      long = c.if-first-gt-MOST_BODY_BYTES.true;
    }

pub returns-then-total-gt-MOST_FILE_BYTES-clause-err : goal.returns-then-total-gt-MOST_FILE_BYTES-clause-err
returns-then-total-gt-MOST_FILE_BYTES-clause-err c =
    let picture = picture_with c.args.structure c.args.image.pixels in
    let held = c.in-Ok.ensures.ok in
    record {
      short = short_so_far picture c.args.block picture.lines held.lines held.coded;
      fits = c.if-first-gt-MOST_BODY_BYTES.false;
      size_is = ap (λ (n : ℕ). 42 + length c.args.others.now + n)
          (held.size_is ∙ lines_size picture c.args.block held.lines held.coded);
      long = c.if-total-gt-MOST_FILE_BYTES.true;
    }

-- what was made is a file
is_made_file : (c : After-apid-application)
    → IsMade c.args.file.now c.args.structure c.args.block c.args.others.now c.in-Ok.ensures.ok.lines
    c.vc-channel.result c.apid-application.result c.in-Ok.lines.lengths c.in-Ok-file_bytes.whole
is_made_file c =
    let held = c.in-Ok.ensures.ok in
    let short = c.if-first-gt-MOST_BODY_BYTES.false in
    let fits = c.if-total-gt-MOST_FILE_BYTES.false in
    let joined : c.as_slice-all.result.now ≡ concat held.lines = c.as_slice-all.ensures ∙ held.bytes short fits in
    is_made c.args.file.now c.args.structure c.args.image.pixels _ c.args.block held.lines _ _ _ _ _ _
    held.coded c.requires.low c.vc-channel.ensures.value c.vc-channel.ensures.fits c.apid-application.ensures.value
    c.apid-application.ensures.fits refl joined c.in-Ok-file_bytes.ensures.ok (held.lengths short fits) short
    (omega (arith, fits, held.size_is, ap length joined))

pub unreachable-requires : goal.unreachable-requires
unreachable-requires c =
    c.in-None.ensures (is_made_file (goal.at.unreachable-requires c).After-apid-application).makes

pub returns-clause-ok : goal.returns-clause-ok
returns-clause-ok c =
    let held = c.in-Ok.ensures.ok in
    let is = is_made_file (goal.at.returns-clause-ok c).After-apid-application in
    record {
      counter = c.file_bytes.ensures.counter;
      lines = held.lines;
      coded = held.coded;
      is_new = c.in-Some.ensures.1 ∙ is.same;
      is_file = subst IsFile (sym (c.in-Some.ensures.1 ∙ is.same)) is.is_file;
    }
