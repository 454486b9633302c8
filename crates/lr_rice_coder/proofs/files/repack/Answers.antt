use Rattle.std.proofs.Common.{◌≡◌, ℕ, List, inl, inr, sym, ◌∙◌, refl, subst, arith, rules}
use Rattle.std.proofs.lemmas.Grind.{common_steps}
use Rattle.std.specs.Prelude.{Result, Ok, Err, IfErr, IfOk}
use Rattle.lr_bits.specs.File.{File, proper_of}
use Rattle.lr_headers.specs.Tiling.{Header, IsHeaderOf}
use Rattle.lr_headers.specs.declared.fields.Structure.{Structure}
use Rattle.lr_image.specs.Picture.{Picture}
use Rattle.lr_rice_coder.specs.Coded.{IsBlockSize}
use Rattle.lr_rice_coder.specs.Fronts.{MakesFile, MakingFails, picture_with}
use Rattle.lr_rice_coder.specs.Refusals.{HasRepackFaultOrMemory}
use Rattle.lr_rice_coder.specs.Repacked.{HaveOneImage, IsRepacked, KeepsName}
use Rattle.lr_rice_coder.specs.declared.fault.RepackFault.{RepackFault}
use Rattle.lr_rice_coder.proofs.NewImages.{repacked_keeps_image, repacked_keeps_name}
use Rattle.lr_rice_coder.proofs.RepackLemmas.{IsReadFile, can_be_coded, no_structure, refused, repacked}
use Rattle.lr_rice_coder.proofs.files.repack.Goals as goal
use Rattle.lr_rice_coder.proofs.files.repack.Goals.{After-as_slice}

-- the header that was read is the file's
header_is_of : (file : File) (header : Header) (proper : List ℕ) → proper ≡ proper_of file → IsHeaderOf proper header
    → IsHeaderOf (proper_of file) header
header_is_of file header proper is read = subst (λ (l : List ℕ). IsHeaderOf l header) is read

pub unreachable-requires : goal.unreachable-requires
unreachable-requires c =
    no_structure c.args.file.now c.in-Ok.image c.in-Ok-read.records c.in-Ok.ensures.ok
    (header_is_of c.args.file.now c.in-Ok-read.records c.proper.result.now c.proper.ensures.value
    c.in-Ok-read.ensures.ok)
    (sym c.structure.ensures ∙ c.in_default-structure.is)

-- the file as it was read
is_read : (c : After-as_slice)
    → IsReadFile c.args.file.now c.in-Ok.image c.in-Ok-read.records c.in-Some.structure c.in-Ok.image.pixels
    c.as_slice.result.now
is_read c = record {
  image = c.in-Ok.ensures.ok;
  deep = omega (arith, c.bits-bits.ensures.value, c.if-bits-lt-LEAST_BITS.false);
  is_header = header_is_of c.args.file.now c.in-Ok-read.records c.proper.result.now c.proper.ensures.value
      c.in-Ok-read.ensures.ok;
  says = sym c.structure.ensures ∙ c.in-Some.is;
  pixels_are = refl;
  others_are = c.as_slice.ensures ∙ c.in-Ok-other_records.ensures;
  columns = search rules;
  lines = search rules;
}

pub code_image-requires : goal.code_image-requires
code_image-requires c =
    let is = is_read (goal.at.code_image-requires c).After-as_slice in
    can_be_coded c.args.file.now c.in-Ok.image c.in-Ok-read.records c.in-Some.structure c.in-Ok.image.pixels
    c.as_slice.result.now c.args.block is c.requires

-- the outcome of the last step
ok_of : (file : File) (block : ℕ) (s : Structure) (pixels others : List ℕ) (picture : Picture) (header : Header)
    (result : Result File RepackFault) → IsReadFile file picture header s pixels others
    → IfOk result (MakesFile file s pixels (record { block = block; others = others }))
    → IfOk result (IsRepacked file block)
ok_of file block s pixels others picture header (Ok new) is makes =
    repacked file picture header s pixels others block new is makes
ok_of file block s pixels others picture header (Err fault) is makes = tt

err_of : (file : File) (block : ℕ) (s : Structure) (pixels others : List ℕ) (picture : Picture) (header : Header)
    (result : Result File RepackFault) → IsReadFile file picture header s pixels others
    → IfErr result (MakingFails (picture_with s pixels) block others) → IfErr result (HasRepackFaultOrMemory file block)
err_of file block s pixels others picture header (Ok new) is fails = tt
err_of file block s pixels others picture header (Err fault) is fails =
    refused file picture header s pixels others block fault is fails

image_of : (file : File) (block : ℕ) (result : Result File RepackFault) → IsBlockSize block
    → IfOk result (IsRepacked file block) → IfOk result (HaveOneImage file)
image_of file block (Ok new) is_block re = repacked_keeps_image file new block is_block re
image_of file block (Err fault) is_block re = tt

name_of : (file : File) (block : ℕ) (result : Result File RepackFault)
    → IfOk result (IsRepacked file block) → IfOk result (KeepsName file)
name_of file block (Ok new) re = repacked_keeps_name file new block re
name_of file block (Err fault) re = tt

pub returns-clause-ok : goal.returns-clause-ok
returns-clause-ok c =
    let is = is_read (goal.at.returns-clause-ok c).After-as_slice in
    ok_of c.args.file.now c.args.block c.in-Some.structure c.in-Ok.image.pixels c.as_slice.result.now c.in-Ok.image
    c.in-Ok-read.records c.code_image.result is c.code_image.ensures.ok

pub returns-clause-err : goal.returns-clause-err
returns-clause-err c =
    let is = is_read (goal.at.returns-clause-err c).After-as_slice in
    err_of c.args.file.now c.args.block c.in-Some.structure c.in-Ok.image.pixels c.as_slice.result.now c.in-Ok.image
    c.in-Ok-read.records c.code_image.result is c.code_image.ensures.err

pub returns-clause-image : goal.returns-clause-image
returns-clause-image c = image_of c.args.file.now c.args.block c.code_image.result c.requires (returns-clause-ok c)

pub returns-clause-name : goal.returns-clause-name
returns-clause-name c = name_of c.args.file.now c.args.block c.code_image.result (returns-clause-ok c)

pub returns-in-Err-clause-err : goal.returns-in-Err-clause-err
returns-in-Err-clause-err c = elim c.in-Err.ensures.err [
  | inl memory ↦ absurd (grind (arith, common_steps))
  | inr fails ↦ fails
]
