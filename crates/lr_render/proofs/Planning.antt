-- What a plan keeps.
use Rattle.std.proofs.Common.{◌≡◌, ◌<◌, ◌≤◌, ◌+◌, ◌*◌, ◌^◌, ℕ, List, [], ◌∷◌, length, drop, All, Option}
use Rattle.std.proofs.Common.{Some, None, Result, Ok, Err, inl, inr, refl, sym, ap, ◌∙◌, subst, arith}
use Rattle.std.specs.Prelude.{IfOk, OnErr, OnOk}
use mathlib.Core.Option.{some}
use lib.ListN.{get_elem?}
use Rattle.std.proofs.lemmas.List.{drop_all, length-drop}
use Rattle.std.proofs.lemmas.List.Elements.{All-weaker}
use Rattle.lr_bits.specs.File.{File, bytes_of, proper_of}
use Rattle.lr_bits.specs.declared.refusals.NoMemory.{NoMemory}
use Rattle.lr_image.specs.declared.fault.ImageFault.{ImageFault}
use Rattle.lr_image.specs.declared.fault.ImageFault.TheVariants.{Short}
use Rattle.lr_image.specs.declared.layout.Layout.{Layout}
use Rattle.lr_image.specs.declared.pieces.PiecePlace.{PiecePlace}
use Rattle.lr_image.specs.Picture.{IsPicture}
use Rattle.lr_image.specs.Places.{first_piece_place}
use Rattle.lr_image.specs.Images.{HasImageFault, HasLayout, HasPixels, IsImageOf, data_field, data_pieces}
use Rattle.lr_image.proofs.PieceLemmas.{first_in}
use Rattle.lr_image.proofs.WholePixels.{makes_picture}
use Rattle.lr_render.specs.Giving.{CanBeCut, GivesOne, GivesStrip, GivingStep, strips_left}
use Rattle.lr_render.specs.Keeping.{CanCount, HasFewLines, TakesStrip, TakesAfter}
use Rattle.lr_render.specs.Laws.{RefusalsAreFaults}
use Rattle.lr_render.specs.Making.{StripsMake}
use Rattle.lr_render.specs.Plans.{GivesNext, IsStripAt, PlanView}
use Rattle.lr_render.specs.Standing.{HasCome, HasKept, IsPlan, IsStripOf, plan_view}
use Rattle.lr_render.specs.Strips.{IsStrip}
use Rattle.lr_render.specs.Tiling.{strips_of}
use Rattle.lr_render.specs.declared.giving.Giving.{Giving}
use Rattle.lr_render.specs.declared.keeping.Keeping.{Keeping}
use Rattle.lr_render.specs.declared.strip.StripSource.{StripSource}
use Rattle.lr_render.proofs.Steps.{first_left, fits_one, kept_fault, kept_more, left_after, left_from, made_all}
use Rattle.lr_render.proofs.Steps.{made_short, none_kept}
use Rattle.lr_render.proofs.Whole.{strips-lines, strips_are, strips_make_the_image}

-- ---- a new plan

-- the data field has no more bytes than the file
pub field_small : (file : File) (layout : Layout) → CanBeCut file layout
    → length (data_field file layout.header_bytes) < 2 ^ 32
field_small file layout cut =
    omega (
      arith,
      length-drop layout.header_bytes (proper_of file),
      length-drop 10 (bytes_of file),
      cut.is_file.most,
    )

pub new_plan : (file : File) (layout : Layout) (place : PiecePlace) (pixels : List ℕ)
    → HasLayout file layout → CanBeCut file layout
    → layout.shape.structure.columns ≤ 65535 → layout.shape.structure.lines ≤ 65535
    → place ≡ first_piece_place (10 + layout.header_bytes) → pixels ≡ []
    → IsPlan file layout (record { strips = 0; lines = 0; place = place })
    (record { strips = 0; lines = 0; pixels = pixels; fault = None })
new_plan file layout place pixels has cut wide high at none =
    let s = layout.shape.structure in
    let strips = strips_of file layout in
    record {
      has_layout = has;
      cut = cut;
      strips = strips_are file layout.header_bytes s layout.shape.lossless cut.is_file cut.shape wide high
          (field_small file layout cut) cut.enough;
      within = rw at (record {
        lines = omega arith;
        strips = omega arith;
        place = first_in file (10 + layout.header_bytes);
      });
      high = high;
      few_kept = omega arith;
      few_given = omega arith;
      to_come = rw at refl;
      come = subst (λ (l : List ℕ). HasKept s strips 0 0 l) (sym none)
          (none_kept s strips (strips-lines s layout.shape.lossless (data_field file layout.header_bytes)
          (data_pieces file layout.header_bytes)));
    }

-- what a plan is refused for is the file's first fault
pub refusals_are_faults : RefusalsAreFaults
refusals_are_faults file fault (inl none) = inl none
refusals_are_faults file fault (inr plain) =
    let layout = plain.layout in
    inr (record {
      layout = layout;
      has_layout = plain.has_layout;
      lacks = rw plain.plain plain.lacks;
    })

module _ {file : File} {layout : Layout} {giving : Giving} {keeping : Keeping}
    (is : IsPlan file layout giving keeping) where
  pub are_strips : All IsStrip (strips_of file layout)
  are_strips = All-weaker (IsStripOf layout.shape.structure) IsStrip (λ strip h. h.is_strip)
      (strips_of file layout) is.strips

  -- ---- giving

  abbrev given_to : Giving → GivingStep
  given_to new =
      record { old = giving; new = new; before = strips_left file layout giving; after = strips_left file layout new }

  -- one strip more was given
  pub one_given : (new : Giving) (strip : StripSource) → GivesOne file layout.shape.structure (given_to new) strip
      → IsPlan file layout new keeping × IsStripAt (plan_view file layout giving keeping) giving.strips strip
  one_given new strip one =
      let strips = strips_of file layout in
      let rest = strips_left file layout new in
      let left : drop giving.strips strips ≡ strip ∷ rest = is.to_come ∙ one.first in
      let long : length (drop giving.strips strips) ≡ length (strip ∷ rest) = ap length left in
      let many = length-drop giving.strips strips in (
        record {
          has_layout = is.has_layout;
          cut = is.cut;
          strips = is.strips;
          within = one.within;
          high = is.high;
          few_kept = omega (arith, is.few_kept, one.count);
          few_given = omega (arith, long, many, one.count);
          to_come = ap (λ n. drop n strips) one.count ∙ left_after strips giving.strips strip rest left;
          come = is.come;
        },
        first_left strips giving.strips strip rest left,
      )

  pub given_plan : (result : Result (Option StripSource) NoMemory) (new : Giving)
      → IfOk result (GivesStrip file layout.shape.structure (given_to new))
      → OnErr result (new ≡ giving) → IsPlan file layout new keeping
  given_plan (Ok (Some strip)) new gives same = (one_given new strip gives).0
  given_plan (Ok None) new gives same = subst (λ (g : Giving). IsPlan file layout g keeping) (sym gives.1) is
  given_plan (Err refused) new gives same = subst (λ (g : Giving). IsPlan file layout g keeping) (sym same) is

  pub given_next : (result : Result (Option StripSource) NoMemory) (new : Giving)
      → IfOk result (GivesStrip file layout.shape.structure (given_to new))
      → IfOk result (GivesNext (plan_view file layout giving keeping) (plan_view file layout new keeping))
  given_next (Ok (Some strip)) new gives = (
    (one_given new strip gives).1,
    ap (λ (n : ℕ). let v : PlanView =
        record { file = file; layout = layout; given = n; kept = keeping.strips } in v) gives.count,
  )
  given_next (Ok None) new gives = (
    omega (
      arith,
      is.few_given,
      length-drop giving.strips (strips_of file layout),
      ap length (is.to_come ∙ gives.0),
    ),
    ap (λ (g : Giving). plan_view file layout g keeping) gives.1,
  )
  given_next (Err refused) new gives = tt

  -- ---- keeping

  module _ (strip : StripSource) (at : get_elem? (strips_of file layout) keeping.strips ≡ some strip) where
    left : drop keeping.strips (strips_of file layout) ≡ strip ∷ drop (keeping.strips + 1) (strips_of file layout)
    left = left_from (strips_of file layout) keeping.strips strip at

    few_by : (fault : Option ImageFault)
        → HasCome layout.shape.structure (strips_of file layout) keeping fault
        → HasFewLines keeping strip fault
    few_by None come =
        let fit = fits_one layout.shape.structure (strips_of file layout) keeping.strips keeping.lines keeping.pixels
        come strip (drop (keeping.strips + 1) (strips_of file layout)) left in
        omega (arith, fit, is.high)
    few_by (Some fault) come = tt

    pub can_count : CanCount keeping strip
    can_count = record {
      strips = omega (arith, is.few_kept, is.within.strips, is.within.lines, is.high);
      lines = few_by keeping.fault is.come;
    }

    come_by : (new : Keeping) (fault : Option ImageFault)
        → HasCome layout.shape.structure (strips_of file layout) keeping fault
        → TakesAfter keeping new strip fault → new.strips ≡ keeping.strips + 1
        → HasCome layout.shape.structure (strips_of file layout) new new.fault
    come_by new None come (inl one) count =
        let s = layout.shape.structure in
        let strips = strips_of file layout in
        let more = kept_more s strips keeping.strips keeping.lines keeping.pixels come strip
        (drop (keeping.strips + 1) strips) left one.pixels one.gives in
        rw (one.fault, one.appended, one.lines, count) more
    come_by new None come (inr one) count =
        let s = layout.shape.structure in
        let strips = strips_of file layout in
        rw one.fault (kept_fault s strips keeping.strips keeping.lines keeping.pixels come strip
        (drop (keeping.strips + 1) strips) left one.rice one.fails)
    come_by new (Some fault) come one count = rw one come

    pub kept_plan : (new : Keeping) → keeping.strips < giving.strips → TakesStrip keeping new strip
        → IsPlan file layout giving new
    kept_plan new before takes = record {
      has_layout = is.has_layout;
      cut = is.cut;
      strips = is.strips;
      within = is.within;
      high = is.high;
      few_kept = omega (arith, takes.count, before);
      few_given = is.few_given;
      to_come = is.to_come;
      come = come_by new keeping.fault is.come takes.after takes.count;
    }

    -- or it isn't, and then nothing was
    pub kept_or_not : (result : Result (Unit {0}) NoMemory) (new : Keeping) → keeping.strips < giving.strips
        → OnOk result (TakesStrip keeping new strip) → OnErr result (new ≡ keeping) → IsPlan file layout giving new
    kept_or_not (Ok done) new before takes same = kept_plan new before takes
    kept_or_not (Err refused) new before takes same =
        subst (λ (k : Keeping). IsPlan file layout giving k) (sym same) is

  -- ---- the end

  -- the fault that all strips make is the file's first one
  pub fault_is : (fault : ImageFault) → StripsMake layout.shape.structure 0 0 (strips_of file layout) (Err fault)
      → HasImageFault file fault
  fault_is fault make =
      inr (record {
        layout = layout;
        has_layout = is.has_layout;
        lacks = strips_make_the_image file layout (Err fault) is.cut.shape are_strips make;
      })

  pub known_fault : (fault : ImageFault) → keeping.fault ≡ Some fault → HasImageFault file fault
  known_fault fault known = fault_is fault (subst (λ (f : Option ImageFault). HasCome layout.shape.structure
      (strips_of file layout) keeping f) known is.come)

  module _ (all : keeping.strips ≡ length (strips_of file layout)) (none : keeping.fault ≡ None) where
    has_kept : HasKept layout.shape.structure (strips_of file layout) keeping.strips keeping.lines keeping.pixels
    has_kept = subst (λ (f : Option ImageFault). HasCome layout.shape.structure (strips_of file layout) keeping f)
        none is.come

    none_left : drop keeping.strips (strips_of file layout) ≡ []
    none_left = drop_all keeping.strips (strips_of file layout) (omega (arith, all))

    -- lines are missing
    pub short_is : keeping.lines < layout.shape.structure.lines → (count : ℕ)
        → count ≡ keeping.lines * layout.shape.structure.columns → HasImageFault file (Short count)
    short_is few count counts = subst (λ (n : ℕ). HasImageFault file (Short n)) (sym counts)
        (fault_is (Short (keeping.lines * layout.shape.structure.columns))
        (made_short layout.shape.structure (strips_of file layout) keeping.strips keeping.lines keeping.pixels has_kept
        none_left few))

    module _ (enough : layout.shape.structure.lines ≤ keeping.lines) where
      pub has_pixels : HasPixels file layout.header_bytes layout.shape.structure layout.shape.lossless keeping.pixels
      has_pixels = strips_make_the_image file layout (Ok keeping.pixels) is.cut.shape are_strips
          (made_all layout.shape.structure (strips_of file layout) keeping.strips keeping.lines keeping.pixels has_kept
          none_left enough)

      pub is_picture : IsPicture (record {
        bits = layout.shape.structure.bits;
        columns = layout.shape.structure.columns;
        lines = layout.shape.structure.lines;
        pixels = keeping.pixels;
      })
      is_picture = makes_picture file layout.header_bytes layout.shape.structure layout.shape.lossless keeping.pixels
          is.cut.shape has_pixels

      pub is_image : (columns lines : ℕ) → columns ≡ layout.shape.structure.columns
          → lines ≡ layout.shape.structure.lines
          → IsImageOf file (record {
            bits = layout.shape.structure.bits;
            columns = columns;
            lines = lines;
            pixels = keeping.pixels;
          })
      is_image columns lines wide high = record {
        layout = layout;
        has_layout = is.has_layout;
        bits = refl;
        columns = wide;
        lines = high;
        pixels = has_pixels;
      }
