-- What a consumer of outcomes needs to know of them: a whole frame's zone has 884 bytes.
use Rattle.std.proofs.Common.{◌≡◌, ℕ, Bool, true, false, List, length, Result, Ok, Err, ap, ◌∙◌, sym, arith}
use Rattle.std.proofs.Common.{length-drop}
use Rattle.std.specs.Prelude.{◌==◌, if◌then◌else◌}
use Rattle.lr_vc.specs.Frame.{Fields, frame_of, fields_of, version_of}
use Rattle.lr_bits.specs.declared.sizes.TheConstants.{FRAME_BYTES, ZONE_BYTES}

abbrev read_at : List ℕ → Bool → Result Fields ℕ
read_at frame b = if b then Ok (fields_of frame) else Err (version_of frame)

-- the zone of a frame of 892 bytes has 884
pub zone_is : (frame : List ℕ) (fields : Fields) → length frame ≡ FRAME_BYTES → frame_of frame ≡ Ok fields
    → length fields.zone ≡ ZONE_BYTES
zone_is frame fields whole is = cases (version_of frame == 1) is where
  cases : (b : Bool) → read_at frame b ≡ Ok fields → length fields.zone ≡ ZONE_BYTES
  cases true e =
      let same : fields_of frame ≡ fields = cc in
      ap (λ (f : Fields). length f.zone) (sym same) ∙ length-drop 8 frame ∙ omega (arith, whole)
  cases false e = cc
