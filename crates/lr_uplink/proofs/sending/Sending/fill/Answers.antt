use Rattle.std.proofs.Common.{◌≡◌, ◌∙◌, length, take, drop, get_or, set, sym, ap, subst}
use Rattle.std.proofs.Common.{arith, inl, inr, length-set, drop-drop, add-zero}
use Rattle.std.proofs.lemmas.Bool.{cases_eq}
use Rattle.std.proofs.lemmas.Grind.{same_number_lists}
use Rattle.std.proofs.lemmas.List.{get_or-set_same, get_or-set_other, get_or-drop, get_or-take, length-take-le}
use Rattle.lr_bits.specs.declared.sizes.TheConstants.{ZONE_BYTES}
use Rattle.lr_uplink.specs.Progress.{IsSending}
use Rattle.lr_uplink.proofs.sending.Sending.fill.Goals as goal

pub loop-place-init : goal.loop-place-init
loop-place-init c = record {
  long = c.told-zone;
  stands = λ file count rest s. s;
  bytes = λ file count rest s i h. absurd (omega arith);
}

pub loop-place-preserved : goal.loop-place-preserved
loop-place-preserved c =
    let place = c.loop-place.place in
    let zone = c.loop-place.zone in
    let byte = c.next_byte.result in
    let kept = c.loop-place.invariant in
    record {
      long = length-set zone place byte ∙ kept.long;
      stands = λ file count rest s.
          subst (IsSending c.next_byte.new.self file count) (drop-drop 1 place rest)
          (c.next_byte.ensures.moves file count (drop place rest) (kept.stands file count rest s));
      bytes = λ file count rest s i h. elim (cases_eq i place) [
        | inl e ↦
            ap (λ k. get_or (set zone place byte) k 0) e
            ∙ get_or-set_same zone place byte 0 (omega (arith, kept.long))
            ∙ c.next_byte.ensures.byte file count (drop place rest) (kept.stands file count rest s)
            ∙ get_or-drop place rest 0 0 ∙ ap (λ k. get_or rest k 0) (add-zero place ∙ sym e)
        | inr ne ↦
            get_or-set_other zone place i byte 0 (λ h. ne (omega (arith, h)))
            ∙ kept.bytes file count rest s i (omega (arith, ne))
      ];
    }

pub returns-clause-zone : goal.returns-clause-zone
returns-clause-zone c = λ file count rest s enough.
    let zone = c.loop-place.zone in
    let kept = c.loop-place.invariant in
    let end : c.loop-place.place ≡ ZONE_BYTES = omega arith in
    let size : length (take ZONE_BYTES rest) ≡ ZONE_BYTES = length-take-le ZONE_BYTES rest enough in
    same_number_lists zone (take ZONE_BYTES rest) (kept.long ∙ sym size) (λ i h.
    kept.bytes file count rest s i (omega (arith, kept.long))
    ∙ sym (get_or-take ZONE_BYTES rest i 0 (omega (arith, kept.long))))

pub returns-clause-moves : goal.returns-clause-moves
returns-clause-moves c = λ file count rest s.
    let end : c.loop-place.place ≡ ZONE_BYTES = omega arith in
    subst (λ k. IsSending c.loop-place.self file count (drop k rest)) end
    (c.loop-place.invariant.stands file count rest s)
