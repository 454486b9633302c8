use Rattle.std.proofs.Common.{◌≡◌, ℕ, ◌+◌, ◌<◌, ap, sym, ◌∙◌, length, arith}
use Rattle.std.proofs.lemmas.Bool.Decides.{nat_tests}
use Rattle.std.specs.Option.{option_map}
use Rattle.lr_mend.specs.Marks.{file_with, mark_record, mark_text}
use Rattle.lr_mend.proofs.Marking.{first_in, length-record, long_body, marked-some, not_marked}
use Rattle.lr_bits.specs.Sizes.{most_body_bytes}
use Rattle.lr_mend.proofs.marks.mark.Goals as goal

pub returns-then-as_slice-from : goal.returns-then-as_slice-from
returns-then-as_slice-from c =
    let file = c.args.file in
    let places = c.args.places.now in
    let text = mark_text places (length file.bodies) in
    let some : length places ≡ 0 → ⊥ = grind (arith, nat_tests) in
    let is : c.in_ok-text.text ≡ text =
    c.in_ok-text.ensures ∙ ap (λ (n : ℕ). mark_text places n) c.packets.ensures in
    let long : most_body_bytes < first_in file + length (mark_record text) =
    omega (arith, c.if-as_slice-from.true, ap length c.as_slice.ensures, ap length is, length-record text) in
    ap (option_map (file_with places)) (not_marked (mark_record text) file (long_body (mark_record text) file long))
    ∙ sym (marked-some file places some)
