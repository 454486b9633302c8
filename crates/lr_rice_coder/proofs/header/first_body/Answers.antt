use Rattle.std.proofs.Common.{◌+◌, ◌*◌, ◌++◌, [], ℕ, List, length, ap, ◌∙◌}
use Rattle.lr_bits.specs.Written.{primary_record, transport_header}
use Rattle.lr_rice_coder.specs.Fronts.{front_with, picture_with}
use Rattle.lr_rice_coder.specs.Repacked.{lossless_record, lossless_structure}
use Rattle.lr_rice_coder.proofs.header.first_body.Goals as goal

pub returns : goal.returns
unfolding front_with
returns c =
    let others = c.args.others.now in
    let size = 32 + length others in
    c.in_ok-extend.ensures.ok
    ∙ ap (λ (l : List ℕ). l ++ others) (c.in_ok-put_lossless.ensures
    ∙ ap (λ (l : List ℕ). l ++ lossless_record c.args.block) (c.in_ok-put_structure.ensures
    ∙ ap (λ (l : List ℕ). l ++ lossless_structure (picture_with c.args.structure [])) (c.in_ok-put_primary.ensures
    ∙ ap (λ (l : List ℕ). l ++ primary_record 0 size (8 * c.args.size)) (c.in_ok-put_transport.ensures
    ∙ ap (λ (l : List ℕ). l ++ transport_header c.args.counter (8 * (size + c.args.size))) c.new-front.ensures))))
