use Rattle.std.proofs.Common.{◌≡◌, ◌++◌, ◌∷◌, [], ℕ, List, ap, ◌∙◌}
use Rattle.std.proofs.lemmas.List.{append_assoc}
use Rattle.byteorder.specs.Endian.{big_bytes}
use Rattle.lr_rice.proofs.ItemLemmas.{OnOk_from}
use Rattle.lr_bits.specs.Written.{primary_record}
use Rattle.lr_rice_coder.proofs.header.put_primary.Goals as goal

pub returns : goal.returns
returns c =
    let old = c.args.front.now in
    let first = 0 ∷ 0 ∷ 16 ∷ 0 ∷ [] in
    let size = big_bytes 4 c.args.size in
    let bits = big_bytes 8 c.args.data_bits in
    OnOk_from c.extend-3.result (c.extend-3.new.self ≡ c.extend-2.new.self ++ c.to_be_bytes-2.result)
    (c.extend-3.new.self ≡ old ++ primary_record 0 c.args.size c.args.data_bits)
    (λ is. is ∙ ap (λ (l : List ℕ). c.extend-2.new.self ++ l) c.to_be_bytes-2.ensures
    ∙ ap (λ (l : List ℕ). l ++ bits) (c.in_ok-extend-2.ensures.ok
    ∙ ap (λ (l : List ℕ). c.extend.new.self ++ l) c.to_be_bytes.ensures
    ∙ ap (λ (l : List ℕ). l ++ size) c.in_ok-extend.ensures.ok ∙ append_assoc old first size)
    ∙ append_assoc old (first ++ size) bits)
    c.extend-3.ensures.ok
