use Rattle.std.proofs.Common.{arith, ap, ◌∙◌, ◌+◌, ◌*◌, ◌%◌, get_or, bit_xor, sym}
use Rattle.std.proofs.lemmas.Simd.{length-zip2, get_or-zip2}
use Rattle.lr_rs.proofs.Remainders.{product-is}
use Rattle.lr_rs.specs.declared.generator.TheConstants.{LOW_PRODUCTS}
use Rattle.lr_rs.proofs.generator.generator_products.Goals as goal

pub returns-clause-size : goal.returns-clause-size
returns-clause-size c =
    length-zip2 bit_xor c.row_at-low.result c.row_at.result (c.row_at-low.ensures.size ∙ sym c.row_at.ensures.size)
    ∙ c.row_at-low.ensures.size

pub returns-clause-value : goal.returns-clause-value
returns-clause-value c = λ k l.
    let a = c.args.element in
    get_or-zip2 bit_xor c.row_at-low.result c.row_at.result k 0 0 0
    (omega (arith, c.row_at-low.ensures.size)) (omega (arith, c.row_at.ensures.size))
    ∙ ap (λ z. bit_xor z (get_or c.row_at.result k 0)) (c.row_at-low.ensures.value k l)
    ∙ ap (bit_xor (get_or LOW_PRODUCTS (32 * (a % 16) + k) 0)) (c.row_at.ensures.value k l)
    ∙ product-is a k (omega arith) l
