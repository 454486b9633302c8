use Rattle.lr_rs.proofs.VectorStep.{step_is}
use Rattle.lr_rs.proofs.division.divide_step.Goals as goal

pub returns : goal.returns
returns c =
    step_is c.args.coefficient c.args.remainder c.generator_products.result c.requires.size
    c.generator_products.ensures.size c.generator_products.ensures.value
