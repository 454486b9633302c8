use Rattle.std.proofs.Common.{◌*◌, replicate, ap, ◌∙◌, arith}
use Rattle.lr_rice.specs.Samples.{places_after, samples_from, site_of}
use Rattle.lr_rice.proofs.BlockLemmas.{run_written}
use Rattle.lr_rice.proofs.part.decode_run.Goals as goal

pub returns-clause-ok : goal.returns-clause-ok
returns-clause-ok c =
    let site = c.args.site in
    run_written (site_of site) c.args.p c.args.reader.now c.read_run.new.reader
    c.args.out.now c.repeat_sample.new.out c.in_ok-blocks.blocks
    site.least_left (omega (arith, site.least_block)) c.requires c.in_ok-blocks.ensures.ok
    (c.repeat_sample.ensures
    ∙ ap (λ most. places_after c.args.out.now
    (samples_from most c.args.p (replicate (c.in_ok-blocks.blocks * site.block) 0))) c.most_of-most.ensures.value)
