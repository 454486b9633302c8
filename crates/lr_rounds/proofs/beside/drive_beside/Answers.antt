use Rattle.std.proofs.Common.{rules, vec_len}
use Rattle.lr_rounds.proofs.Beginning.{may_begin}
use Rattle.lr_rounds.proofs.beside.drive_beside.Goals as goal

pub with_pool-requires-clause-needs : goal.with_pool-requires-clause-needs
with_pool-requires-clause-needs g c κs within = record {
  cells = c.pool.inside.cells;
  gate = c.pool.inside.gate;
  begins = may_begin g.L.JobSource.terms c.pool.inside.gate c.pool.inside.conductor c.pool.inside.seats.items
      (vec_len c.pool.inside.works) _ c.pool.invariant c.args.source.now c.requires;
  may = λ conductor own source going. (going, (search rules, search rules, search rules, search rules));
  makes = λ conductor own source answer after own_after lead_after made. made;
}

pub returns-in-Ok-clause-all : goal.returns-in-Ok-clause-all
returns-in-Ok-clause-all g c = λ start begins. tt
