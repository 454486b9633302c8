use Rattle.lr_reading.proofs.symbol_parts.SymbolParts.new.Goals as goal

pub returns-clause-pool : goal.returns-clause-pool
returns-clause-pool g c = c.in_ok-pool.ensures
