use Rattle.std.proofs.Common.{ℤ, [], length, ap, refl, arith, rules, length-drop}
use Rattle.lr_reading.proofs.symbols.SymbolFeed.new.Goals as goal

pub returns-clause-fresh : goal.returns-clause-fresh
returns-clause-fresh c =
    let lock = c.in_ok-lock.ensures in
    record { stands = lock.stands; unfinished = lock.unfinished; taken = refl; most_is = refl; short = refl }

pub invariant_of-result : goal.invariant_of-result
invariant_of-result c =
    let stands = c.in_ok-lock.ensures.stands in
    let within = stands.within in
    let short = ap length stands.rest in (
      search rules,
      omega arith,
      c.requires,
      omega (arith, short, length-drop {A = ℤ} c.in_ok-lock.lock.place []),
      omega (arith, short, length-drop {A = ℤ} c.in_ok-lock.lock.place []),
    )
