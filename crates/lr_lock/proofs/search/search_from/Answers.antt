use Rattle.std.proofs.Common.{refl, sym, subst, arith}
use Rattle.lr_lock.specs.Search.{FindsFrame, Searching}
use Rattle.lr_lock.specs.declared.search.Found.{Found}
use Rattle.lr_lock.proofs.Looking.{searched, found, sees_at, waits_at}
use Rattle.lr_lock.proofs.search.search_from.Goals as goal

pub returns-in-Some-clause-seen : goal.returns-in-Some-clause-seen
returns-in-Some-clause-seen c fed last h e at =
    let search : Searching = record { last = last; place = c.args.place; needed = c.args.needed } in
    let on = searched c.args.tail.now fed c.args.symbols.now search e h c.args.start c.first_hit-hit.result.place at
    c.first_hit-hit.ensures.from c.requires.needed c.first_hit-hit.ensures.whole c.first_hit-hit.ensures.passed in
    let ended = rw c.in-Some.is at c.first_hit-hit.ensures.ended in
    let locked = rw c.in-Some.is at c.first_hit-hit.ensures.locked in
    subst (λ (s : Found). FindsFrame c.args.tail.now fed search s) (sym c.found_frame.ensures)
    (sees_at c.args.tail.now fed c.args.symbols.now search e h c.first_hit-hit.result.place _
    (found c.args.tail.now fed c.args.symbols.now search e h c.first_hit-hit.result.place c.in-Some.positive
    on (omega (arith, ended)) locked)
    refl ended)

pub returns-in-None-clause-seen : goal.returns-in-None-clause-seen
returns-in-None-clause-seen c fed last h e at =
    let search : Searching = record { last = last; place = c.args.place; needed = c.args.needed } in
    let on = searched c.args.tail.now fed c.args.symbols.now search e h c.args.start c.first_hit-hit.result.place at
    c.first_hit-hit.ensures.from c.requires.needed c.first_hit-hit.ensures.whole c.first_hit-hit.ensures.passed in
    let ended = rw c.in-None.is at c.first_hit-hit.ensures.ended in
    waits_at c.args.tail.now fed c.args.symbols.now search e h c.first_hit-hit.result.place _ on
    c.first_hit-hit.ensures.within ended
