use Rattle.std.proofs.Common.{◌≡◌, ℕ, List, [], Result, Ok, length, refl, rules, arith}
use Rattle.lr_catalog.specs.Entries.{shelf_line}
use Rattle.lr_causes.specs.declared.cause.Refusal.{Refusal}
use Rattle.lr_cmd_shelf.proofs.list.ListAllReadsFiles.last.Goals as goal

some_text : (count used capacity : ℕ) (none : Result (List ℕ) Refusal) → none ≡ Ok []
    → Ok (shelf_line count used capacity) ≡ none → ⊥
unfolding shelf_line
some_text count used capacity none is says = cc

pub returns-in_err-put_shelf-clause-sure : goal.returns-in_err-put_shelf-clause-sure
returns-in_err-put_shelf-clause-sure g c = λ read gathered none.
    let shelf = c.args.shelf.now in
    absurd (some_text (length shelf.entries.items) shelf.end shelf.capacity (Ok []) refl none)

pub returns-in_err-put_shelf-clause-stops : goal.returns-in_err-put_shelf-clause-stops
returns-in_err-put_shelf-clause-stops g c = search (rules, arith)

pub returns-clause-puts : goal.returns-clause-puts
returns-clause-puts g c = search (rules, arith)
