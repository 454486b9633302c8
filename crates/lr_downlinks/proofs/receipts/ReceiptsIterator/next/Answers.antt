use Rattle.std.proofs.Common.{◌∷◌, ◌+◌, ℕ, List, length, sym, ap, ◌∙◌, rules}
use Rattle.std.proofs.lemmas.List.{take_rest}
use Rattle.lr_downlinks.specs.Receipts.{receipts_from}
use Rattle.lr_downlinks.specs.declared.receipt.Receipt.{Receipt}
use Rattle.lr_downlinks.proofs.Listing.{first_receipt, no_receipt}
use Rattle.lr_downlinks.proofs.receipts.ReceiptsIterator.next.Goals as goal

pub returns-in_err-skipped-clause-steps : goal.returns-in_err-skipped-clause-steps
returns-in_err-skipped-clause-steps c =
    let s = c.self.inside in
    let none = sym c.self.view_is
    ∙ no_receipt s.downlink s.place s.number s.order.now c.in_err-skipped.ensures in
    rw c.from_residual.ensures (none, none)

pub returns-clause-steps : goal.returns-clause-steps
returns-clause-steps c =
    let s = c.self.inside in
    let at = c.in_ok-skipped.skipped in
    let found = c.in_ok-skipped.ensures in
    sym c.self.view_is
    ∙ first_receipt s.downlink s.place s.number s.order.now at found.0 found.1 found.2
    ∙ ap (λ (l : List ℕ).
    (record { downlink = s.downlink; place = s.place; number = s.number + at })
    ∷ receipts_from s.downlink (s.place + 1) (s.number + at + 1) l) (sym (take_rest s.order.now (at + 1)))

pub returns-clause-goes : goal.returns-clause-goes
returns-clause-goes c =
    let s = c.self.inside in
    let at = c.in_ok-skipped.skipped in
    let found = c.in_ok-skipped.ensures in
    let step = sym c.self.view_is
    ∙ first_receipt s.downlink s.place s.number s.order.now at found.0 found.1 found.2
    ∙ ap (λ (l : List ℕ).
    (record { downlink = s.downlink; place = s.place; number = s.number + at })
    ∷ receipts_from s.downlink (s.place + 1) (s.number + at + 1) l) (sym (take_rest s.order.now (at + 1))) in
    let shorter = ap (λ (l : List Receipt). length l) step in
    search rules
