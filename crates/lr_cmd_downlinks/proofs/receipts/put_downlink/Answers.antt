use Rattle.std.proofs.Common.{List, ℕ, [], ◌∷◌, subst, sym, append-nil}
use Rattle.std.specs.List.{flat_map}
use Rattle.std.proofs.lemmas.Grind.{flat_map-append}
use Rattle.lr_causes.proofs.Joining.{so_more, so_fails}
use Rattle.lr_causes.specs.Puts.{Puts, PutFails}
use Rattle.lr_downlinks.specs.Receipts.{receipts_of}
use Rattle.lr_cmd_downlinks.specs.Lines.{receipt_line}
use Rattle.lr_cmd_downlinks.proofs.receipts.put_downlink.Goals as goal

pub returns-in-Err-clause-failed : goal.returns-in-Err-clause-failed
returns-in-Err-clause-failed g c =
    so_fails g.O.Sink (flat_map receipt_line)
    (receipts_of c.args.run.now.base c.args.run.now.order c.args.downlink) c.args.out.now
    (λ xs ys. flat_map-append receipt_line xs ys) c.receipts.receipts (c.in-Some.receipt ∷ []) c.next.new.self
    c.receipts.out c.put_receipt.new.out c.receipts.invariant.so_far c.in-Some.ensures.steps
    (subst (λ (l : List ℕ). PutFails g.O.Sink l c.receipts.out c.put_receipt.new.out)
    (sym (append-nil (receipt_line c.in-Some.receipt))) c.in-Err.ensures.failed)

pub receipts-preserved : goal.receipts-preserved
receipts-preserved g c = record {
  can_next = tt;
  is_finite = tt;
  so_far =
      so_more g.O.Sink (flat_map receipt_line)
      (receipts_of c.args.run.now.base c.args.run.now.order c.args.downlink) c.args.out.now
      (λ xs ys. flat_map-append receipt_line xs ys) c.receipts.receipts (c.in-Some.receipt ∷ []) c.next.new.self
      c.receipts.out c.put_receipt.new.out c.receipts.invariant.so_far c.in-Some.ensures.steps
      (subst (λ (l : List ℕ). Puts g.O.Sink l c.receipts.out c.put_receipt.new.out)
      (sym (append-nil (receipt_line c.in-Some.receipt))) c.in_default-put_receipt.ensures.put);
}
