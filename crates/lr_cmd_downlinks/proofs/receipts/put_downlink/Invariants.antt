use Rattle.std.specs.List.{flat_map}
use Rattle.lr_causes.proofs.Joining.{PutSoFar}
use Rattle.lr_downlinks.specs.Receipts.{receipts_of}
use Rattle.lr_cmd_downlinks.specs.Lines.{receipt_line}
use Rattle.lr_cmd_downlinks.proofs.receipts.put_downlink.Given as goal

-- the lines of the receipts before those that are left were put
abbrev pub invariant-receipts : goal.invariant-receipts
invariant-receipts g l = record {
  can_next : (goal.iterator-receipts g).can_next l.receipts;
  is_finite : (goal.iterator-receipts g).is_finite l.receipts;
  so_far : PutSoFar g.O.Sink (flat_map receipt_line) (receipts_of l.run.base l.run.order l.downlink) l.fn.out l.receipts
      l.out;
}
