use Rattle.std.proofs.Common.{◌-◌, ◌+◌, List, ℕ, [], ◌∷◌, subst, sym, append-nil, arith}
use Rattle.std.specs.List.{flat_map, range_with_len}
use Rattle.std.proofs.lemmas.Grind.{flat_map-append}
use Rattle.lr_causes.proofs.Joining.{so_more, so_fails}
use Rattle.lr_causes.specs.Puts.{Puts, PutFails}
use Rattle.lr_cmd_downlinks.specs.Lines.{downlink_lines}
use Rattle.lr_cmd_downlinks.proofs.Numbers.{next_first}
use Rattle.lr_cmd_downlinks.proofs.receipts.put_receipts.Goals as goal

pub returns-in-Err-clause-failed : goal.returns-in-Err-clause-failed
returns-in-Err-clause-failed g c =
    let lines = downlink_lines c.args.run.now.base c.args.run.now.order in
    let at = c.downlinks.downlink in
    so_fails g.O.Sink (flat_map lines) (range_with_len 0 c.args.count) c.args.out.now
    (λ xs ys. flat_map-append lines xs ys) (range_with_len at (c.args.count - at)) (at ∷ [])
    (range_with_len (at + 1) (c.args.count - (at + 1))) c.downlinks.out c.put_downlink.new.out
    c.downlinks.invariant.so_far (next_first at c.args.count c.downlinks-test.true)
    (subst (λ (l : List ℕ). PutFails g.O.Sink l c.downlinks.out c.put_downlink.new.out)
    (sym (append-nil (lines at))) c.in-Err.ensures.failed)

pub downlinks-preserved : goal.downlinks-preserved
downlinks-preserved g c =
    let lines = downlink_lines c.args.run.now.base c.args.run.now.order in
    let at = c.downlinks.downlink in
    record {
      inside = omega (arith, c.downlinks-test.true);
      few = c.downlinks.invariant.few;
      so_far =
          so_more g.O.Sink (flat_map lines) (range_with_len 0 c.args.count) c.args.out.now
          (λ xs ys. flat_map-append lines xs ys) (range_with_len at (c.args.count - at)) (at ∷ [])
          (range_with_len (at + 1) (c.args.count - (at + 1))) c.downlinks.out c.put_downlink.new.out
          c.downlinks.invariant.so_far (next_first at c.args.count c.downlinks-test.true)
          (subst (λ (l : List ℕ). Puts g.O.Sink l c.downlinks.out c.put_downlink.new.out)
          (sym (append-nil (lines at))) c.in_default.ensures.put);
    }
