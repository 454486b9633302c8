use Rattle.std.proofs.Common.{◌∙◌, sym, ℕ, List, cond, Some, subst}
use Rattle.lr_file.proofs.KeyLemmas.{get-kept, is_at-key}
use Rattle.lr_uplink.specs.Pieces.{SetsCount}
use Rattle.lr_uplink.proofs.packet_counts.PacketCounts.set_count.Goals as goal

pub returns-clause-ok : goal.returns-clause-ok
returns-clause-ok c once =
    let old = c.self.inside.counts in
    let new = c.insert.new.self in
    subst (λ (kept : List ((ℕ × ℕ) × ℕ)). SetsCount kept new.entries c.args.vc c.args.apid c.args.count) c.self.view_is
    (record {
      once = c.in_ok-insert.ensures.ordered;
      values = λ vc apid.
          sym (get-kept new vc apid) ∙ c.in_ok-insert.ensures.updates.0 (vc, apid)
          ∙ (λ i. cond (is_at-key (c.args.vc, c.args.apid) (vc, apid) i) (Some c.args.count) (get-kept old vc apid i));
    })
