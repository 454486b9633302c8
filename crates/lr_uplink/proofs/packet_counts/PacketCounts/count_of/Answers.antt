use Rattle.std.proofs.Common.{◌∙◌, ap, ℕ, List, unwrap_or}
use Rattle.lr_file.specs.Standing.{kept_of_key}
use Rattle.lr_file.proofs.KeyLemmas.{get-kept}
use Rattle.lr_uplink.proofs.packet_counts.PacketCounts.count_of.Goals as goal

pub returns : goal.returns
returns c =
    c.unwrap_or.ensures ∙ ap (λ o. unwrap_or o 0)
    (c.copied.ensures ∙ c.get.ensures.value ∙ get-kept c.self.inside.counts c.args.vc c.args.apid
    ∙ ap (λ (kept : List ((ℕ × ℕ) × ℕ)). kept_of_key kept c.args.vc c.args.apid) c.self.view_is)
