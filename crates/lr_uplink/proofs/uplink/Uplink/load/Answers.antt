use Rattle.std.proofs.Common.{◌≡◌, ◌∙◌, ◌+◌, ◌%◌, sym, subst, arith, rules, ℕ, length, unwrap_or}
use Rattle.std.proofs.lemmas.List.Elements.{All-push}
use Rattle.lr_file.specs.Standing.{kept_of_key}
use Rattle.lr_sent.specs.Sent.{AreSentFor}
use Rattle.lr_uplink.specs.Pieces.{SetsCount}
use Rattle.lr_uplink.specs.Received.{IsSendable}
use Rattle.lr_uplink.specs.Sent.{packets_before}
use Rattle.lr_vc.proofs.Stands.{at_ok}
use Rattle.lr_uplink.proofs.UnderWay.{counts_more, frames_stay, given_most, loaded, rests}
use Rattle.lr_uplink.proofs.uplink.Uplink.load.Goals as goal

pub returns-clause-loaded : goal.returns-clause-loaded
returns-clause-loaded c = λ line history s all.
    let self = c.args.self.now in
    let file = c.args.file in
    let count : ℕ = c.count_of-count.result in
    let next : ℕ = (count + c.packets.result % 65536) % 65536 in
    let kept : count ≡ unwrap_or (kept_of_key self.counts file.vc file.apid) 0 =
    c.count_of-count.ensures
    ∙ (λ i. unwrap_or (kept_of_key self.counts (c.vc-vc.ensures.value i) (c.apid-apid.ensures.value i)) 0) in
    let value : count ≡ packets_before file.vc file.apid history.files % 65536 =
    kept ∙ s.counts.each file.vc file.apid in
    let sets : SetsCount self.counts c.set_count.new.self c.vc-vc.result c.apid-apid.result next =
    at_ok c.set_count.result (sym c.is_err.ensures.value ∙ c.if-is_err.false) (c.set_count.ensures.ok s.counts.once) in
    let own : SetsCount self.counts c.set_count.new.self file.vc file.apid next =
    subst (λ vc. SetsCount self.counts c.set_count.new.self vc file.apid next) c.vc-vc.ensures.value
    (subst (λ apid. SetsCount self.counts c.set_count.new.self c.vc-vc.result apid next) c.apid-apid.ensures.value
    sets) in
    let most = given_most self.counters self.sending history.files history.given s.frames in
    record {
      files = All-push IsSendable history.files file s.files (record {
        is = c.new.ensures.sending.part.is;
        channel = omega (arith, c.vc-vc.ensures.value, c.vc-vc.ensures.fits, c.if-vc-eq-FILL_CHANNEL.false);
        bytes = c.new.ensures.bytes;
      });
      counts = counts_more self.counts c.set_count.new.self history.files file next s.counts own
          (omega (arith, kept, c.packets.ensures));
      frames =
          loaded self.counters history.files history.given file c.new.result count
          (rests self.counters self.sending history.files history.given s.frames all) value c.new.ensures.sending;
      given = s.given;
      blocks =
          subst (λ fs. AreSentFor fs history.blocks)
          (sym (frames_stay history.files file (length history.blocks) (omega (arith, s.given, most)))) s.blocks;
      encoder = s.encoder;
    }

pub returns-then-vc-eq-FILL_CHANNEL-clause-fill : goal.returns-then-vc-eq-FILL_CHANNEL-clause-fill
returns-then-vc-eq-FILL_CHANNEL-clause-fill c = search (rules, arith)
