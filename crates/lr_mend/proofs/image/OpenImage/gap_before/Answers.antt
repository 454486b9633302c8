use Rattle.std.proofs.Common.{ap}
use Rattle.lr_packet.specs.Reading.{good}
use Rattle.lr_mend.specs.Mending.{Image, fillers_from, gap_of, count_after}
use Rattle.lr_mend.proofs.image.OpenImage.gap_before.Goals as goal

pub returns : goal.returns
unfolding gap_of
returns c =
    let p = good c.args.packet.now in
    let count = ap (λ (i : Image). i.count) c.self.view_is in
    λ i. fillers_from (record {
      vc = p.vc;
      apid = p.apid;
      body = c.filler_body.ensures.value i;
      ends = c.is_over.ensures i;
    }) (c.fillers_before.ensures.value i) (count_after (count i))
