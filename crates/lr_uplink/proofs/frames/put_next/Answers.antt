use Rattle.std.proofs.Common.{◌∙◌, ◌≤◌, ◌*◌, ap, ap₂, arith, ℕ, List, drop, take, length, length-drop}
use Rattle.std.specs.List.{concat}
use Rattle.lr_bits.specs.declared.sizes.TheConstants.{ZONE_BYTES}
use Rattle.lr_make.specs.Frames.{frame_for_zone}
use Rattle.lr_uplink.specs.Packets.{file_packets}
use Rattle.lr_uplink.specs.Sent.{sent_zone_at}
use Rattle.lr_uplink.proofs.frames.put_next.Goals as goal

pub returns-clause-frame : goal.returns-clause-frame
unfolding sent_zone_at
returns-clause-frame c = λ file count t room s.
    let packets : List (List ℕ) = file_packets count file in
    let rest : List ℕ = drop (ZONE_BYTES * t) (concat packets) in
    let enough : ZONE_BYTES ≤ length rest = omega (arith, length-drop (ZONE_BYTES * t) (concat packets)) in
    c.put_frame.ensures
    ∙ ap₂ (λ vc zone. frame_for_zone vc c.args.counter c.pointer-pointer.result zone)
    (c.vc-vc.ensures.value ∙ ap (λ f. f.vc) s.part.same) (c.fill.ensures.zone file count rest s enough)
    ∙ ap (λ pointer. frame_for_zone file.vc c.args.counter pointer (take ZONE_BYTES rest))
    (c.pointer-pointer.ensures.value file count t room s)
