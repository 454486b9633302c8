use Rattle.std.proofs.Common.{◌≡◌, ◌≤◌, ◌++◌, ◌-◌, ℕ, Option, take, List, length, map, subst, sym, ap, ◌∙◌}
use Rattle.lr_packet.specs.Verdict.{Good}
use Rattle.lr_packet.specs.Reading.{good}
use Rattle.lr_mend.specs.MendedFiles.{file_of_packet, files_of_gap, mended_file}
use Rattle.lr_mend.specs.Mending.{came, filler_of, gap_before, mended_packets}
use Rattle.lr_mend.specs.declared.marks.MarkedFile.{MarkedFile}
use Rattle.lr_mend.proofs.GapFiles.{one_file, popped}
use Rattle.lr_mend.proofs.MendedTaking.{stands_more}
use Rattle.lr_mend.proofs.mended.take_mended.Goals as goal

of_packet : (most : ℕ) (packets : List Good) (p : Good) (file : Option MarkedFile) →
    file ≡ mended_file (mended_packets most packets ++ map filler_of (gap_before most packets p)) (came p) →
    file ≡ file_of_packet most packets p
unfolding file_of_packet
of_packet most packets p file is = is

pub returns-clause-takes : goal.returns-clause-takes
returns-clause-takes c packets some stands =
    let p = good c.args.packet.now in
    let most = c.args.mender.now.most in
    let all = c.take_packet.new.out.items in
    let takes = c.in_ok-by_packet.ensures.takes packets stands.images stands.files (stands.seams some) in
    let is : all ≡ files_of_gap most packets p =
    c.in_ok-by_packet.ensures.gap packets stands.images stands.files (stands.seams some)
    ∙ ap (λ (l : List MarkedFile). l ++ files_of_gap most packets p) c.new-ended.ensures.items in
    let few : length all ≤ 1 = subst (λ (l : List MarkedFile). length l ≤ 1) (sym is) (one_file most packets p) in
    record {
      stands = stands_more c.take_packet.new.mender c.take_packet.new.files c.take_packet.new.seams most packets p
          c.in_ok-by_packet.by_packet c.in_ok-by_packet.ensures.most
          (c.in_ok-by_packet.ensures.images packets stands.images) takes;
      gap = popped all _ c.pop.result few c.pop.ensures.items
          (c.pop.ensures.rest ∙ ap (λ n. take (n - 1) all) c.take_packet.new.out.ok.0) ∙ is;
      file = of_packet most packets p _ takes.ends;
    }
