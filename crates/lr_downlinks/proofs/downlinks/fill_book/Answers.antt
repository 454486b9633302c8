use Rattle.std.proofs.Common.{◌≡◌, length, subst, arith}
use Rattle.std.specs.Prelude.{IfOk}
use Rattle.lr_downlinks.specs.Members.{AreMembers}
use Rattle.lr_downlinks.proofs.Running.{members_after}
use Rattle.lr_downlinks.proofs.downlinks.fill_book.Goals as goal

pub end_run-result-requires : goal.end_run-result-requires
end_run-result-requires g c =
    let members = subst (λ m. IfOk m (λ members. AreMembers g.N.RunStart.start members.items)) c.in-Ok.is
    c.requires.members in
    let size : length c.work_beside.new.members ≡ c.in-Ok.members.len =
    omega (
      arith,
      c.work_beside.ensures.all,
      members.all,
      c.in-Ok.members.ok.0,
      c.in-Ok.members.ok.1,
      c.in-Ok.members.small,
    ) in
    members_after g.N.RunStart.start c.work_beside.new.members c.in-Ok.members.len _ c.work_beside.ensures size
    c.deref.result.now c.deref.ensures.value
