use Rattle.std.proofs.Common.{◌≡◌, ap, subst, ◌∙◌, sym, arith, length}
use Rattle.std.specs.Prelude.{IfSome}
use Rattle.lr_downlinks.specs.Ending.{IsLeftAt}
use Rattle.lr_downlinks.specs.Members.{IsMember}
use Rattle.lr_downlinks.specs.Merge.{times_in_order}
use Rattle.lr_downlinks.specs.Start.{files_in}
use Rattle.lr_downlinks.proofs.Leftover.{done_more, done_still, ends_full}
use Rattle.lr_downlinks.proofs.rest.append_rest.Goals as goal

pub append_left-requires : goal.append_left-requires
append_left-requires g c =
    let start = g.N.RunStart.start in
    let place = c.loop-member.member-index in
    let member = subst (λ m. IsMember start place m) (sym c.member-item.is)
    (c.requires.members.each place c.member-item.result c.loop-member-test.true) in
    let files = subst (λ o. IfSome o (λ f. f.items ≡ files_in start place)) c.in-Some.is member.files_are in
    record {
      known = omega (arith, member.known, member.downlink_is);
      files = c.deref.ensures.value ∙ files ∙ ap (λ k. files_in start k) (sym member.downlink_is);
      working = c.loop-member.invariant.works;
    }

pub loop-member-preserved : goal.loop-member-preserved
loop-member-preserved g c =
    let start = g.N.RunStart.start in
    let place = c.loop-member.member-index in
    let book = c.append_left.new.book in
    let member = subst (λ m. IsMember start place m) (sym c.member-item.is)
    (c.requires.members.each place c.member-item.result c.loop-member-test.true) in
    let files = subst (λ o. IfSome o (λ f. f.items ≡ files_in start place)) c.in-Some.is member.files_are in
    let here = ap (λ k. times_in_order k book.order) (sym member.downlink_is) ∙ c.in-Ok.ensures.all
    ∙ ap (λ l. length l) (c.deref.ensures.value ∙ files) in
    record {
      done =
          done_more start book place
          (done_still start c.loop-member.book book place (omega (arith, member.known)) c.loop-member.invariant.done
          c.append_left.ensures.goes_on c.append_left.ensures.is) here;
      works = c.in-Ok.ensures.works;
    }

-- no memory for the files of a member
pub returns-in_default : goal.returns-in_default
returns-in_default g c = c.loop-member.invariant.works

-- the disk failed
pub returns-in-Err-Disk : goal.returns-in-Err-Disk
returns-in-Err-Disk g c =
    subst (λ e. IsLeftAt g.N.RunStart.start c.member-item.result.downlink c.append_left.new.book e)
    c.in-Err-Disk.field-0-is c.in-Err-Disk.ensures.left

pub returns-in-Err-Capacity : goal.returns-in-Err-Capacity
returns-in-Err-Capacity g c =
    let start = g.N.RunStart.start in
    let place = c.loop-member.member-index in
    let book = c.append_left.new.book in
    let member = subst (λ m. IsMember start place m) (sym c.member-item.is)
    (c.requires.members.each place c.member-item.result c.loop-member-test.true) in
    let left = subst (λ e. IsLeftAt start place book e) c.in-Err-Capacity.field-0-is
    (subst (λ k. IsLeftAt start k book c.in-Err-Capacity.field-0) member.downlink_is c.in-Err-Capacity.ensures.left) in
    rw (c.in-Err-Capacity.needed-is, c.in-Err-Capacity.capacity-is)
    (ends_full start book place c.in-Err-Capacity.needed c.in-Err-Capacity.capacity left member.known
    (done_still start c.loop-member.book book place (omega (arith, member.known)) c.loop-member.invariant.done
    c.append_left.ensures.goes_on c.append_left.ensures.is))
