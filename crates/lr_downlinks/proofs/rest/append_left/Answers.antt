use Rattle.std.proofs.Common.{ap, subst, ◌∙◌, sym, Ok, arith, length}
use Rattle.lr_downlinks.specs.Appending.{AppendsNext, downlink_files}
use Rattle.lr_downlinks.proofs.Leftover.{all_there, goes_on, left_at, one_more, still_works, works_on}
use Rattle.lr_downlinks.proofs.rest.append_left.Goals as goal

pub files-smaller : goal.files-smaller
files-smaller g c =
    let next = subst
    (λ files. AppendsNext g.D.Disk (downlink_files c.args.downlink files) c.files.book c.append_next.new.self
    c.append_next.result)
    c.requires.files c.append_next.ensures.appends in
    let more = one_more g.D.Disk g.N.RunStart.start c.args.downlink c.files.book c.append_next.new.self
    c.append_next.result next (c.in-Ok-true.is ∙ ap Ok c.in-Ok-true.field-0-test) in
    let size = ap (λ files. length files) c.requires.files in
    omega (arith, more.0, more.1, size)

pub files-preserved : goal.files-preserved
files-preserved g c =
    let next = subst
    (λ files. AppendsNext g.D.Disk (downlink_files c.args.downlink files) c.files.book c.append_next.new.self
    c.append_next.result)
    c.requires.files c.append_next.ensures.appends in
    let on = goes_on g.D.Disk g.N.RunStart.start c.args.downlink c.files.book c.append_next.new.self
    c.append_next.result next in
    record {
      on = λ downlink. omega (arith, on downlink, c.files.invariant.on downlink);
      works = still_works g.D.Disk g.N.RunStart.start c.args.downlink c.files.book c.append_next.new.self
          c.append_next.result next c.append_next.ensures.was c.files.invariant.works
          (c.in-Ok-true.is ∙ ap Ok c.in-Ok-true.field-0-test);
    }

pub returns-in-Ok-false : goal.returns-in-Ok-false
returns-in-Ok-false g c =
    let next = subst
    (λ files. AppendsNext g.D.Disk (downlink_files c.args.downlink files) c.files.book c.append_next.new.self
    c.append_next.result)
    c.requires.files c.append_next.ensures.appends in
    let on = goes_on g.D.Disk g.N.RunStart.start c.args.downlink c.files.book c.append_next.new.self
    c.append_next.result next in
    let is = c.in-Ok-false.is ∙ ap Ok c.in-Ok-false.field-0-test in
    record {
      goes_on = λ downlink. omega (arith, on downlink, c.files.invariant.on downlink);
      is = c.append_next.ensures.is;
      all =
          all_there g.D.Disk g.N.RunStart.start c.args.downlink c.files.book c.append_next.new.self
          c.append_next.result next c.append_next.ensures.was c.requires.known is
          ∙ sym (ap (λ files. length files) c.requires.files);
      works = works_on g.D.Disk g.N.RunStart.start c.args.downlink c.files.book c.append_next.new.self
          c.append_next.result next c.append_next.ensures.was c.files.invariant.works is;
      left = tt;
    }

pub returns-in-Err : goal.returns-in-Err
returns-in-Err g c =
    let next = subst
    (λ files. AppendsNext g.D.Disk (downlink_files c.args.downlink files) c.files.book c.append_next.new.self
    c.append_next.result)
    c.requires.files c.append_next.ensures.appends in
    let on = goes_on g.D.Disk g.N.RunStart.start c.args.downlink c.files.book c.append_next.new.self
    c.append_next.result next in
    record {
      goes_on = λ downlink. omega (arith, on downlink, c.files.invariant.on downlink);
      is = c.append_next.ensures.is;
      all = tt;
      works = tt;
      left = left_at g.D.Disk g.N.RunStart.start c.args.downlink c.files.book c.append_next.new.self
          c.append_next.result next c.append_next.ensures.was c.files.invariant.works c.in-Err.error c.in-Err.is;
    }
