use Rattle.std.proofs.Common.{◌≡◌, true, inr, None, Some, refl, rules, arith}
use Rattle.lr_reading.specs.Feeding.{symbols_from}
use Rattle.lr_reading.proofs.WindowJobs.{some_spare, spare_last, spare_left, spare_again}
use Rattle.lr_reading.proofs.WindowGiving.{gives_window, ends_input, waits_more}
use Rattle.lr_reading.proofs.window_source.next_window.Goals as goal

pub returns-in-Whole-clause-offers : goal.returns-in-Whole-clause-offers
returns-in-Whole-clause-offers g c = λ decoding limit so_far so.
    let going : c.args.intake.now.ended ≡ None = search rules in
    gives_window (symbols_from g.S.Source decoding) limit so (c.is_under_way-under_way.result ≡ true)
    c.is_under_way-under_way.ensures.1 (record c.args.intake.now { feed = c.next.new.self; spare = c.pop.new.self })
    c.next.new.source (omega (arith, c.in-Some.ensures.len)) c.next.new.window
    (c.in-Whole.ensures.feeds decoding so_far.taken (spare_last c.args.intake.now.spare.items c.pop.new.self.items
    c.in-Some.window c.in-Some.ensures.items so.jobs.spare_lines).1 so.feeds) c.in-Whole.ensures.most going refl
    (spare_left c.args.intake.now.spare.items c.pop.new.self.items c.in-Some.window c.in-Some.ensures.items
    so.jobs.spare_lines) (c.in-Whole.ensures.short refl)

pub returns-in-Ended-clause-offers : goal.returns-in-Ended-clause-offers
returns-in-Ended-clause-offers g c = λ decoding limit so_far so. (
  ends_input (symbols_from g.S.Source decoding) limit so (c.is_under_way-under_way.result ≡ true)
      c.is_under_way-under_way.ensures.1 (record c.args.intake.now {
        feed = c.next.new.self;
        spare = c.push_reserved-in-Ended.new.self;
        ended = Some c.in-Ended.stop;
      }) c.next.new.source (omega (arith, c.in-Some.ensures.len)) c.in-Ended.ensures.most refl
      (spare_again c.args.intake.now.spare.items c.pop.new.self.items c.in-Some.window c.in-Some.ensures.items
      so.jobs.spare_lines c.push_reserved-in-Ended.new.self.items c.next.new.window
      c.push_reserved-in-Ended.ensures.items c.in-Ended.ensures.window_line
      c.in-Ended.ensures.window_passes) (omega (
        arith,
        some_spare c.pop.new.self.items c.push_reserved-in-Ended.new.self.items c.next.new.window
            c.push_reserved-in-Ended.ensures.items,
      )) c.in-Ended.stop (c.in-Ended.ensures.feeds decoding so_far.taken
      (spare_last c.args.intake.now.spare.items c.pop.new.self.items
      c.in-Some.window c.in-Some.ensures.items so.jobs.spare_lines).1 so.feeds) refl,
  refl,
)

pub returns-in-Noise-clause-offers : goal.returns-in-Noise-clause-offers
returns-in-Noise-clause-offers g c = λ decoding limit so_far so.
    let going : c.args.intake.now.ended ≡ None = search rules in
    let noise = c.in-Noise.ensures.feeds decoding so_far.taken
    (spare_last c.args.intake.now.spare.items c.pop.new.self.items
    c.in-Some.window c.in-Some.ensures.items so.jobs.spare_lines).1 so.feeds in (
      waits_more (symbols_from g.S.Source decoding) limit so (c.is_under_way-under_way.result ≡ true)
          c.is_under_way-under_way.ensures.1
          (record c.args.intake.now { feed = c.next.new.self; spare = c.push_reserved.new.self })
          c.next.new.source (omega (arith, c.in-Some.ensures.len)) c.in-Noise.ensures.most refl
          (spare_again c.args.intake.now.spare.items c.pop.new.self.items c.in-Some.window c.in-Some.ensures.items
          so.jobs.spare_lines c.push_reserved.new.self.items c.next.new.window c.push_reserved.ensures.items
          c.in-Noise.ensures.window_line c.in-Noise.ensures.window_passes) (omega (
            arith,
            some_spare c.pop.new.self.items c.push_reserved.new.self.items c.next.new.window
                c.push_reserved.ensures.items,
          )) noise.0 going (c.in-Noise.ensures.looked refl),
      inr (c.is_under_way-under_way.ensures.0 noise.1),
    )
