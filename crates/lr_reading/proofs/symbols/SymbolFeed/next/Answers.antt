use Rattle.std.proofs.Common.{true, ◌≡◌, length, refl, sym, ap, ◌∙◌, subst, rules, arith}
use Rattle.lr_lock.specs.Standing.{LockStandsFor}
use Rattle.lr_lock.specs.Symbols.{symbols_of}
use Rattle.lr_reading.specs.Feeding.{FeedState, FeedsOn, symbols_from}
use Rattle.lr_reading.specs.Reading.{at_source}
use Rattle.lr_reading.proofs.Feeding.{window_given, more_wanted, all_given, joined}
use Rattle.lr_reading.proofs.symbols.SymbolFeed.next.Goals as goal

pub returns-in-Window-clause-feeds : goal.returns-in-Window-clause-feeds
returns-in-Window-clause-feeds g c = λ decoding so_far passes so.
    let on = subst (λ (n : FeedState). FeedsOn (symbols_from g.S.Source decoding) (c.args.under_way ≡ true)
    (at_source so_far c.args.source.now) (at_source n c.steps.source)) (sym c.self.view_is)
    (c.steps.invariant.feeds decoding so_far so) in
    window_given (symbols_from g.S.Source decoding) (c.args.under_way ≡ true) on c.next_window.new.self
    c.next_window.new.window c.next_window.ensures.line c.next_window.ensures.finished
    (c.in-Window.ensures.answers (symbols_of on.all) so_far.given on.so_far.stands)
    (c.in-Window.ensures.shorter refl) (search rules)
    (c.next_window.ensures.window_passes ∙ c.steps.invariant.window_passes ∙ passes)

pub returns-in-End-clause-feeds : goal.returns-in-End-clause-feeds
returns-in-End-clause-feeds g c = λ decoding so_far passes so.
    let on = subst (λ (n : FeedState). FeedsOn (symbols_from g.S.Source decoding) (c.args.under_way ≡ true)
    (at_source so_far c.args.source.now) (at_source n c.steps.source)) (sym c.self.view_is)
    (c.steps.invariant.feeds decoding so_far so) in
    all_given (symbols_from g.S.Source decoding) (c.args.under_way ≡ true) on c.next_window.new.self
    c.next_window.new.window c.next_window.ensures.line c.next_window.ensures.finished
    (c.in-End.ensures.answers (symbols_of on.all) so_far.given on.so_far.stands)
    c.next_window.ensures.passes

pub steps-preserved : goal.steps-preserved
steps-preserved g c =
    record {
      feeds = λ decoding so_far so.
          let on = subst (λ (n : FeedState). FeedsOn (symbols_from g.S.Source decoding) (c.args.under_way ≡ true)
          (at_source so_far c.args.source.now) (at_source n c.steps.source)) (sym c.self.view_is)
          (c.steps.invariant.feeds decoding so_far so) in
          let wanted = more_wanted (symbols_from g.S.Source decoding) (c.args.under_way ≡ true) on
          c.next_window.new.self
          c.next_window.new.window
          c.next_window.ensures.line c.next_window.ensures.finished
          (c.in-More.ensures.answers (symbols_of on.all) so_far.given on.so_far.stands) c.next_window.ensures.passes in
          joined (symbols_from g.S.Source decoding) (c.args.under_way ≡ true)
          (c.more.ensures.feeds decoding (record so_far { bytes = wanted.all }) c.args.under_way wanted.so_far
          (c.holds_back.ensures.calm c.if-holds_back.false)) wanted.looks wanted.near
          wanted.same;
      standing = c.more.ensures.standing (
          let wants = c.in-More.ensures.answers c.steps.invariant.standing.0 c.steps.invariant.standing.1 (
          subst (λ (n : FeedState). LockStandsFor n.lock c.steps.invariant.standing.0 c.steps.invariant.standing.1)
          (sym c.self.view_is) c.steps.invariant.standing.2) in
          (c.steps.invariant.standing.0, c.steps.invariant.standing.1, wants.stands));
      line = c.more.ensures.line ∙ c.next_window.ensures.line
          ∙ ap (λ (n : FeedState). n.lock.line) c.self.view_is ∙ c.steps.invariant.line;
      window_line = c.next_window.ensures.window_line ∙ c.steps.invariant.window_line;
      window_passes = c.next_window.ensures.window_passes ∙ c.steps.invariant.window_passes;
      most = c.more.ensures.most ∙ ap (λ (n : FeedState). n.most) c.self.view_is ∙ c.steps.invariant.most;
      fewer = omega (
        arith,
        c.more.ensures.fewer,
        c.steps.invariant.fewer,
        c.next_window.ensures.passes,
        ap (λ (n : FeedState). n.most) c.self.view_is,
        ap (λ (n : FeedState). n.taken) c.self.view_is,
        ap (λ (n : FeedState). length n.lock.kept) c.self.view_is,
      );
    }

pub next_window-requires : goal.next_window-requires
next_window-requires g c = c.steps.invariant.window_line ∙ c.requires.line ∙ sym c.steps.invariant.line
    ∙ sym (ap (λ (n : FeedState). n.lock.line) c.self.view_is)

pub more-requires-clause-looked : goal.more-requires-clause-looked
more-requires-clause-looked g c =
    let wants = c.in-More.ensures.answers c.steps.invariant.standing.0 c.steps.invariant.standing.1
    (subst (λ (n : FeedState). LockStandsFor n.lock c.steps.invariant.standing.0 c.steps.invariant.standing.1)
    (sym c.self.view_is) c.steps.invariant.standing.2) in
    omega (arith, wants.room)

pub returns-then-holds_back-clause-feeds : goal.returns-then-holds_back-clause-feeds
returns-then-holds_back-clause-feeds g c = λ decoding so_far passes so.
    let on = subst (λ (n : FeedState). FeedsOn (symbols_from g.S.Source decoding) (c.args.under_way ≡ true)
    (at_source so_far c.args.source.now) (at_source n c.steps.source)) (sym c.self.view_is)
    (c.steps.invariant.feeds decoding so_far so) in (
      more_wanted (symbols_from g.S.Source decoding) (c.args.under_way ≡ true) on c.next_window.new.self
          c.next_window.new.window c.next_window.ensures.line c.next_window.ensures.finished
          (c.in-More.ensures.answers (symbols_of on.all) so_far.given on.so_far.stands) c.next_window.ensures.passes,
      c.holds_back.ensures.waits c.if-holds_back.true,
    )
