use Rattle.std.proofs.Common.{◌∙◌, refl, sym, take, arith}
use Rattle.lr_lock.specs.Symbols.{symbols_of}
use Rattle.lr_downlinks.proofs.Decoding.{all_shown, begun, fed_fewer, fed_on, feeds_rest, wanted, window_shown}
use Rattle.lr_downlinks.proofs.files.show_next.Goals as goal

pub returns-in-Window-clause-shows : goal.returns-in-Window-clause-shows
returns-in-Window-clause-shows c = λ line given is.
    let on = c.steps.invariant.feeds line given is in
    window_shown line c.args.stream.now c.args.fed given c.steps.taken c.steps.lock on c.next_window.new.self
    c.next_window.ensures.line c.next_window.ensures.finished c.next_window.new.window
    (c.in-Window.ensures.answers (symbols_of (take c.steps.taken c.args.stream.now)) given on.is_fed.stands)
    (c.in-Window.ensures.shorter refl) (c.next_window.ensures.window_passes ∙ c.steps.invariant.one_pass)

pub returns-in-End-clause-shows : goal.returns-in-End-clause-shows
returns-in-End-clause-shows c = λ line given is.
    let on = c.steps.invariant.feeds line given is in
    all_shown line c.args.stream.now c.args.fed given c.steps.taken c.steps.lock on c.next_window.new.self
    c.next_window.ensures.line c.next_window.ensures.finished c.next_window.new.window
    (c.in-End.ensures.answers (symbols_of (take c.steps.taken c.args.stream.now)) given on.is_fed.stands)

pub steps-smaller : goal.steps-smaller
steps-smaller c =
    let is = c.steps.invariant.standing in
    let wants = c.in-More.ensures.answers (symbols_of (take c.steps.taken c.args.stream.now)) is.1 is.2.stands in
    let more = feeds_rest c.args.stream.now c.steps.taken c.next_window.new.self c.feed_more-taken.new.lock
    c.feed_more-taken.result c.feed_more-taken.ensures in
    fed_fewer is.0 c.args.stream.now c.steps.taken c.steps.lock c.next_window.new.self c.feed_more-taken.new.lock
    c.feed_more-taken.result is.2.inside more (c.next_window.ensures.finished ∙ wants.unfinished)
    wants.unfinished c.next_window.ensures.passes

pub steps-preserved : goal.steps-preserved
steps-preserved c =
    let is = c.steps.invariant.standing in
    let on' = begun is.0 c.args.stream.now is.1 c.steps.taken c.steps.lock is.2 in
    let wants = c.in-More.ensures.answers (symbols_of (take c.steps.taken c.args.stream.now)) is.1 is.2.stands in
    let more = feeds_rest c.args.stream.now c.steps.taken c.next_window.new.self c.feed_more-taken.new.lock
    c.feed_more-taken.result c.feed_more-taken.ensures in
    let open_still = c.next_window.ensures.finished ∙ wants.unfinished in
    let here = fed_on is.0 c.args.stream.now c.steps.taken is.1 c.steps.taken c.next_window.new.self
    (wanted is.0 c.args.stream.now c.steps.taken is.1 c.steps.taken c.steps.lock on' c.next_window.new.self
    c.next_window.ensures.line c.next_window.ensures.finished wants c.next_window.ensures.passes)
    open_still c.feed_more-taken.new.lock c.feed_more-taken.result more in
    let fewer = fed_fewer is.0 c.args.stream.now c.steps.taken c.steps.lock c.next_window.new.self
    c.feed_more-taken.new.lock c.feed_more-taken.result is.2.inside more open_still wants.unfinished
    c.next_window.ensures.passes in
    record {
      feeds = λ line given fed.
          let on = c.steps.invariant.feeds line given fed in
          let wants' = c.in-More.ensures.answers (symbols_of (take c.steps.taken c.args.stream.now)) given
          on.is_fed.stands in
          fed_on line c.args.stream.now c.args.fed given c.steps.taken c.next_window.new.self
          (wanted line c.args.stream.now c.args.fed given c.steps.taken c.steps.lock on c.next_window.new.self
          c.next_window.ensures.line c.next_window.ensures.finished wants' c.next_window.ensures.passes)
          open_still c.feed_more-taken.new.lock c.feed_more-taken.result more;
      standing = (is.0, is.1, here.is_fed);
      window_line = c.next_window.ensures.window_line ∙ c.steps.invariant.window_line ∙ is.2.line_is
          ∙ sym here.is_fed.line_is;
      one_pass = c.next_window.ensures.window_passes ∙ c.steps.invariant.one_pass;
      fewer = omega (arith, fewer, c.steps.invariant.fewer);
    }
