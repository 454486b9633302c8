use Rattle.std.proofs.Common.{◌≡◌, true, subst, sym}
use Rattle.lr_reading.specs.Feeding.{FeedState, FeedsOn, symbols_from}
use Rattle.lr_reading.specs.Reading.{at_source}
use Rattle.lr_reading.proofs.Coming.{may_ask}
use Rattle.lr_reading.proofs.Feeding.{piece_fed, none_fed}
use Rattle.lr_reading.proofs.symbols.SymbolFeed.more.Goals as goal

pub returns-in_default-clause-feeds : goal.returns-in_default-clause-feeds
returns-in_default-clause-feeds g c = λ decoding so_far under_way so calm.
    let going = so.going_on c.requires.unfinished in
    piece_fed (symbols_from g.S.Source decoding) (under_way ≡ true) so c.requires.unfinished
    (may_ask (under_way ≡ true) decoding so_far.bytes so_far.given c.args.self.now.lock c.args.self.now.short going.0.0
    so.stands so.line_is c.requires.looked going.1 calm) (λ is. (calm is).0) c.in_default.ensures.takes

pub returns-in-Some-clause-feeds : goal.returns-in-Some-clause-feeds
returns-in-Some-clause-feeds g c = λ decoding so_far under_way so calm.
    let going = so.going_on c.requires.unfinished in
    subst (λ (n : FeedState). FeedsOn (symbols_from g.S.Source decoding) (under_way ≡ true)
    (at_source so_far c.args.source.now) (at_source n c.take.new.source)) (sym c.finish.ensures)
    (none_fed (symbols_from g.S.Source decoding) (under_way ≡ true) so c.requires.unfinished
    (may_ask (under_way ≡ true) decoding so_far.bytes so_far.given c.args.self.now.lock c.args.self.now.short going.0.0
    so.stands so.line_is c.requires.looked going.1 calm) c.in-Some.stop c.in-Some.ensures.takes)
