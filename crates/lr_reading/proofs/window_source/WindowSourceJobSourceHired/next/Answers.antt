use Rattle.std.proofs.Common.{refl}
use Rattle.lr_reading.specs.Feeding.{taken_since}
use Rattle.lr_reading.specs.WindowSources.{decoding_in, progress}
use Rattle.lr_reading.proofs.WindowLeading.{gives}
use Rattle.lr_reading.proofs.window_source.WindowSourceJobSourceHired.next.Goals as goal

pub returns-clause-gives : goal.returns-clause-gives
returns-clause-gives g c = λ led at.
    gives g.S.Source g.C.Consumer at _ refl refl refl refl c.next_window.result
    (c.next_window.ensures.offers (decoding_in led.start) led.start.intake.now.feed.most
    (progress (taken_since led.start.source.now at.bytes at.given) led.jobs led.kept) at.is_given)
    c.next_window.ensures.less
