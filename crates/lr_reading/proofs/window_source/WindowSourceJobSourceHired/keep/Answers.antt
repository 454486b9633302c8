use Rattle.std.proofs.Common.{refl}
use Rattle.lr_reading.proofs.WindowLeading.{may_hand_over, spare_room, few_frames, keeps_on_ok, stops_on_err}
use Rattle.lr_reading.proofs.window_source.WindowSourceJobSourceHired.keep.Goals as goal

pub hand_over-requires-clause-may : goal.hand_over-requires-clause-may
hand_over-requires-clause-may g c =
    may_hand_over g.S.Source g.C.Consumer c.requires.1 c.args.done c.requires.2

pub hand_over-requires-clause-room : goal.hand_over-requires-clause-room
hand_over-requires-clause-room g c =
    spare_room g.S.Source g.C.Consumer c.requires.1 c.args.done c.requires.2

pub hand_over-requires-clause-few : goal.hand_over-requires-clause-few
hand_over-requires-clause-few g c =
    few_frames g.S.Source g.C.Consumer c.requires.1 c.args.done c.requires.2

pub returns-clause-keeps : goal.returns-clause-keeps
returns-clause-keeps g c = λ led at next.
    keeps_on_ok g.S.Source g.C.Consumer at c.args.done next _ refl refl refl refl
    c.hand_over.result c.hand_over.ensures.spare c.hand_over.ensures.room c.hand_over.ensures.same
    c.hand_over.ensures.takes

pub returns-clause-stops : goal.returns-clause-stops
returns-clause-stops g c = λ led at next.
    stops_on_err g.S.Source g.C.Consumer at c.args.done next _ refl refl refl refl
    c.hand_over.result c.hand_over.ensures.stops
