-- What a pool hands back.
use Rattle.std.specs.Prelude.{◌≡◌}
use Rattle.lr_gate.specs.declared.gate.Conductor.{Conductor}
use Rattle.lr_gate.specs.Seats.{view_of}
use Rattle.lr_gate.specs.Steps.{after_stop}
use Rattle.lr_workers.specs.declared.body.Conducted.{Conducted}

-- What the body conducted, apart from the stop: the conductor is one that the body handed back, and was then stopped
abbrev pub IsConducted : {B W A J D : Type 0} → (B → Conductor W J D → Conducted W B J D A → Type 0) → B
    → Conductor W J D → Conducted W B J D A → Type 0
IsConducted {B} {W} {A} {J} {D} conducts body before after =
    (x : Conductor W J D) × conducts body before (record after { conductor = x })
    × (view_of after.conductor ≡ after_stop (view_of x))
