-- What a text that was put, or wasn't, says of the counts; and answers that go on.
use Rattle.std.proofs.Common.{◌≡◌, ℕ, Option, Some, None, Result, Ok, Err, IfErr, IfOk, OnErr, OnOk, List, refl, sym}
use Rattle.std.proofs.Common.{ap, subst, ◌∙◌}
use Rattle.lr_io.specs.declared.sink.Sink.{Ghosts as SinkOf}
use Rattle.lr_bits.specs.Faults.{Rose}
use Rattle.lr_disk.specs.declared.disk.Disk.{Ghosts as DiskOf}
use Rattle.lr_shelf_format.specs.Way.{Way}
use Rattle.lr_causes.specs.Causes.{IsCaused}
use Rattle.lr_causes.specs.Counts.{CountsTell, NoneBesides}
use Rattle.lr_causes.proofs.Counting.{disk_alone, all_stay, out_alone}
use Rattle.lr_causes.specs.Outside.{outlet_counts, outlets, outlets_of}
use Rattle.lr_causes.specs.declared.cause.Party.TheVariants.{Source, Disk, Output}
use Rattle.lr_causes.specs.declared.cause.Refusal.{Refusal}
use Rattle.lr_causes.specs.declared.cause.Cause.{Cause}
use Rattle.lr_causes.specs.declared.cause.Cause.TheVariants.{Done, DoneWith, Usage, Failed, NoMemory, Refused}
use Rattle.lr_cmd_shelf.specs.Queries.{Query, EntryView, entry_at, fate_of}
use Rattle.lr_cmd_shelf.specs.Read.{WasSeen}
use Rattle.lr_cmd_shelf.specs.Steps.{standing_at}
use Rattle.lr_cmd_shelf.specs.Runs.{CutsNothing}
use Rattle.lr_cmd_shelf.specs.Steps.{TextStops, EntryStops}

pub on_both : {T E A B C : Type 0} (r : Result T E) → (A → B → C) → OnOk r A → OnOk r B → OnOk r C
on_both (Ok v) f a b = f a b
on_both (Err e) f a b = tt

pub on_ok : {T E A B : Type 0} (r : Result T E) → (A → B) → OnOk r A → OnOk r B
on_ok (Ok v) f a = f a
on_ok (Err e) f a = tt

-- where both hold at Ok, of its value
pub on_noted : {T E A : Type 0} {P Q : T → Type 0} (r : Result T E) → (A → (v : T) → P v → Q v) → OnOk r A → IfOk r P
    → IfOk r Q
on_noted (Ok v) f a p = f a v p
on_noted (Err e) f a p = tt

pub on_failed : {T E A B : Type 0} (r : Result T E) → (A → B) → OnErr r A → OnErr r B
on_failed (Ok v) f a = tt
on_failed (Err e) f a = f a

pub always_failed : {T E A : Type 0} (r : Result T E) → A → OnErr r A
always_failed (Ok v) a = tt
always_failed (Err e) a = a

pub on_err : {T E : Type 0} {P Q : E → Type 0} (r : Result T E) → ((e : E) → P e → Q e) → IfErr r P → IfErr r Q
on_err (Ok v) f p = tt
on_err (Err e) f p = f e p

-- a refusal that comes only where A doesn't hold
pub on_sure : {T E A : Type 0} {P Q : E → Type 0} (r : Result T E) → ((e : E) → P e → (A → ⊥) → Q e) → IfErr r P
    → (A → IfErr r (λ _. ⊥)) → IfErr r Q
on_sure (Ok v) f p sure = tt
on_sure (Err e) f p sure = f e p sure

module _ {D O : Type 0} (disk : DiskOf D) (out : SinkOf O) where
  pub same_counts : (d d1 : D) (o o1 : O) → disk.faults d1 ≡ disk.faults d → out.faults o1 ≡ out.faults o
      → outlet_counts (outlets_of disk out) (outlets d1 o1) ≡ outlet_counts (outlets_of disk out) (outlets d o)
  same_counts d d1 o o1 first second =
      ap (λ (n : ℕ). record { source = 0; disk = n; output = out.faults o1 }) first
      ∙ ap (λ (n : ℕ). record { source = 0; disk = disk.faults d; output = n }) second

  -- nobody failed
  pub quiet_counts : (cause : Cause) (d d1 : D) (o o1 : O)
      → IsCaused cause (outlet_counts (outlets_of disk out) (outlets d o))
      (outlet_counts (outlets_of disk out) (outlets d1 o1))
      → disk.faults d1 ≡ disk.faults d → out.faults o1 ≡ out.faults o
      → CountsTell NoneBesides cause (outlet_counts (outlets_of disk out) (outlets d o))
      (outlet_counts (outlets_of disk out) (outlets d1 o1))
  quiet_counts cause d d1 o o1 named first second =
      all_stay NoneBesides cause (outlet_counts (outlets_of disk out) (outlets d o))
      (outlet_counts (outlets_of disk out) (outlets d1 o1)) named (same_counts d d1 o o1 first second)

  -- the disk alone
  pub disk_counts : (d d1 : D) (o o1 : O) → Rose (disk.faults d) (disk.faults d1) → out.faults o1 ≡ out.faults o
      → CountsTell NoneBesides (Failed Disk) (outlet_counts (outlets_of disk out) (outlets d o))
      (outlet_counts (outlets_of disk out) (outlets d1 o1))
  disk_counts d d1 o o1 rose second =
      disk_alone (outlet_counts (outlets_of disk out) (outlets d o))
      (outlet_counts (outlets_of disk out) (outlets d1 o1)) rose refl second

  -- `out` alone
  pub out_counts : (d d1 : D) (o o1 : O) → Rose (out.faults o) (out.faults o1) → disk.faults d1 ≡ disk.faults d
      → CountsTell NoneBesides (Failed Output) (outlet_counts (outlets_of disk out) (outlets d o))
      (outlet_counts (outlets_of disk out) (outlets d1 o1))
  out_counts d d1 o o1 rose first =
      out_alone (outlet_counts (outlets_of disk out) (outlets d o))
      (outlet_counts (outlets_of disk out) (outlets d1 o1)) rose refl first

  -- where a text was not put, nobody failed but `out`
  module _ (fate : Result (List ℕ) Refusal) (d d' : D) (o o' : O) (same : disk.faults d' ≡ disk.faults d) where
    pub text_counted : (cause : Cause) → TextStops out fate cause o o'
        → CountsTell NoneBesides cause (outlet_counts (outlets_of disk out) (outlets d o))
        (outlet_counts (outlets_of disk out) (outlets d' o'))
    text_counted Done stops = absurd stops
    text_counted (DoneWith note) stops = absurd stops
    text_counted Usage stops = absurd stops
    text_counted (Failed Source) stops = absurd stops
    text_counted (Failed Disk) stops = absurd stops
    text_counted (Failed Output) stops = out_counts d d' o o' stops.fails.rose same
    text_counted NoMemory stops = quiet_counts NoMemory d d' o o' tt same (ap out.faults stops)
    text_counted (Refused refusal) stops =
        quiet_counts (Refused refusal) d d' o o' tt same (ap out.faults stops.1)

  -- a sink still tells what it holds
  pub text_told : (fate : Result (List ℕ) Refusal) (o o' : O) (cause : Cause) → TextStops out fate cause o o'
      → out.tells o → out.tells o'
  text_told fate o o' (Failed Output) stops t = stops.fails.tell.told t
  text_told fate o o' NoMemory stops t = subst (λ (x : O). out.tells x) (sym stops) t
  text_told fate o o' (Refused refusal) stops t = subst (λ (x : O). out.tells x) (sym stops.1) t
  text_told fate o o' _ stops t = absurd stops

  -- and one that doesn't tell it after didn't before
  pub text_untold : (fate : Result (List ℕ) Refusal) (o o' : O) (cause : Cause) → TextStops out fate cause o o'
      → out.tells o' → out.tells o
  text_untold fate o o' (Failed Output) stops t = stops.fails.tell.untold t
  text_untold fate o o' NoMemory stops t = subst (λ (x : O). out.tells x) stops t
  text_untold fate o o' (Refused refusal) stops t = subst (λ (x : O). out.tells x) stops.1 t
  text_untold fate o o' _ stops t = absurd stops

  module _ (query : Query) (way : Way) (read : List EntryView) (number : ℕ) (d d' : D) (o o' : O) where
    pub entry_untouched : (cause : Cause)
        → EntryStops (outlets_of disk out) (standing_at query way read number) cause (outlets d o) (outlets d' o')
        → CutsNothing cause
        → o' ≡ o
    entry_untouched Done stops cuts = absurd cuts
    entry_untouched (DoneWith note) stops cuts = absurd cuts
    entry_untouched Usage stops cuts = absurd cuts
    entry_untouched (Failed Source) stops cuts = absurd cuts
    entry_untouched (Failed Disk) stops cuts = stops
    entry_untouched (Failed Output) stops cuts = absurd cuts
    entry_untouched NoMemory stops cuts = stops
    entry_untouched (Refused refusal) stops cuts = stops.stops.1

    -- a sink still tells what it holds
    pub entry_told : (cause : Cause)
        → EntryStops (outlets_of disk out) (standing_at query way read number) cause (outlets d o) (outlets d' o')
        → out.tells o
        → out.tells o'
    entry_told (Failed Disk) stops t = subst (λ (x : O). out.tells x) (sym stops) t
    entry_told (Failed Output) stops t = stops.stops.fails.tell.told t
    entry_told NoMemory stops t = subst (λ (x : O). out.tells x) (sym stops) t
    entry_told (Refused refusal) stops t = subst (λ (x : O). out.tells x) (sym stops.stops.1) t
    entry_told Done stops t = absurd stops.stops
    entry_told (DoneWith note) stops t = absurd stops.stops
    entry_told Usage stops t = absurd stops.stops
    entry_told (Failed Source) stops t = absurd stops.stops

    pub entry_untold : (cause : Cause)
        → EntryStops (outlets_of disk out) (standing_at query way read number) cause (outlets d o) (outlets d' o')
        → out.tells o'
        → out.tells o
    entry_untold (Failed Disk) stops t = subst (λ (x : O). out.tells x) stops t
    entry_untold (Failed Output) stops t = stops.stops.fails.tell.untold t
    entry_untold NoMemory stops t = subst (λ (x : O). out.tells x) stops t
    entry_untold (Refused refusal) stops t = subst (λ (x : O). out.tells x) stops.stops.1 t
    entry_untold Done stops t = absurd stops.stops
    entry_untold (DoneWith note) stops t = absurd stops.stops
    entry_untold Usage stops t = absurd stops.stops
    entry_untold (Failed Source) stops t = absurd stops.stops

    -- what stands there is known, and its text was not put
    pub stops_seen : (seen : Option EntryView)
        → WasSeen disk d query.sees (entry_at way number) seen → (cause : Cause)
        → TextStops out (fate_of query way read number seen) cause o o'
        → EntryStops (outlets_of disk out) (standing_at query way read number) cause (outlets d o) (outlets d' o')
    stops_seen seen was Done stops = absurd stops
    stops_seen seen was (DoneWith note) stops = absurd stops
    stops_seen seen was Usage stops = absurd stops
    stops_seen seen was (Failed Source) stops = absurd stops
    stops_seen seen was (Failed Disk) stops = absurd stops
    stops_seen seen was (Failed Output) stops =
        record { seen = seen; was = was; stops = stops }
    stops_seen seen was NoMemory stops = stops
    stops_seen seen was (Refused refusal) stops = record { seen = seen; was = was; stops = stops }
