-- A call that is lent a source and a consumer, and leads the consumer through this input, whoever works.
-- No clause of a public call cites this.
use Rattle.std.specs.Prelude.{List, [], Result}
use denote.Ref.{MutBor}
use Rattle.lr_reading.specs.Runs.{Course, IsLed, lent}
use Rattle.lr_reading.specs.declared.arrival.Arrival.{Arrival}
use Rattle.lr_reading.specs.declared.read_counts.ReadCounts.{ReadCounts}

module _ {S C : Type 0} where
  -- it may be called where the consumer has taken nothing
  abbrev pub MayLead : (MutBor S → MutBor C → Type 0) → (C → List Arrival → C → Type 0) → Type 0
  MayLead pre took = (s : MutBor S) (c : MutBor C) → ((first : C) × took first [] c.now) → pre s c

  -- what it comes to is how far the consumer was led
  abbrev pub Leads : {Cause : Type 0}
      → (MutBor S → MutBor C → Result ReadCounts Cause → MutBor S → MutBor C → Type 0) → Course S C
      → (C → List Arrival → Cause → C → Type 0) → Type 0
  Leads {Cause} post course stopped =
      (s : MutBor S) (c : MutBor C) (came : Result ReadCounts Cause) (s' : MutBor S) (c' : MutBor C)
      → post s c came s' c' → IsLed course stopped came (lent s.now c.now) (lent s'.now c'.now)
