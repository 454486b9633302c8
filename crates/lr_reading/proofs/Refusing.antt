-- Memory for reading was refused.
use Rattle.std.proofs.Common.{◌<◌, List, [], ◌++◌, length, ap, refl, inl, arith}
use Rattle.lr_bits.proofs.Telling.{tells_still}
use Rattle.lr_reading.specs.Arrivals.{arrivals_of}
use Rattle.lr_reading.specs.Runs.{Course, Lent, TakesSome}
use Rattle.lr_reading.specs.declared.arrival.Arrival.{Arrival}
use Rattle.lr_reading.proofs.Coming.{come_within, no_arrivals}

-- nothing was read, and the consumer stops before the first arrival
pub stops_at_once : {S C Cause : Type 0} (course : Course S C) → 0 < course.leeway.at_end
    → (stopped : C → List Arrival → Cause → C → Type 0) (cause : Cause) (now : Lent S C)
    → ((c : C) (arrivals : List Arrival) → course.took c arrivals now.consumer
    → stopped c arrivals cause now.consumer)
    → TakesSome course stopped cause now now
stops_at_once course some stopped cause now stops = record {
  bytes = [];
  read = record { tell = tells_still; moved = λ t. refl; few = omega arith; asked = inl (refl, refl) };
  passed = [];
  rest = [];
  split = no_arrivals course.input;
  near = some;
  close = λ count least come. absurd (omega (
    arith,
    least,
    come_within course.input course.leeway.ahead [] count come,
    ap (λ (l : List Arrival). length l)
        (no_arrivals course.input),
  ));
  in_time = inl (refl, refl);
  stops = λ c taken. stops c [] taken;
  begins = λ decoding is tells few calm. (arrivals_of course.input ([] ++ course.source.left now.source), refl);
}
