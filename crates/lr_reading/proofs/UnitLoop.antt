-- A consumer is led through what comes of units.
use Rattle.std.proofs.Common.{◌≡◌, ℕ, ◌+◌, ◌*◌, ◌%◌, ◌<◌, ◌≤◌, List, [], ◌∷◌, ◌++◌, length, ap, ◌∙◌}
use Rattle.std.proofs.Common.{sym, refl, subst, arith, append-nil, append_assoc, length-append, take, drop}
use Rattle.std.specs.List.{concat}
use Rattle.std.specs.Prelude.{All}
use Rattle.std.proofs.lemmas.List.{take-append-drop}
use Rattle.std.proofs.lemmas.List.Elements.{All-push}
use Rattle.lr_bits.specs.declared.sizes.TheConstants.{FRAME_BYTES}
use Rattle.lr_io.specs.declared.source.Source.{Ghosts as SourceOf}
use Rattle.lr_forms.specs.declared.forms.Stop.{Stop}
use Rattle.lr_reading.specs.Arrivals.{arrival_of, arrivals_of_units, arrivals_of}
use Rattle.lr_reading.specs.Gathering.{UnitSizes, UnitState, IsShortOfOne, Gathers, GathersFor, GathersOn, units_end}
use Rattle.lr_reading.specs.Gathering.{ReadsUnits, EndsUnits}
use Rattle.lr_reading.specs.Inputs.{unit_bytes, outcome_of_unit}
use Rattle.lr_reading.specs.Reading.{EndsFor, at_source, units_of}
use Rattle.lr_reading.specs.Readers.{leeway_for}
use Rattle.lr_reading.specs.Runs.{ComeInTime, TakesAll, TakesSome, course_of, lent}
use Rattle.lr_reading.specs.declared.arrival.Arrival.{Arrival}
use Rattle.lr_forms.specs.declared.forms.Input.TheVariants.{Units}
use Rattle.lr_forms.specs.declared.forms.UnitForm.{UnitForm}
use Rattle.lr_forms.specs.declared.forms.UnitForm.TheVariants.{Blocks, Frames}
use Rattle.lr_reading.specs.declared.next.Next.TheVariants.{Ended}
use Rattle.lr_reading.specs.declared.read_counts.ReadCounts.{ReadCounts}
use Rattle.lr_reading.proofs.Asking.{stops_asking, when_too}
use Rattle.lr_reading.proofs.Coming.{arrivals_of_units-append, arrivals_of_units-none}
use Rattle.lr_reading.proofs.Coming.{arrivals_of_units-push, arrivals_of_units-counted, units_come}
use Rattle.lr_reading.proofs.Fronts.{All-first}
use Rattle.lr_reading.proofs.UnitsOf.{units_are, length-concat, long}
use Rattle.lr_reading.proofs.UnitsRead.{begun, gathered_more, cleared, ended, concat-push}

pub positive : (form : UnitForm) (n : ℕ) → n ≡ unit_bytes form → 0 < n
positive Blocks n is = omega (arith, is)
positive Frames n is = omega (arith, is)

-- a unit has 892 bytes at least
least : (form : UnitForm) (n count most : ℕ) → n ≡ unit_bytes form → n * count + n ≤ most
    → FRAME_BYTES * (count + 1) ≤ most
least Blocks n count most is fits = omega (arith, is, ap (λ k. k * count) is, fits)
least Frames n count most is fits = omega (arith, is, ap (λ k. k * count) is, fits)

-- what is left after whole units
rest_of : (form : UnitForm) (n count rest total : ℕ) → n ≡ unit_bytes form → total ≡ n * count + rest
    → rest < n → rest ≡ total % unit_bytes form
rest_of Blocks n count rest total is all short = omega (arith, is, all, ap (λ k. k * count) is, short)
rest_of Frames n count rest total is all short = omega (arith, is, all, ap (λ k. k * count) is, short)

-- of fewer bytes than these come fewer units
fewer : (form : UnitForm) (n count many total : ℕ) → n ≡ unit_bytes form → count * unit_bytes form + 1 ≤ total
    → total ≡ n * many → count < many
fewer Blocks n count many total is few all = omega (arith, is, few, all, ap (λ k. k * many) is)
fewer Frames n count many total is few all = omega (arith, is, few, all, ap (λ k. k * many) is)

-- this many units were read, and what comes of them was taken
pub record UnitsTaken {S C : Type 0} (source : SourceOf S) (took : C → List Arrival → C → Type 0) (form : UnitForm)
    (n limit frames : ℕ) (now : UnitState) (s s' : S) (before after : C) : Type 0 where
  pub units : List (List ℕ)
  pub count : frames ≡ length units
  pub empty : now.held ≡ []
  pub reads : ReadsUnits source (record { unit = n; limit = limit }) units s (at_source now s')
  pub taken : (c : C) → took c [] before → took c (arrivals_of_units form units) after

module _ {S C : Type 0} (source : SourceOf S) (took : C → List Arrival → C → Type 0) (form : UnitForm) (n limit : ℕ)
    (size : n ≡ unit_bytes form) where
  abbrev sizes : UnitSizes
  sizes = record { unit = n; limit = limit }

  -- nothing is read
  pub units_begun : (now : UnitState) → now ≡ record { held = []; taken = 0; most = limit } → (s : S) (before : C)
      → UnitsTaken source took form n limit 0 now s s before before
  units_begun now fresh s before = record {
    units = [];
    count = refl;
    empty = ap (λ (u : UnitState). u.held) fresh;
    reads = subst (λ (u : UnitState). ReadsUnits source sizes [] s (at_source u s)) (sym fresh) (begun source sizes s);
    taken = λ c none. subst (λ (l : List Arrival). took c l before) (sym (arrivals_of_units-none form)) none;
  }

  -- what comes of these bytes comes of the first units
  come_first : (units : List (List ℕ)) → All (λ unit. length unit ≡ n) units → (given : List ℕ)
      → IsShortOfOne n units given → (worked waiting : List Arrival)
      → arrivals_of (Units form) given ≡ worked ++ waiting
      → (later : List Arrival) × (arrivals_of_units form units ≡ worked ++ later)
  come_first units whole given short worked waiting split =
      let first : All (λ (u : List ℕ). length u ≡ n) short.first = All-first (λ (u : List ℕ). length u ≡ n) short.first
      short.others (subst (λ (l : List (List ℕ)). All (λ (u : List ℕ). length u ≡ n) l) short.split whole) in
      let there : units_of (unit_bytes form) given ≡ short.first =
      ap (λ k. units_of k given) (sym size) ∙ ap (units_of n) short.is
      ∙ units_are n (positive form n size) short.first short.begun first short.short in (
        waiting ++ arrivals_of_units form short.others,
        ap (arrivals_of_units form) short.split ∙ arrivals_of_units-append form short.first short.others
            ∙ ap (λ (l : List Arrival). l ++ arrivals_of_units form short.others)
            (sym (units_come form given short.first there) ∙ split)
            ∙ append_assoc worked waiting (arrivals_of_units form short.others),
      )

  module _ {frames : ℕ} {now next : UnitState} {s t s' : S} {before after : C}
      (so : UnitsTaken source took form n limit frames now s t before after)
      (more : GathersOn source n (at_source now t) (at_source next s')) (whole : length next.held ≡ n) where
    reads_now : ReadsUnits source sizes so.units s (at_source next s')
    reads_now = gathered_more source sizes so.reads more

    fits : n * length so.units + n ≤ limit
    fits = omega (
      arith,
      reads_now.few,
      reads_now.taken,
      length-append (concat so.units) next.held,
      length-concat n so.units reads_now.whole,
      whole,
    )

    -- the numbers fit
    pub frames_fit : FRAME_BYTES * (frames + 1) ≤ limit
    frames_fit = omega (arith, least form n (length so.units) limit size fits, so.count)

    -- one arrival more may be taken
    pub may_take : (most : ℕ) → limit ≤ most → (c : C) → took c [] before → (c' : C) × (arrivals : List Arrival)
        × took c' arrivals after × (FRAME_BYTES * (length arrivals + 1) ≤ most)
    may_take most few c none = (
      c,
      arrivals_of_units form so.units,
      so.taken c none,
      omega (arith, few, frames_fit, so.count, arrivals_of_units-counted form so.units),
    )

    units_there : units_of (unit_bytes form) (concat so.units ++ next.held) ≡ so.units ++ next.held ∷ []
    units_there =
        ap (λ k. units_of k (concat so.units ++ next.held)) (sym size)
        ∙ ap (units_of n) (sym (concat-push so.units next.held))
        ∙ units_are n (positive form n size) (so.units ++ next.held ∷ []) []
        (All-push (λ (u : List ℕ). length u ≡ n) so.units next.held reads_now.whole whole) (positive form n size)

    module _ (arrival : Arrival) (is : arrival ≡ arrival_of (outcome_of_unit form next.held)) where
      one_more : arrivals_of_units form (so.units ++ next.held ∷ []) ≡ arrivals_of_units form so.units ++ arrival ∷ []
      one_more = arrivals_of_units-push form so.units next.held
          ∙ ap (λ (a : Arrival). arrivals_of_units form so.units ++ a ∷ []) (sym is)

      -- the consumer stopped at it
      pub units_stopped : {Cause : Type 0} (stopped : C → List Arrival → Cause → C → Type 0) (cause : Cause) (now' : C)
          → ((c : C) (arrivals : List Arrival) → took c arrivals after
          → stopped c (arrivals ++ arrival ∷ []) cause now')
          → TakesSome (course_of source took (Units form) limit (leeway_for (Units form) 1)) stopped cause
          (lent s before) (lent s' now')
      units_stopped {Cause} stopped cause now' stops = record {
        bytes = concat so.units ++ next.held;
        read = record {
          tell = reads_now.tell;
          moved = reads_now.moved;
          few = omega (arith, reads_now.few, reads_now.taken);
          asked = stops_asking source (λ given pieces. IsShortOfOne n so.units given)
              (concat so.units ++ next.held) s s'
              reads_now.in_need;
        };
        passed = arrivals_of_units form so.units ++ arrival ∷ [];
        rest = [];
        split = units_come form (concat so.units ++ next.held) (so.units ++ next.held ∷ []) units_there
            ∙ one_more ∙ sym (append-nil (arrivals_of_units form so.units ++ arrival ∷ []));
        near = omega arith;
        close = λ count some come. omega (
          arith,
          fewer form n count (length so.units + 1) (length (concat so.units ++ next.held)) size come (omega (
            arith,
            length-append (concat so.units) next.held,
            length-concat n so.units reads_now.whole,
            whole,
          )),
          length-append (arrivals_of_units form so.units) (arrival ∷ []),
          arrivals_of_units-counted form so.units,
        );
        in_time = when_too source (λ given pieces. IsShortOfOne n so.units given)
            (ComeInTime (Units form) (leeway_for (Units form) 1) 1 (arrivals_of_units form so.units ++ arrival ∷ []))
            (concat so.units ++ next.held) s s' (λ given pieces short. came given pieces short) reads_now.in_need;
        stops = λ c none. stops c (arrivals_of_units form so.units) (so.taken c none);
        begins = λ decoding symbols told few calm. cc (symbols);
      }
        where
          came : (given : List ℕ) (pieces : List (List ℕ)) → IsShortOfOne n so.units given
              → ComeInTime (Units form) (leeway_for (Units form) 1) 1 (arrivals_of_units form so.units ++ arrival ∷ [])
              given pieces
          came given pieces short count few wait come =
              let worked : List Arrival = take count (arrivals_of (Units form) given) in
              let front = come_first so.units reads_now.whole given short worked
              (drop count (arrivals_of (Units form) given))
              (sym (take-append-drop count (arrivals_of (Units form) given))) in (
                front.0 ++ arrival ∷ [],
                ap (λ (l : List Arrival). l ++ arrival ∷ []) front.1
                    ∙ append_assoc worked front.0 (arrival ∷ []),
                omega (arith, length-append front.0 (arrival ∷ [])),
              )

      -- it took it
      pub units_more : (empty : UnitState) → empty ≡ record { held = []; taken = next.taken; most = next.most }
          → (now' : C)
          → ((c : C) (arrivals : List Arrival) → took c arrivals after → took c (arrivals ++ arrival ∷ []) now')
          → UnitsTaken source took form n limit (frames + 1) empty s s' before now'
      units_more empty is_empty now' takes = record {
        units = so.units ++ next.held ∷ [];
        count = omega (arith, so.count, length-append so.units (next.held ∷ []));
        empty = ap (λ (u : UnitState). u.held) is_empty;
        reads = subst (λ (u : UnitState). ReadsUnits source sizes (so.units ++ next.held ∷ []) s (at_source u s'))
            (sym is_empty) (cleared source sizes reads_now whole);
        taken = λ c none.
            subst (λ (l : List Arrival). took c l now') (sym one_more)
            (takes c (arrivals_of_units form so.units) (so.taken c none));
      }

  module _ {frames : ℕ} {now next : UnitState} {s t s' : S} {before after : C}
      (so : UnitsTaken source took form n limit frames now s t before after)
      (stop : Stop) (more : Gathers source n (at_source now t) (at_source next s'))
      (why : GathersFor source n (Ended stop) t (at_source next s')) where
    end : EndsUnits source sizes (units_end so.units (length next.held) stop) s s'
    end = ended source sizes so.reads more stop why

    come : arrivals_of (Units form) (concat so.units ++ end.held) ≡ arrivals_of_units form so.units
    come =
        units_come form (concat so.units ++ end.held) so.units
        (ap (λ k. units_of k (concat so.units ++ end.held)) (sym size)
        ∙ units_are n (positive form n size) so.units end.held end.whole end.short)

    all_bytes : length (concat so.units ++ end.held) ≡ n * length so.units + length end.held
    all_bytes = long n (positive form n size) so.units end.held end.whole end.short

    taken_is : next.taken ≡ n * length so.units + length next.held
    taken_is =
        omega (
          arith,
          more.taken,
          so.reads.taken,
          ap length more.held,
          length-append now.held more.piece,
          ap length so.empty,
          length-append (concat so.units) now.held,
          length-concat n so.units so.reads.whole,
        )

    -- the units ended
    pub units_ended : (totals : ReadCounts) → totals.stop ≡ stop → totals.symbols ≡ next.taken → totals.frames ≡ frames
        → totals.left ≡ length next.held
        → TakesAll (course_of source took (Units form) limit (leeway_for (Units form) 1)) totals (lent s before)
        (lent s' after)
    units_ended totals stops symbols frames_is left = record {
      bytes = concat so.units ++ end.held;
      ends = record {
        read = end.read;
        reason = subst (λ (x : Stop). EndsFor source x limit (concat so.units ++ end.held) s s') (sym stops)
            end.reason;
        symbols = omega (arith, symbols, taken_is, all_bytes, end.long);
        frames = omega (arith, frames_is, so.count, ap length come, arrivals_of_units-counted form so.units);
        left = rest_of form n (length so.units) totals.left (length (concat so.units ++ end.held)) size
            (omega (arith, left, all_bytes, end.long)) (omega (arith, left, end.long, end.short));
      };
      in_time = when_too source (λ given pieces. IsShortOfOne n so.units given)
          (ComeInTime (Units form) (leeway_for (Units form) 1) 0 (arrivals_of (Units form)
          (concat so.units ++ end.held))) (concat so.units ++ end.held) s s'
          (λ given pieces short. came given pieces short) end.in_need;
      taken = λ c none. subst (λ (l : List Arrival). took c l after) (sym come) (so.taken c none);
    }
      where
        came : (given : List ℕ) (pieces : List (List ℕ)) → IsShortOfOne n so.units given
            → ComeInTime (Units form) (leeway_for (Units form) 1) 0
            (arrivals_of (Units form) (concat so.units ++ end.held)) given pieces
        came given pieces short count few wait have =
            let front = come_first so.units end.whole given short (take count (arrivals_of (Units form) given))
            (drop count (arrivals_of (Units form) given))
            (sym (take-append-drop count (arrivals_of (Units form) given))) in
            (front.0, come ∙ front.1, omega arith)
