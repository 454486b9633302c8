-- Before the first window.
use Rattle.std.proofs.Common.{◌≡◌, ◌≤◌, ℕ, ℤ, Some, None, [], length, refl, sym, ap, ◌∙◌, inl, arith}
use Rattle.std.proofs.Math.Seq.{drop-nil}
use Rattle.std.proofs.lemmas.List.Elements.{All-nil}
use Rattle.lr_forms.specs.declared.forms.Decoding.{Decoding}
use Rattle.lr_bits.proofs.Telling.{tells_still}
use Rattle.lr_io.specs.declared.source.Source.{Ghosts as SourceOf}
use Rattle.lr_rounds.specs.JobSources.{HasGivenNothing, led}
use Rattle.lr_reading.specs.Feeding.{FeedState, IsFreshFeed, FedSoFar, symbols_from, taken_since}
use Rattle.lr_reading.specs.Intakes.{IsFreshIntake}
use Rattle.lr_reading.specs.Reading.{at_source}
use Rattle.lr_reading.specs.WindowSources.{IsFor, StandsAt, decoding_of, window_terms}
use Rattle.lr_reading.specs.declared.consumer.Consumer.{Ghosts as ConsumerOf}
use Rattle.lr_reading.specs.declared.window_source.WindowSource.{WindowSource}
use Rattle.lr_reading.proofs.Asking.{came_none}
use Rattle.lr_reading.proofs.Coming.{arrivals_given-none}

-- nothing is taken
fed_begun : {S : Type 0} (source : SourceOf S) (decoding : Decoding) (limit : ℕ) (now : FeedState)
    → now.lock.line ≡ decoding.line → IsFreshFeed limit now → (s : S) → FedSoFar (symbols_from source decoding)
    (taken_since s [] []) (at_source now s)
fed_begun source decoding limit now is fresh s = record {
  stands = fresh.stands;
  line_is = is;
  long = fresh.taken;
  few = omega (arith, fresh.taken);
  passed = omega (arith, fresh.taken, ap length fresh.stands.rest, ap length (drop-nil {A = ℤ} now.lock.place));
  tell = tells_still;
  moved = λ t. refl;
  asked = inl (refl, refl);
  going_on = λ e. (came_none source s, λ short. fresh.short);
  ended = λ e. absurd cc;
}

-- the job source stands, and nothing was given
pub may_begin : {S C Cause : Type 0} (source : SourceOf S) (consumer : ConsumerOf C Cause)
    (job_source : WindowSource S C) → IsFreshIntake job_source.intake.now.feed.most job_source.intake.now
    → job_source.intake.now.feed.most ≤ consumer.most → (c : C) × consumer.took c [] job_source.consumer.now
    → StandsAt source consumer (led job_source [] 0) job_source
may_begin source consumer job_source fresh few ready =
    let intake = job_source.intake.now in
    let decoding = decoding_of intake in
    record {
      same_intake = refl;
      same_source = refl;
      same_consumer = refl;
      few = few;
      small = fresh.few;
      ready = ready;
      has_windows = record { some = fresh.some; all = omega (arith, fresh.all) };
      same_room = refl;
      behind = omega arith;
      bytes = [];
      given = [];
      is_given = record {
        feeds = fed_begun source decoding intake.feed.most intake.feed refl fresh.fresh job_source.source.now;
        limit_is = refl;
        jobs = record {
          jobs = sym (arrivals_given-none decoding []);
          job_lines = All-nil (IsFor decoding);
          spare_lines = fresh.lines;
          count = fresh.none;
        };
        over = λ stop e. absurd (let clash : None ≡ Some stop = sym fresh.going ∙ e in cc);
        short = λ e. omega (
          arith,
          ap length fresh.fresh.stands.rest,
          ap length (drop-nil {A = ℤ} intake.feed.lock.place),
        );
        full = λ none. absurd (omega (arith, none, fresh.some, fresh.all));
      };
      close = tt;
      in_time = inl (refl, refl);
      taken = λ c none. none;
    }

pub begins : {S C Cause : Type 0} (source : SourceOf S) (consumer : ConsumerOf C Cause)
    (job_source : WindowSource S C) → IsFreshIntake job_source.intake.now.feed.most job_source.intake.now
    → job_source.intake.now.feed.most ≤ consumer.most → (c : C) × consumer.took c [] job_source.consumer.now
    → (start : WindowSource S C) × HasGivenNothing (window_terms source consumer) start job_source
begins source consumer job_source fresh few ready = (job_source, may_begin source consumer job_source fresh few ready)
