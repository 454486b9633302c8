-- A window is given, or the input ends.
use Rattle.std.proofs.Common.{◌≡◌, ◌<◌, ◌≤◌, ◌*◌, ℕ, Some, None, List, [], ◌∷◌, ◌++◌, length, append-nil, refl, sym}
use Rattle.std.proofs.Common.{ap, ◌∙◌, arith, vec_len, vec_capacity, inl, inr, ⊎_elim}
use Rattle.std.proofs.lemmas.List.{map-append}
use Rattle.std.proofs.lemmas.List.Elements.{All-push}
use Rattle.lr_bits.specs.declared.sizes.TheConstants.{FRAME_SYMBOLS}
use Rattle.lr_forms.specs.declared.forms.Decoding.{Decoding}
use Rattle.lr_lock.specs.declared.sizes.TheConstants.{WINDOW_END}
use Rattle.lr_lock.specs.Symbols.{symbols_of}
use Rattle.lr_lock.specs.Windows.{WindowView}
use Rattle.lr_lock.specs.declared.frame.Frame.{Frame}
use Rattle.lr_forms.specs.declared.forms.Stop.{Stop}
use Rattle.lr_reading.specs.Arrivals.{arrival_in}
use Rattle.lr_reading.specs.Feeding.{SymbolSource, arrivals_given, most_kept, FeedsOn, MayAsk, LooksFirst}
use Rattle.lr_reading.specs.Feeding.{GivesFrame, EndsFrames}
use Rattle.lr_reading.specs.Reading.{AtSource, at_source}
use Rattle.lr_reading.specs.WindowSources.{IsFor, arrival_of_window, AreDecoded, LooksForSpare, IsGiven, GivesMore}
use Rattle.lr_reading.specs.WindowSources.{IsOver, Progress, stream_of}
use Rattle.lr_reading.specs.declared.arrival.Arrival.{Arrival}
use Rattle.lr_reading.specs.declared.intake.Intake.{Intake}
use Rattle.lr_reading.proofs.Coming.{arrivals_given-push, arrivals_given-counted}
use Rattle.lr_reading.proofs.Asking.{last_too}
use Rattle.lr_reading.proofs.Close.{gains_close, stays_close}
use Rattle.lr_reading.proofs.WindowJobs.{as_many}

module _ {S : Type 0} (symbols : SymbolSource S) (limit : ℕ) {so_far : Progress S} {old : AtSource Intake S}
    (so : IsGiven (stream_of symbols limit) so_far old) where
  abbrev decoding : Decoding
  decoding = symbols.decoding

  abbrev bytes : List ℕ
  bytes = so_far.taken.bytes

  abbrev given : List Frame
  given = so_far.taken.given

  -- as many frames were given as windows
  pub given_is : length so_far.windows ≡ length given
  given_is = sym (as_many so.jobs) ∙ arrivals_given-counted decoding bytes given

  -- so there are few
  pub few_given : FRAME_SYMBOLS * length so_far.windows ≤ limit
  few_given = omega (arith, given_is, so.feeds.passed, so.feeds.few, so.limit_is)

  -- while a window was spare
  module _ (IsUnderWay : Type 0) (says : vec_len old.state.spare < vec_capacity old.state.spare → IsUnderWay)
      (intake' : Intake) (s' : S) (spare : 0 < vec_len old.state.spare) where
    -- the source was asked then
    looked : (all : List ℕ) → LooksFirst symbols IsUnderWay (at_source so_far.taken old.source) all s'
        → LooksForSpare symbols so_far.taken all old s'
    looked all looks = ⊎_elim (λ none. inl none) (λ last. inr (
      spare,
      last_too symbols.source (MayAsk decoding (vec_len old.state.spare < vec_capacity old.state.spare) bytes given)
          (λ some pieces asks. (asks.0, λ under_way. asks.1 (says under_way))) last,
    )) looks

    pub gives_window : (window : WindowView)
        → GivesFrame symbols IsUnderWay (at_source so_far.taken old.source) window (at_source intake'.feed s')
        → intake'.feed.most ≡ old.state.feed.most → intake'.ended ≡ None → intake'.frames ≡ old.state.frames
        → AreDecoded decoding intake'.spare.items → length intake'.feed.lock.kept ≤ most_kept
        → GivesMore (stream_of symbols limit) (record so_far { windows = so_far.windows ++ window ∷ [] }) old
        (at_source intake' s')
    gives_window window gives most still frames lines short = record {
      all = gives.all;
      every = given ++ gives.frame ∷ [];
      is_given = record {
        feeds = gives.so_far;
        limit_is = most ∙ so.limit_is;
        jobs = record {
          jobs = map-append arrival_of_window so_far.windows (window ∷ [])
              ∙ ap (λ (l : List Arrival). l ++ arrival_of_window window ∷ []) so.jobs.jobs ∙ sym grows;
          job_lines = All-push (IsFor decoding) so_far.windows window so.jobs.job_lines
              (ap (λ (w : WindowView). w.line) gives.window_is, ap (λ (w : WindowView). w.passes) gives.window_is);
          spare_lines = lines;
          count = frames ∙ so.jobs.count;
        };
        over = λ stop e. absurd (let clash : None ≡ Some stop = sym still ∙ e in cc);
        short = λ e. short;
        full = λ none. record { before = given; frame = gives.frame; last = refl; near = gives.ahead };
      };
      looks = looked gives.all gives.looks;
      rest = arrival_of_window window ∷ [];
      grown = grows;
      close = λ first within under close. gains_close IsUnderWay first given bytes gives.all within
          (λ some. says (under some)) gives.near gives.frame gives.whole gives.ahead close;
    }
      where
        grows : arrivals_given decoding gives.all (given ++ gives.frame ∷ [])
            ≡ arrivals_given decoding bytes given ++ arrival_of_window window ∷ []
        grows = arrivals_given-push decoding gives.all given gives.frame
            ∙ ap (λ (l : List Arrival). l ++ arrival_in decoding (symbols_of gives.all) gives.frame ∷ []) gives.same
            ∙ ap (λ (a : Arrival). arrivals_given decoding bytes given ++ a ∷ [])
            (sym (ap arrival_of_window gives.window_is))

    -- no window is given, and one is spare
    module _ (most : intake'.feed.most ≡ old.state.feed.most) (frames : intake'.frames ≡ old.state.frames)
        (lines : AreDecoded decoding intake'.spare.items) (left : 0 < vec_len intake'.spare) where
      gives_none : (on : FeedsOn symbols IsUnderWay (at_source so_far.taken old.source) (at_source intake'.feed s'))
          → ((stop : Stop) → intake'.ended ≡ Some stop → IsOver decoding on.all given intake'.feed stop)
          → (intake'.ended ≡ None → length intake'.feed.lock.kept ≤ most_kept)
          → GivesMore (stream_of symbols limit) so_far old (at_source intake' s')
      gives_none on over short = record {
        all = on.all;
        every = given;
        is_given = record {
          feeds = on.so_far;
          limit_is = most ∙ so.limit_is;
          jobs = record {
            jobs = so.jobs.jobs ∙ sym on.same;
            job_lines = so.jobs.job_lines;
            spare_lines = lines;
            count = frames ∙ so.jobs.count;
          };
          over = over;
          short = short;
          full = λ none. absurd (omega (arith, none, left));
        };
        looks = looked on.all on.looks;
        rest = [];
        grown = on.same ∙ sym (append-nil (arrivals_given decoding bytes given));
        close = λ first within under close. stays_close IsUnderWay first given bytes on.all
            (λ some. says (under some)) on.near close;
      }

      pub ends_input : (stop : Stop)
          → EndsFrames symbols IsUnderWay stop (at_source so_far.taken old.source) (at_source intake'.feed s')
          → intake'.ended ≡ Some stop → GivesMore (stream_of symbols limit) so_far old (at_source intake' s')
      ends_input stop ends ended = gives_none
          (record { all = ends.all; so_far = ends.so_far; looks = ends.looks; near = ends.near; same = ends.same })
          (λ other e. let same : Some stop ≡ Some other = sym ended ∙ e in record {
            closed = ends.closed;
            stop_is = ends.stop_is ∙ (let is : stop ≡ other = cc in is);
            every = ends.every;
          })
          (λ e. absurd (let clash : None ≡ Some stop = sym e ∙ ended in cc))

      -- no frame was found yet
      pub waits_more : FeedsOn symbols IsUnderWay (at_source so_far.taken old.source) (at_source intake'.feed s')
          → intake'.ended ≡ None → length intake'.feed.lock.kept < WINDOW_END
          → GivesMore (stream_of symbols limit) so_far old (at_source intake' s')
      waits_more on still few = gives_none on
          (λ stop e. absurd (let clash : None ≡ Some stop = sym still ∙ e in cc)) (λ e. omega (arith, few))
