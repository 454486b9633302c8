-- How a run over the entries of a loaded shelf goes on, and how it ends.
use Rattle.std.proofs.Common.{◌≡◌, inl, inr, ℕ, ◌+◌, ◌-◌, ◌<◌, ◌≤◌, Option, Some, None, Result, Ok}
use Rattle.std.proofs.Common.{Err, List, [], ◌∷◌, ◌++◌, length, refl, arith, ap, ◌∙◌, sym, subst}
use Rattle.std.proofs.Common.{append-nil, append_assoc, length-append}
use Rattle.std.specs.List.{concat}
use Rattle.lr_bits.proofs.Telling.{tells_both, tells_still}
use Rattle.lr_io.specs.declared.sink.Sink.{Ghosts as SinkOf}
use Rattle.lr_io.specs.Pieces.{PutsPart}
use Rattle.lr_disk.specs.Reads.{IsOnlyRead}
use Rattle.lr_disk.specs.declared.disk.Disk.{Ghosts as DiskOf}
use Rattle.lr_disk.proofs.Moments.{only_read_joined, only_read_yet}
use Rattle.lr_shelf_format.specs.Way.{Way}
use Rattle.lr_causes.specs.declared.cause.Party.TheVariants.{Source, Disk, Output}
use Rattle.lr_causes.specs.declared.cause.Refusal.{Refusal}
use Rattle.lr_causes.specs.declared.cause.Refusal.TheVariants.{NoSuchFile}
use Rattle.lr_causes.specs.declared.cause.Cause.{Cause}
use Rattle.lr_causes.specs.declared.cause.Cause.TheVariants.{Done, DoneWith, Usage, Failed, NoMemory, Refused}
use Rattle.lr_causes.specs.declared.note.Note.{Note}
use Rattle.lr_cmd_shelf.specs.declared.range.Range.{Range}
use Rattle.lr_cmd_shelf.specs.Queries.{Query, QueryOn, Answer, EntryView, done_answer, refused_answer}
use Rattle.lr_cmd_shelf.specs.Queries.{entry_at, fate_of, answer_of, then_rest, AnswersFrom}
use Rattle.lr_cmd_shelf.specs.Queries.{AnswersIn, AnswersOn, BegunBy, query_over, query_on}
use Rattle.lr_causes.specs.Causes.{FaultCounts, done_with}
use Rattle.lr_causes.specs.Counts.{CountsTell, NoneBesides}
use Rattle.lr_causes.specs.Outside.{Outlets, OutletsOf, outlet_counts, outlets, outlets_of}
use Rattle.lr_causes.specs.Puts.{GotPart, GotText}
use Rattle.lr_cmd_shelf.specs.Runs.{Gathers, GathersOn, Got, IsDone, PutsAll, PutsFirst, PutsRefused, PutsCut}
use Rattle.lr_cmd_shelf.specs.Runs.{RunsOn, Takes, TakesAll}
use Rattle.lr_cmd_shelf.specs.Steps.{PutsText, CutsText, TextStops, TakesEntry, EntryStops, standing_at}
use Rattle.lr_cmd_shelf.specs.Read.{EntriesTaken, HasMore, LastBecomes, NextBecomes, Reading, WasSeen, allowed_on}
use Rattle.lr_cmd_shelf.specs.Read.{reading_on}
use Rattle.lr_cmd_shelf.proofs.Reading.{none_seen, one_more_seen, concat-push, was_before}
use Rattle.lr_cmd_shelf.specs.Reached.{SoFar, entries_run}
use Rattle.lr_cmd_shelf.proofs.Answering.{reaches_first, reaches_more, refused_here, begun_before}
use Rattle.lr_cmd_shelf.proofs.Answering.{ends_here}
use Rattle.lr_cmd_shelf.proofs.Texts.{quiet_counts, same_counts, text_counted}
use Rattle.lr_cmd_shelf.proofs.Texts.{entry_untouched, entry_told, entry_untold, text_told}
use Rattle.lr_cmd_shelf.proofs.Texts.{text_untold}

module _ {D O : Type 0} (disk : DiskOf D) (out : SinkOf O) (query : Query) (way : Way) (range : Range) (d : D)
    (o : O) where
  pub so_first : (gathers : List EntryView → Type 0) → gathers []
      → SoFar (outlets_of disk out) (entries_run query way range gathers) (outlets d o) range.from o
  so_first gathers fresh = record {
    read = [];
    text = [];
    gathered = fresh;
    few = omega arith;
    after = omega arith;
    puts = record {
      tell = tells_still;
      put = λ t. sym (append-nil (out.contents o));
      kept = refl;
    };
    untouched = λ same. refl;
    reaches = λ t. reaches_first query (disk.contents d) way range.from;
    texts = [];
    joined = refl;
    all = omega arith;
    seen = none_seen disk d query way range.from;
  }

  module _ (gathers : List EntryView → Type 0) (number : ℕ) (o1 o2 : O)
      (so : SoFar (outlets_of disk out) (entries_run query way range gathers) (outlets d o) number o1) where
    module _ (t : disk.tells d) (allowed : query.range (length way.entries) ≡ Some range) where
      abbrev MayAnswer : Answer → Type 0
      MayAnswer = AnswersOn (query_over query (disk.contents d) way)

      abbrev MayBegin : (passed left : ℕ) → List ℕ → Type 0
      MayBegin = BegunBy (query_over query (disk.contents d) way)

      pub onto : (answer : Answer)
          → AnswersFrom (query_over query (disk.contents d) way) (range.to - range.from) range.from [] answer
          → MayAnswer answer
      onto answer is = subst (λ (r : Option Range). AnswersIn (query_over query (disk.contents d) way) r answer)
          (sym allowed) is

      -- the texts so far
      pub begun_so : (left : ℕ) → number + left ≤ range.to → MayBegin (number - range.from) left so.text
      begun_so left inside = inr (record {
        range = range;
        allowed = allowed;
        inside = omega (arith, so.after, inside);
        texts = begun_before query (disk.contents d) way range.from number so.read so.text (so.reaches t);
      })

      -- nothing was put after them
      pub first_put : (left : ℕ) → number + left ≤ range.to → o2 ≡ o1
          → PutsFirst out (allowed_on (query_on query way) (disk.contents d)) left o o2
      first_put left inside still = record {
        passed = number - range.from;
        text = so.text;
        begun = begun_so left inside;
        put = λ told. ap out.contents still ∙ so.puts.put told;
        untouched = λ none. still ∙ so.untouched (omega (arith, so.after, none));
      }

      pub refused_put : (refusal : Refusal) → number ≤ range.to → o2 ≡ o1
          → AnswersFrom (query_over query (disk.contents d) way) (range.to - range.from) range.from []
          (refused_answer so.text refusal)
          → PutsRefused out (allowed_on (query_on query way) (disk.contents d)) refusal o o2
      unfolding first_put
      refused_put refusal inside still is = record {
        first = first_put 0 (omega (arith, inside)) still;
        is = onto (refused_answer so.text refusal) is;
      }

    -- one entry more, or the one at which it ends
    module _ (more : number < range.to) (d1 : D) (told : disk.tells d → disk.tells d1)
        (same : disk.tells d → disk.contents d1 ≡ disk.contents d) where
      at_start : (seen : Option EntryView) → WasSeen disk d1 query.sees (entry_at way number) seen
          → WasSeen disk d query.sees (entry_at way number) seen
      at_start seen was = was_before disk d d1 told same query.sees (entry_at way number) seen was

      pub so_more : (gathers' : List EntryView → Type 0) (d2 : D)
          → TakesEntry (outlets_of disk out) (standing_at query way so.read number) gathers' (outlets d1 o1)
          (outlets d2 o2)
          → SoFar (outlets_of disk out) (entries_run query way range gathers') (outlets d o) (number + 1) o2
      so_more gathers' d2 takes = record {
        read = so.read ++ takes.seen ∷ [];
        text = so.text ++ takes.puts.text;
        gathered = takes.gathered;
        few = omega (arith, so.few, length-append so.read (takes.seen ∷ []));
        after = omega (arith, so.after);
        puts = record {
          tell = tells_both so.puts.tell takes.puts.puts.tell;
          put = λ t.
              takes.puts.puts.put (so.puts.tell.told t) ∙ ap (λ (l : List ℕ). l ++ takes.puts.text) (so.puts.put t)
              ∙ append_assoc (out.contents o) so.text takes.puts.text;
          kept = takes.puts.puts.kept ∙ so.puts.kept;
        };
        untouched = λ none. absurd (omega (arith, so.after, none));
        reaches = λ t.
            reaches_more query (disk.contents d) way range.from number so.read so.text (so.reaches t) takes.seen
            ((at_start (Some takes.seen) takes.was).stands t) takes.puts.text takes.puts.is;
        texts = so.texts ++ takes.puts.text ∷ [];
        joined =
            ap (λ (l : List ℕ). l ++ takes.puts.text) so.joined
            ∙ sym (concat-push so.texts takes.puts.text);
        all = omega (arith, so.all, so.after, length-append so.read (takes.seen ∷ []));
        seen =
            let here : number ≡ range.from + length so.read = omega (arith, so.all, so.after) in
            one_more_seen disk d query way range.from so.read so.texts so.seen takes.seen takes.puts.text
            (subst (λ n. WasSeen disk d query.sees (entry_at way n) (Some takes.seen)) here
            (at_start (Some takes.seen) takes.was))
            (subst (λ n. query.fate so.read n takes.seen ≡ Ok takes.puts.text) here takes.puts.is);
      }

      module _ (allowed : query.range (length way.entries) ≡ Some range) (t : disk.tells d) where
        -- `out` failed in the text of the entry
        cut_here : (seen : Option EntryView) → WasSeen disk d1 query.sees (entry_at way number) seen
            → CutsText out (fate_of query way so.read number seen) o1 o2
            → PutsCut out (allowed_on (query_on query way) (disk.contents d)) o o2
        cut_here None was cuts = absurd (no_text cuts.is) where
          no_text : {e : Refusal} → ◌≡◌ {A = Result (List ℕ) Refusal} (Err e) (Ok cuts.text) → ⊥
          no_text same = cc (same)
        cut_here (Some seen) was cuts = record {
          passed = number - range.from;
          text = so.text;
          one = cuts.text;
          begun = begun_so t allowed 0 (omega (arith, more));
          next = inl (inr (record {
            range = range;
            allowed = allowed;
            inside = omega (arith, so.after, more);
            texts =
                let passed : number + 1 - range.from ≡ number - range.from + 1 = omega (arith, so.after) in
                subst
                (λ n. AnswersFrom (query_over (record query { last = λ w r. Ok []; note = λ r. None })
                (disk.contents d) way) n
                range.from [] (done_answer (so.text ++ cuts.text) None)) passed
                (begun_before query (disk.contents d) way range.from (number + 1) (so.read ++ seen ∷ [])
                (so.text ++ cuts.text)
                (reaches_more query (disk.contents d) way range.from number so.read so.text (so.reaches t) seen
                ((at_start (Some seen) was).stands t) cuts.text cuts.is));
          }));
          some = cuts.some;
          part = λ told_out.
              subst (λ (l : List ℕ). PutsPart cuts.text l (out.contents o2)) (so.puts.put told_out)
              (cuts.fails.part (so.puts.tell.told told_out));
        }

        pub entry_got : (d2 : D) (cause : Cause)
            → EntryStops (outlets_of disk out) (standing_at query way so.read number) cause (outlets d1 o1)
            (outlets d2 o2)
            → Got out (allowed_on (query_on query way) (disk.contents d)) cause o o2
        entry_got d2 Done stops = absurd stops.stops
        entry_got d2 (DoneWith note) stops = absurd stops.stops
        entry_got d2 Usage stops = absurd stops.stops
        entry_got d2 (Failed Source) stops = absurd stops.stops
        entry_got d2 (Failed Disk) stops = first_put t allowed 1 (omega (arith, more)) stops
        entry_got d2 (Failed Output) stops = cut_here stops.seen stops.was stops.stops
        entry_got d2 NoMemory stops = first_put t allowed 0 (omega (arith, more)) stops
        entry_got d2 (Refused refusal) stops =
            refused_put t allowed refusal (omega (arith, more)) stops.stops.1
            (refused_here query (disk.contents d) way range.from number so.read so.text (so.reaches t) range.to more
            stops.seen refusal ((at_start stops.seen stops.was).stands t) stops.stops.0)

    -- after the last entry
    module _ (inside : number ≤ range.to) (all : range.to ≤ number)
        (allowed : query.range (length way.entries) ≡ Some range) (t : disk.tells d) where
      last_from : (last : Result (List ℕ) Refusal) → query.last way so.read ≡ last
          → AnswersFrom (query_over query (disk.contents d) way) (range.to - range.from) range.from []
          (then_rest so.text (answer_of last (query.note so.read)))
      last_from last is =
          ends_here query (disk.contents d) way range.from number so.read so.text (so.reaches t) range.to inside all
          last is

      pub last_put : PutsText out (query.last way so.read) o1 o2
          → PutsAll out (allowed_on (query_on query way) (disk.contents d))
          (query.note so.read) o o2
      last_put puts = record {
        text = so.text ++ puts.text;
        is = onto t allowed (then_rest so.text (answer_of (Ok puts.text) (query.note so.read)))
            (last_from (Ok puts.text) puts.is);
        put = λ told_out.
            puts.puts.put (so.puts.tell.told told_out) ∙ ap (λ (l : List ℕ). l ++ puts.text) (so.puts.put told_out)
            ∙ append_assoc (out.contents o) so.text puts.text;
      }

      pub last_got : (cause : Cause) → TextStops out (query.last way so.read) cause o1 o2
          → Got out (allowed_on (query_on query way) (disk.contents d)) cause o o2
      last_got Done stops = absurd stops
      last_got (DoneWith note) stops = absurd stops
      last_got Usage stops = absurd stops
      last_got (Failed Source) stops = absurd stops
      last_got (Failed Disk) stops = absurd stops
      last_got (Failed Output) stops = record {
        passed = number - range.from;
        text = so.text;
        one = stops.text;
        begun = begun_so t allowed 0 (omega (arith, inside));
        next =
            inr (
              query.note so.read,
              onto t allowed (then_rest so.text (answer_of (Ok stops.text) (query.note so.read)))
                  (last_from (Ok stops.text) stops.is),
            );
        some = stops.some;
        part = λ told_out.
            subst (λ (l : List ℕ). PutsPart stops.text l (out.contents o2)) (so.puts.put told_out)
            (stops.fails.part (so.puts.tell.told told_out));
      }
      last_got NoMemory stops = first_put t allowed 0 (omega (arith, inside)) stops
      last_got (Refused refusal) stops =
          refused_put t allowed refusal inside stops.1
          (subst
          (λ (l : List ℕ). AnswersFrom (query_over query (disk.contents d) way) (range.to - range.from) range.from []
          (refused_answer l refusal)) (append-nil so.text) (last_from (Err refusal) stops.0))

    -- what was read and put, over every disk
    module _ (allowed : query.range (length way.entries) ≡ Some range) (inside : number ≤ range.to) (d2 : D) where
      abbrev TakesHere : Cause → Type 0
      TakesHere = Takes (outlets_of disk out) (reading_on (query_on query way)) (outlets d o) (outlets d2 o2)

      abbrev taken_so : EntriesTaken disk d (reading_on (query_on query way))
      taken_so = record {
        way = way;
        is_way = λ t. refl;
        range = range;
        allowed = allowed;
        read = so.read;
        few = omega (arith, so.all, so.after, inside);
        texts = so.texts;
        are = so.seen;
      }

      pub so_put : GotText out (concat so.texts) o o1
      so_put told = so.puts.put told ∙ ap (λ (l : List ℕ). out.contents o ++ l) so.joined

      first_got : o2 ≡ o1 → GotText out (concat so.texts) o o2
      first_got still told = ap out.contents still ∙ so_put told

      part_got : (one : List ℕ) → (out.tells o1 → PutsPart one (out.contents o1) (out.contents o2))
          → GotPart out (concat so.texts) one o o2
      part_got one part told =
          subst (λ (l : List ℕ). PutsPart one l (out.contents o2)) (so_put told) (part (so.puts.tell.told told))

      module _ (more : number < range.to) (d1 : D) (told : disk.tells d → disk.tells d1)
          (same : disk.tells d → disk.contents d1 ≡ disk.contents d) where
        left : HasMore disk d (reading_on (query_on query way)) taken_so
        left = omega (arith, so.all, so.after, more)

        next_becomes : (seen : Option EntryView) → WasSeen disk d1 query.sees (entry_at way number) seen
            → (fate : Result (List ℕ) Refusal) → fate_of query way so.read number seen ≡ fate
            → NextBecomes disk d (reading_on (query_on query way)) taken_so fate
        next_becomes seen was fate is =
            let here : number ≡ range.from + length so.read = omega (arith, so.all, so.after) in
            record {
              more = left;
              seen = seen;
              was = subst (λ n. WasSeen disk d query.sees (entry_at way n) seen) here
                  (at_start more d1 told same seen was);
              is = subst (λ n. fate_of query way so.read n seen ≡ fate) here is;
            }

        pub entry_takes : (cause : Cause)
            → EntryStops (outlets_of disk out) (standing_at query way so.read number) cause (outlets d1 o1)
            (outlets d2 o2)
            → TakesHere cause
        entry_takes Done stops = absurd stops.stops
        entry_takes (DoneWith note) stops = absurd stops.stops
        entry_takes Usage stops = absurd stops.stops
        entry_takes (Failed Source) stops = absurd stops.stops
        entry_takes (Failed Disk) stops = inr (record { taken = taken_so; after = left; put = first_got stops })
        entry_takes (Failed Output) stops = record {
          taken = taken_so;
          one = stops.stops.text;
          some = stops.stops.some;
          next = inl (next_becomes stops.seen stops.was (Ok stops.stops.text) stops.stops.is);
          part = part_got stops.stops.text stops.stops.fails.part;
        }
        entry_takes NoMemory stops = inr (record { taken = taken_so; after = tt; put = first_got stops })
        entry_takes (Refused refusal) stops =
            inr (record {
              taken = taken_so;
              after = inl (next_becomes stops.seen stops.was (Err refusal) stops.stops.0);
              put = first_got stops.stops.1;
            })

      module _ (all : range.to ≤ number) where
        pub last_becomes : (fate : Result (List ℕ) Refusal) → query.last way so.read ≡ fate
            → LastBecomes disk d (reading_on (query_on query way)) taken_so fate
        last_becomes fate is = record { all = omega (arith, so.all, inside, all); is = is }

        -- the last text was put
        abbrev pub takes_all : (note : Option Note) → query.note so.read ≡ note
            → PutsText out (query.last way so.read) o1 o2
            → TakesAll (outlets_of disk out) (reading_on (query_on query way)) (outlets d o) (outlets d2 o2) note
        takes_all note is puts = record {
          taken = taken_so;
          last = puts.text;
          ends = last_becomes (Ok puts.text) puts.is;
          note_is = is;
          put = λ told.
              puts.puts.put (so.puts.tell.told told) ∙ ap (λ (l : List ℕ). l ++ puts.text) (so_put told)
              ∙ append_assoc (out.contents o) (concat so.texts) puts.text;
        }

        pub last_takes : (cause : Cause) → TextStops out (query.last way so.read) cause o1 o2 → TakesHere cause
        last_takes Done stops = absurd stops
        last_takes (DoneWith note) stops = absurd stops
        last_takes Usage stops = absurd stops
        last_takes (Failed Source) stops = absurd stops
        last_takes (Failed Disk) stops = absurd stops
        last_takes (Failed Output) stops = record {
          taken = taken_so;
          one = stops.text;
          some = stops.some;
          next = inr (last_becomes (Ok stops.text) stops.is);
          part = part_got stops.text stops.fails.part;
        }
        last_takes NoMemory stops = inr (record { taken = taken_so; after = tt; put = first_got stops })
        last_takes (Refused refusal) stops =
            inr (record {
              taken = taken_so;
              after = inr (last_becomes (Err refusal) stops.0);
              put = first_got stops.1;
            })

-- ---- what stops a run isn't done

module _ {D O : Type 0} (disk : DiskOf D) (out : SinkOf O) where
  pub text_undone : (fate : Result (List ℕ) Refusal) (o o' : O) (cause : Cause) → TextStops out fate cause o o'
      → IsDone cause → ⊥
  text_undone fate o o' Done stops done = stops
  text_undone fate o o' (DoneWith note) stops done = stops
  text_undone fate o o' Usage stops done = done
  text_undone fate o o' (Failed party) stops done = done
  text_undone fate o o' NoMemory stops done = done
  text_undone fate o o' (Refused refusal) stops done = done

  pub entry_undone : (query : Query) (way : Way) (read : List EntryView) (number : ℕ) (d d' : D) (o o' : O)
      (cause : Cause)
      → EntryStops (outlets_of disk out) (standing_at query way read number) cause (outlets d o) (outlets d' o')
      → IsDone cause → ⊥
  entry_undone query way read number d d' o o' Done stops done = stops.stops
  entry_undone query way read number d d' o o' (DoneWith note) stops done = stops.stops
  entry_undone query way read number d d' o o' Usage stops done = done
  entry_undone query way read number d d' o o' (Failed party) stops done = done
  entry_undone query way read number d d' o o' NoMemory stops done = done
  entry_undone query way read number d d' o o' (Refused refusal) stops done = done

-- so nothing is said of what it gathered
module _ {D O G : Type 0} (world : OutletsOf D O) (asked : Reading) (w w' : Outlets D O)
    (gathers : G → List EntryView → Type 0) where
  pub undone_gathers : (cause : Cause) → (IsDone cause → ⊥) → (takes : Takes world asked w w' cause)
      → Gathers world asked w w' gathers cause takes
  undone_gathers Done undone takes = absurd (undone tt)
  undone_gathers (DoneWith note) undone takes = absurd (undone tt)
  undone_gathers Usage undone takes = tt
  undone_gathers (Failed party) undone takes = tt
  undone_gathers NoMemory undone takes = tt
  undone_gathers (Refused refusal) undone takes = tt

pub stops_gathers : {D O G : Type 0} (world : OutletsOf D O) (on : QueryOn) (w w' : Outlets D O)
    (gathers : G → List EntryView → Type 0) (cause : Cause) → (IsDone cause → ⊥) → RunsOn world on cause w w'
    → GathersOn world gathers cause w w' on
stops_gathers world on w w' gathers cause undone runs =
    record { runs = runs; gathered = undone_gathers world (reading_on on) w w' gathers cause undone runs.takes }

-- ---- the ways out

module _ {D O : Type 0} (disk : DiskOf D) (out : SinkOf O) (query : Query) (way : Way) (d : D) (o : O) where
  -- a number isn't allowed
  pub not_allowed :
      ((x : D) (c : List ℕ) → disk.tells x → disk.left_since x (disk.moment x) c → disk.may_leave x c)
      → disk.only_read d d → (count : ℕ) → count ≡ length way.entries → query.range count ≡ None
      → RunsOn (outlets_of disk out) (query_on query way) (Refused (NoSuchFile count)) (outlets d o) (outlets d o)
  not_allowed only_now no_call count count_is none = record {
    takes = inl (none, refl);
    counted = quiet_counts disk out (Refused (NoSuchFile count)) d d o o tt refl refl;
    tell = record {
      by_disk = tells_still;
      by_out = tells_still;
    };
    only_read = only_read_yet disk only_now d no_call;
    got = λ t. record {
      first = record {
        passed = 0;
        text = [];
        begun = inl (refl, refl);
        put = λ told_out. sym (append-nil (out.contents o));
        untouched = λ none. refl;
      };
      is =
          subst
          (λ (r : Option Range). AnswersIn (query_over query (disk.contents d) way) r
          (refused_answer [] (NoSuchFile count)))
          (sym (ap query.range (sym count_is) ∙ none))
          (ap (λ (n : ℕ). refused_answer [] (NoSuchFile n)) count_is);
    };
    untouched = λ one cuts. refl;
  }

  module _ (range : Range) (allowed : query.range (length way.entries) ≡ Some range)
      (gathers : List EntryView → Type 0) (number : ℕ) (d1 : D) (o1 o2 : O)
      (so : SoFar (outlets_of disk out) (entries_run query way range gathers) (outlets d o) number o1)
      (told : disk.tells d → disk.tells d1)
      (untold : disk.tells d1 → disk.tells d) (reads : IsOnlyRead disk d d1)
      (count : disk.faults d1 ≡ disk.faults d) where
    same_here : outlet_counts (outlets_of disk out) (outlets d1 o1) ≡ outlet_counts (outlets_of disk out) (outlets d o)
    same_here = same_counts disk out d d1 o o1 count so.puts.kept

    -- an entry was not taken
    pub entry_stopped : ((x y z : D) → disk.only_read x y → disk.only_read y z → disk.only_read x z)
        → (d2 : D) → number < range.to → (disk.tells d1 → disk.tells d2)
        → (disk.tells d2 → disk.tells d1) → IsOnlyRead disk d1 d2 → (cause : Cause)
        → EntryStops (outlets_of disk out) (standing_at query way so.read number) cause (outlets d1 o1) (outlets d2 o2)
        → CountsTell NoneBesides cause (outlet_counts (outlets_of disk out) (outlets d1 o1))
        (outlet_counts (outlets_of disk out) (outlets d2 o2))
        → RunsOn (outlets_of disk out) (query_on query way) cause (outlets d o) (outlets d2 o2)
    entry_stopped reads_on d2 more told2 untold2 entry_reads cause stops counted = record {
      takes = entry_takes disk out query way range d o gathers number o1 o2 so allowed (omega (arith, more)) d2 more
          d1 told (λ t. (reads.unwritten t).contents) cause stops;
      counted =
          subst
          (λ (c : FaultCounts). CountsTell NoneBesides cause c
          (outlet_counts (outlets_of disk out) (outlets d2 o2))) same_here
          counted;
      tell = record {
        by_disk = record { told = λ t. told2 (told t); untold = λ t. untold (untold2 t) };
        by_out = record {
          told = λ t.
              entry_told disk out query way so.read number d1 d2 o1 o2 cause stops (so.puts.tell.told t);
          untold = λ t.
              so.puts.tell.untold (entry_untold disk out query way so.read number d1 d2 o1 o2 cause stops t);
        };
      };
      only_read = only_read_joined disk reads_on d d1 d2 told reads entry_reads;
      got = λ t.
          entry_got disk out query way range d o gathers number o1 o2 so more d1 told (λ t'.
          (reads.unwritten t').contents)
          allowed t d2 cause stops;
      untouched = λ one cuts.
          entry_untouched disk out query way so.read number d1 d2 o1 o2 cause stops cuts
          ∙ so.untouched (omega (arith, so.after, more, one.one (length way.entries) range allowed));
    }

    -- the last text was put, and this is told beside it
    module _ (inside : number ≤ range.to) (all : range.to ≤ number)
        (puts : PutsText out (query.last way so.read) o1 o2) where
      put_so : (t : disk.tells d) → (noted : Option Note) → noted ≡ query.note so.read
          → PutsAll out (allowed_on (query_on query way) (disk.contents d)) noted o o2
      put_so t noted is =
          subst
          (λ (n : Option Note). PutsAll out (allowed_on (query_on query way) (disk.contents d)) n o o2) (sym is)
          (last_put disk out query way range d o gathers number o1 o2 so inside all allowed t puts)

      pub last_taken : (note : Option Note) → note ≡ query.note so.read
          → RunsOn (outlets_of disk out) (query_on query way) (done_with note) (outlets d o) (outlets d1 o2)
      last_taken None is = record {
        takes = takes_all disk out query way range d o gathers number o1 o2 so allowed inside d1 all None (sym is)
            puts;
        counted = quiet_counts disk out Done d d1 o o2 tt count (puts.puts.kept ∙ so.puts.kept);
        tell = record {
          by_disk = record { told = told; untold = untold };
          by_out = tells_both so.puts.tell puts.puts.tell;
        };
        only_read = reads;
        got = λ t. put_so t None is;
        untouched = λ one cuts. absurd cuts;
      }
      last_taken (Some note) is = record {
        takes = takes_all disk out query way range d o gathers number o1 o2 so allowed inside d1 all (Some note)
            (sym is) puts;
        counted = quiet_counts disk out (DoneWith note) d d1 o o2 tt count (puts.puts.kept ∙ so.puts.kept);
        tell = record {
          by_disk = record { told = told; untold = untold };
          by_out = tells_both so.puts.tell puts.puts.tell;
        };
        only_read = reads;
        got = λ t. put_so t (Some note) is;
        untouched = λ one cuts. absurd cuts;
      }

      -- what all entries gave
      pub last_gathered : {G : Type 0} (gather : G → List EntryView → Type 0) (value : G) → gather value so.read
          → (note : Option Note) → note ≡ query.note so.read
          → GathersOn (outlets_of disk out) gather (done_with note) (outlets d o) (outlets d1 o2) (query_on query way)
      unfolding last_taken
      last_gathered gather value knows None is =
          record { runs = last_taken None is; gathered = (value, knows) }
      last_gathered gather value knows (Some note) is =
          record { runs = last_taken (Some note) is; gathered = (value, knows) }

    -- or it was not
    pub last_stopped : number ≤ range.to → range.to ≤ number → (cause : Cause)
        → TextStops out (query.last way so.read) cause o1 o2 → (query.last way so.read ≡ Ok [] → ⊥)
        → RunsOn (outlets_of disk out) (query_on query way) cause (outlets d o) (outlets d1 o2)
    last_stopped inside all cause stops some = record {
      takes = last_takes disk out query way range d o gathers number o1 o2 so allowed inside d1 all cause stops;
      counted = subst
          (λ (c : FaultCounts). CountsTell NoneBesides cause c
          (outlet_counts (outlets_of disk out) (outlets d1 o2)))
          same_here
          (text_counted disk out (query.last way so.read) d1 d1 o1 o2 refl cause stops);
      tell = record {
        by_disk = record { told = told; untold = untold };
        by_out = record {
          told = λ t. text_told disk out (query.last way so.read) o1 o2 cause stops (so.puts.tell.told t);
          untold = λ t. so.puts.tell.untold (text_untold disk out (query.last way so.read) o1 o2 cause stops t);
        };
      };
      only_read = reads;
      got = λ t. last_got disk out query way range d o gathers number o1 o2 so inside all allowed t cause stops;
      untouched = λ one cuts. absurd (some (one.nothing_last way so.read));
    }
