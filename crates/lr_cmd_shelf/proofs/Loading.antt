-- What a run does, by what loading the shelf answered.
use Rattle.std.proofs.Common.{◌≡◌, ◌⊎◌, ◌+◌, ◌<◌, inl, inr, ℕ, Option, Some, None, Result, Ok, Err}
use Rattle.std.proofs.Common.{IfOk, List, [], ◌++◌, length, refl, arith, ap, ◌∙◌, sym, subst}
use Rattle.std.proofs.Common.{append-nil, length-append}
use Rattle.lr_bits.proofs.Telling.{tells_both, tells_still}
use Rattle.lr_io.specs.declared.sink.Sink.{Ghosts as SinkOf}
use Rattle.lr_disk.specs.declared.disk.Disk.{Ghosts as DiskOf}
use Rattle.lr_disk.proofs.Moments.{only_read_joined, only_read_yet}
use Rattle.lr_shelf_format.specs.Way.{Way, IsWay}
use Rattle.lr_shelf.specs.Calls.{IsFaultCounted}
use Rattle.lr_shelf.specs.Kept.{kept_by}
use Rattle.lr_shelf.specs.Load.{Loads, IsLoadRefusal}
use Rattle.lr_shelf.specs.Shelf.{KeepsWay}
use Rattle.lr_shelf.specs.declared.shelf.Shelf.{Shelf}
use Rattle.lr_shelf.specs.declared.error.ShelfError.{ShelfError}
use Rattle.lr_shelf.specs.declared.error.ShelfError.TheVariants.{Disk as Disk'}
use Rattle.lr_shelf.specs.declared.error.ShelfError.TheVariants.{NotAShelf as NotAShelf'}
use Rattle.lr_shelf.specs.declared.error.ShelfError.TheVariants.{NotEmpty as NotEmpty'}
use Rattle.lr_shelf.specs.declared.error.ShelfError.TheVariants.{Capacity as Capacity'}
use Rattle.lr_shelf.specs.declared.error.ShelfError.TheVariants.{NoSuchFile as NoSuchFile'}
use Rattle.lr_shelf.specs.declared.error.ShelfError.TheVariants.{Crc as Crc', NoMemory as NoMemory'}
use Rattle.lr_shelf.specs.declared.error.ShelfError.TheVariants.{Failed as Failed'}
use Rattle.lr_shelf.specs.declared.error.ShelfError.TheVariants.{Discarded as Discarded'}
use Rattle.lr_causes.specs.declared.cause.Party.TheVariants.{Source, Disk, Output}
use Rattle.lr_causes.specs.declared.cause.Refusal.{Refusal}
use Rattle.lr_causes.specs.declared.cause.Refusal.TheVariants.{NotAShelf}
use Rattle.lr_causes.specs.declared.cause.Cause.{Cause}
use Rattle.lr_causes.specs.declared.cause.Cause.TheVariants.{Done, DoneWith, Usage, Failed, NoMemory, Refused}
use Rattle.lr_causes.specs.declared.note.Note.{Note}
use Rattle.lr_cmd_shelf.specs.Queries.{Query, Answer, AnswersOn, BegunBy, EntryView, IsAnswer, IsBegun, entry_at}
use Rattle.lr_cmd_shelf.specs.Queries.{done_answer, refused_answer, query_on, query_over}
use Rattle.lr_causes.specs.Causes.{FaultCounts}
use Rattle.lr_causes.specs.Counts.{CountsTell, NoneBesides}
use Rattle.lr_causes.specs.Outside.{outlet_counts, outlets, outlets_of}
use Rattle.lr_refusals.specs.Errors.{cause_of}
use Rattle.lr_cmd_shelf.specs.Read.{EntriesTaken, Reading, ThenBecomes, allowed_by, allowed_on, entries_seen}
use Rattle.lr_cmd_shelf.specs.Read.{reading_by, reading_on}
use Rattle.lr_cmd_shelf.specs.Runs.{PutsFirst, Gathers, GathersOn, GathersOver, Got, IsDone, Precedes, RunsReading}
use Rattle.lr_cmd_shelf.specs.Runs.{RunsOn, RunsOver, Takes, TakesAll, cause_for}
use Rattle.lr_cmd_shelf.specs.Sights.{SeesImages}
use Rattle.lr_cmd_shelf.proofs.Answering.{answer_is, begun_front}
use Rattle.lr_cmd_shelf.proofs.Reading.{seen_before, was_before}
use Rattle.lr_cmd_shelf.proofs.Taking.{undone_gathers}
use Rattle.lr_cmd_shelf.proofs.Texts.{disk_counts, quiet_counts, same_counts}

-- a text that goes on after some byte isn't empty
some_after : (text one rest whole : List ℕ) → whole ≡ (text ++ one) ++ rest → 0 < length one → 0 < length whole
some_after text one rest whole same some =
    omega (arith, some, ap length same, length-append (text ++ one) rest, length-append text one)

module _ {D O : Type 0} (disk : DiskOf D) (out : SinkOf O) (query : Query) where
  -- what the bytes answer comes, unless an event came before it
  ends : SeesImages query.sees → (bytes : List ℕ) (o o' : O) (cause : Cause)
      → Got out (allowed_by query bytes) cause o o' → (answer : Answer)
      → IsAnswer query bytes answer → (cause ≡ cause_for answer.refusal answer.note) ⊎ Precedes cause answer
  ends images bytes o o' Done got answer is =
      inl (ap (λ (a : Answer). cause_for a.refusal a.note)
      (answer_is query images bytes (done_answer got.text None) answer got.is is))
  ends images bytes o o' (DoneWith note) got answer is =
      inl (ap (λ (a : Answer). cause_for a.refusal a.note)
      (answer_is query images bytes (done_answer got.text (Some note)) answer got.is is))
  ends images bytes o o' Usage got answer is = absurd got
  ends images bytes o o' (Failed Source) got answer is = absurd got
  ends images bytes o o' (Failed Disk) got answer is = inr tt
  ends images bytes o o' (Failed Output) got answer is = inr (cut got.next) where
    cut : IsBegun query bytes (got.passed + 1) 0 (got.text ++ got.one)
        ⊎ ((note : Option Note) × IsAnswer query bytes (done_answer (got.text ++ got.one) note))
        → 0 < length answer.text
    cut (inl begun) =
        let front = begun_front query images bytes (got.passed + 1) 0 (got.text ++ got.one) answer begun is in
        some_after got.text got.one front.0 answer.text front.1 got.some
    cut (inr whole) =
        some_after got.text got.one [] answer.text
        (ap (λ (a : Answer). a.text)
        (answer_is query images bytes answer (done_answer (got.text ++ got.one) whole.0) is whole.1)
        ∙ sym (append-nil (got.text ++ got.one))) got.some
  ends images bytes o o' NoMemory got answer is = inr tt
  ends images bytes o o' (Refused refusal) got answer is =
      inl (ap (λ (a : Answer). cause_for a.refusal a.note)
      (answer_is query images bytes (refused_answer got.first.text refusal) answer got.is is))

  pub over : SeesImages query.sees → (d d' : D) (o o' : O) (cause : Cause)
      → RunsReading (outlets_of disk out) (reading_by query) cause (outlets d o) (outlets d' o')
      → RunsOver (outlets_of disk out) query cause (outlets d o) (outlets d' o')
  over images d d' o o' cause runs =
      record { runs = runs; ends = λ answer t. ends images (disk.contents d) o o' cause (runs.got t) answer }

  -- one that isn't done gathers nothing
  pub over_gathers : SeesImages query.sees → (d d' : D) (o o' : O) {G : Type 0} (gathers : G → List EntryView → Type 0)
      (cause : Cause) → (IsDone cause → ⊥)
      → RunsReading (outlets_of disk out) (reading_by query) cause (outlets d o) (outlets d' o')
      → GathersOver (outlets_of disk out) gathers cause (outlets d o) (outlets d' o') query
  over_gathers images d d' o o' gathers cause undone runs =
      let whole = over images d d' o o' cause runs in
      record {
        runs = whole;
        gathered = undone_gathers (outlets_of disk out) (reading_by query) (outlets d o) (outlets d' o') gathers cause
            undone whole.runs.takes;
      }

  -- nothing was put
  nothing : (bytes : List ℕ) (o : O) → PutsFirst out (allowed_by query bytes) 1 o o
  nothing bytes o = record {
    passed = 0;
    text = [];
    begun = inl (refl, refl);
    put = λ told_out. sym (append-nil (out.contents o));
    untouched = λ none. refl;
  }

  nothing_yet : (bytes : List ℕ) (o : O) → PutsFirst out (allowed_by query bytes) 0 o o
  nothing_yet bytes o = record {
    passed = 0;
    text = [];
    begun = inl (refl, refl);
    put = λ told_out. sym (append-nil (out.contents o));
    untouched = λ none. refl;
  }

  -- memory was refused before the shelf was loaded
  pub not_started :
      ((x : D) (c : List ℕ) → disk.tells x → disk.left_since x (disk.moment x) c → disk.may_leave x c)
      → (d : D) → disk.only_read d d → (o : O)
      → RunsReading (outlets_of disk out) (reading_by query) NoMemory (outlets d o) (outlets d o)
  not_started only_now d none o = record {
    takes = inl refl;
    counted = quiet_counts disk out NoMemory d d o o tt refl refl;
    tell = record {
      by_disk = tells_still;
      by_out = tells_still;
    };
    only_read = only_read_yet disk only_now d none;
    got = λ t. nothing_yet (disk.contents d) o;
    untouched = λ one cuts. refl;
  }

  module _ (d d1 : D) (o : O) (result : Result Shelf ShelfError) (loads : Loads disk d d1 result) where
    counted_load : (error : ShelfError) → result ≡ Err error
        → IsFaultCounted {A = Shelf} (disk.faults d) (disk.faults d1) (Err error)
    counted_load error is =
        subst (λ (r : Result Shelf ShelfError). IsFaultCounted (disk.faults d) (disk.faults d1) r) is
        loads.calls.counted

    -- no shelf was loaded
    pub not_loaded : (error : ShelfError) → result ≡ Err error → IsLoadRefusal disk d error
        → RunsReading (outlets_of disk out) (reading_by query) (cause_of error) (outlets d o)
        (outlets d1 o)
    not_loaded Disk' is refusal = record {
      takes = inl refl;
      counted = disk_counts disk out d d1 o o (counted_load Disk' is).1 refl;
      tell = record {
        by_disk = loads.calls.tell;
        by_out = tells_still;
      };
      only_read = loads.only_read;
      got = λ t. nothing (disk.contents d) o;
      untouched = λ one cuts. refl;
    }
    not_loaded (NotAShelf' at) is refusal = record {
      takes = inl refl;
      counted =
          quiet_counts disk out (Refused (NotAShelf at)) d d1 o o tt (counted_load (NotAShelf' at) is) refl;
      tell = record {
        by_disk = loads.calls.tell;
        by_out = tells_still;
      };
      only_read = loads.only_read;
      got = λ t. record {
        first = record {
          passed = 0;
          text = [];
          begun = inl (refl, refl);
          put = λ told_out. sym (append-nil (out.contents o));
          untouched = λ none. refl;
        };
        is = inl (at, refusal t, refl);
      };
      untouched = λ one cuts. refl;
    }
    not_loaded (NotEmpty' size) is refusal = absurd refusal
    not_loaded (Capacity' needed most) is refusal = absurd refusal
    not_loaded (NoSuchFile' count) is refusal = absurd refusal
    not_loaded (Crc' stored computed) is refusal = absurd refusal
    not_loaded NoMemory' is refusal = record {
      takes = inl refl;
      counted = quiet_counts disk out NoMemory d d1 o o tt (counted_load NoMemory' is) refl;
      tell = record {
        by_disk = loads.calls.tell;
        by_out = tells_still;
      };
      only_read = loads.only_read;
      got = λ t. nothing_yet (disk.contents d) o;
      untouched = λ one cuts. refl;
    }
    not_loaded Failed' is refusal = absurd refusal
    not_loaded Discarded' is refusal = absurd refusal

    -- so nothing was gathered
    pub not_loaded_gathers : SeesImages query.sees → {G : Type 0} (gathers : G → List EntryView → Type 0)
        → (error : ShelfError) → result ≡ Err error → IsLoadRefusal disk d error
        → GathersOver (outlets_of disk out) gathers (cause_of error) (outlets d o) (outlets d1 o) query
    not_loaded_gathers images gathers error is refusal =
        over_gathers images d d1 o o gathers (cause_of error) (no_work error) (not_loaded error is refusal)
      where
        no_work : (error : ShelfError) → IsDone (cause_of error) → ⊥
        no_work Disk' done = done
        no_work (NotAShelf' at) done = done
        no_work (NotEmpty' size) done = done
        no_work (Capacity' needed most) done = done
        no_work (NoSuchFile' count) done = done
        no_work (Crc' stored computed) done = done
        no_work NoMemory' done = done
        no_work Failed' done = done
        no_work Discarded' done = done

    module _ (shelf : Shelf) (is : result ≡ Ok shelf) where
      pub way_there : disk.tells d → IsWay (disk.contents d) (kept_by shelf).way
      way_there told =
          subst (λ (l : List ℕ). IsWay l (kept_by shelf).way) (loads.only_read.unwritten told).contents
          (subst (λ (r : Result Shelf ShelfError). IfOk r (KeepsWay (disk.contents d1))) is (loads.way told))

      pub counted_ok : disk.faults d1 ≡ disk.faults d
      counted_ok =
          subst (λ (r : Result Shelf ShelfError). IsFaultCounted (disk.faults d) (disk.faults d1) r) is
          loads.calls.counted

      module _ (t : disk.tells d) where
        abbrev way : Way
        way = (kept_by shelf).way

        abbrev bytes : List ℕ
        bytes = disk.contents d

        onto : (answer : Answer) → AnswersOn (query_over query bytes way) answer → IsAnswer query bytes answer
        onto answer one = inr (way, way_there t, one)

        first : (passed left : ℕ) (text : List ℕ) → BegunBy (query_over query bytes way) passed left text
            → IsBegun query bytes passed left text
        first passed left text (inl none) = inl none
        first passed left text (inr begun) = inr (way, way_there t, begun)

        first_all : (left : ℕ) (o' : O)
            → PutsFirst out (allowed_on (query_on query way) bytes) left o o'
            → PutsFirst out (allowed_by query bytes) left o o'
        first_all left o' got = record {
          passed = got.passed;
          text = got.text;
          begun = first got.passed left got.text got.begun;
          put = got.put;
          untouched = got.untouched;
        }

        next_all : (passed : ℕ) (text : List ℕ)
            → BegunBy (query_over query bytes way) passed 0 text
            ⊎ ((note : Option Note) × AnswersOn (query_over query bytes way) (done_answer text note))
            → IsBegun query bytes passed 0 text
            ⊎ ((note : Option Note) × IsAnswer query bytes (done_answer text note))
        next_all passed text (inl begun) = inl (first passed 0 text begun)
        next_all passed text (inr one) = inr (one.0, onto (done_answer text one.0) one.1)

        got_all : (cause : Cause) (o' : O)
            → Got out (allowed_on (query_on query way) bytes) cause o o'
            → Got out (allowed_by query bytes) cause o o'
        unfolding first_all
        got_all Done o' got = record {
          text = got.text;
          is = onto (done_answer got.text None) got.is;
          put = got.put;
        }
        got_all (DoneWith note) o' got = record {
          text = got.text;
          is = onto (done_answer got.text (Some note)) got.is;
          put = got.put;
        }
        got_all Usage o' got = absurd got
        got_all (Failed Source) o' got = absurd got
        got_all (Failed Disk) o' got = first_all 1 o' got
        got_all (Failed Output) o' got = record {
          passed = got.passed;
          text = got.text;
          one = got.one;
          begun = first got.passed 0 got.text got.begun;
          next = next_all (got.passed + 1) (got.text ++ got.one) got.next;
          some = got.some;
          part = got.part;
        }
        got_all NoMemory o' got = first_all 0 o' got
        got_all (Refused refusal) o' got = record {
          first = first_all 0 o' got.first;
          is = onto (refused_answer got.first.text refusal) got.is;
        }

      -- what was read of it was read of the disk as it was before
      abbrev On : Reading
      On = reading_on (query_on query (kept_by shelf).way)

      abbrev By : Reading
      By = reading_by query

      abbrev same_bytes : disk.tells d → disk.contents d1 ≡ disk.contents d
      same_bytes t = (loads.only_read.unwritten t).contents

      abbrev taken_before : EntriesTaken disk d1 On → EntriesTaken disk d By
      taken_before taken = record {
        way = taken.way;
        is_way = λ t.
            subst (λ (w : Way). IsWay (disk.contents d) w) (sym (taken.is_way (loads.calls.tell.told t)))
            (way_there t);
        range = taken.range;
        allowed = taken.allowed;
        read = taken.read;
        few = taken.few;
        texts = taken.texts;
        are = seen_before disk d d1 loads.calls.tell.told same_bytes
            (entries_seen query taken.way taken.range.from taken.read) taken.texts taken.are;
      }

      then_before : (taken : EntriesTaken disk d1 On) (fate : Result (List ℕ) Refusal)
          → ThenBecomes disk d1 On taken fate → ThenBecomes disk d By (taken_before taken) fate
      then_before taken fate (inl next) =
          inl (record {
            more = next.more;
            seen = next.seen;
            was = was_before disk d d1 loads.calls.tell.told same_bytes query.sees
                (entry_at taken.way (taken.range.from + length taken.read)) next.seen next.was;
            is = next.is;
          })
      then_before taken fate (inr last) = inr (record { all = last.all; is = last.is })

      module _ (d2 : D) (o' : O) where
        abbrev TakesOn : Cause → Type 0
        TakesOn = Takes (outlets_of disk out) On (outlets d1 o) (outlets d2 o')

        abbrev TakesBy : Cause → Type 0
        TakesBy = Takes (outlets_of disk out) By (outlets d o) (outlets d2 o')

        abbrev all_before : (note : Option Note)
            → TakesAll (outlets_of disk out) On (outlets d1 o) (outlets d2 o') note
            → TakesAll (outlets_of disk out) By (outlets d o) (outlets d2 o') note
        all_before note takes = record {
          taken = taken_before takes.taken;
          last = takes.last;
          ends = record { all = takes.ends.all; is = takes.ends.is };
          note_is = takes.note_is;
          put = takes.put;
        }

        takes_before : (cause : Cause) → TakesOn cause → TakesBy cause
        takes_before Done takes = all_before None takes
        takes_before (DoneWith note) takes = all_before (Some note) takes
        takes_before Usage takes = absurd takes
        takes_before (Failed Source) takes = absurd takes
        takes_before (Failed Disk) (inl none) = inl none
        takes_before (Failed Disk) (inr first) =
            inr (record { taken = taken_before first.taken; after = first.after; put = first.put })
        takes_before (Failed Output) takes = record {
          taken = taken_before takes.taken;
          one = takes.one;
          some = takes.some;
          next = then_before takes.taken (Ok takes.one) takes.next;
          part = takes.part;
        }
        takes_before NoMemory (inl none) = inl none
        takes_before NoMemory (inr first) =
            inr (record { taken = taken_before first.taken; after = tt; put = first.put })
        takes_before (Refused refusal) (inl none) = inl none
        takes_before (Refused refusal) (inr first) =
            inr (record {
              taken = taken_before first.taken;
              after = then_before first.taken (Err refusal) first.after;
              put = first.put;
            })

        gathers_before : {G : Type 0} (gathers : G → List EntryView → Type 0) (cause : Cause) (takes : TakesOn cause)
            → Gathers (outlets_of disk out) On (outlets d1 o) (outlets d2 o') gathers cause takes
            → Gathers (outlets_of disk out) By (outlets d o) (outlets d2 o') gathers cause (takes_before cause takes)
        unfolding takes_before
        gathers_before gathers Done takes gathered = gathered
        gathers_before gathers (DoneWith note) takes gathered = gathered
        gathers_before gathers Usage takes gathered = tt
        gathers_before gathers (Failed party) takes gathered = tt
        gathers_before gathers NoMemory takes gathered = tt
        gathers_before gathers (Refused refusal) takes gathered = tt

      -- a shelf was loaded, and its entries were run over
      pub loaded : ((x y z : D) → disk.only_read x y → disk.only_read y z → disk.only_read x z)
          → (d2 : D) (o' : O) (cause : Cause)
          → RunsOn (outlets_of disk out) (query_on query (kept_by shelf).way) cause (outlets d1 o) (outlets d2 o')
          → RunsReading (outlets_of disk out) (reading_by query) cause (outlets d o) (outlets d2 o')
      loaded reads_on d2 o' cause runs = record {
        takes = takes_before d2 o' cause runs.takes;
        counted = subst
            (λ (c : FaultCounts). CountsTell NoneBesides cause c
            (outlet_counts (outlets_of disk out) (outlets d2 o')))
            (same_counts disk out d d1 o o counted_ok refl) runs.counted;
        tell = record {
          by_disk = tells_both loads.calls.tell runs.tell.by_disk;
          by_out = runs.tell.by_out;
        };
        only_read = only_read_joined disk reads_on d d1 d2 loads.calls.tell.told loads.only_read runs.only_read;
        got = λ t.
            got_all t cause o'
            (subst
            (λ (b : List ℕ). Got out (allowed_on (query_on query (kept_by shelf).way) b)
            cause o o') (loads.only_read.unwritten t).contents (runs.got (loads.calls.tell.told t)));
        untouched = runs.untouched;
      }

      -- and what was gathered of them
      pub loaded_gathers : SeesImages query.sees
          → ((x y z : D) → disk.only_read x y → disk.only_read y z → disk.only_read x z)
          → (d2 : D) (o' : O) (cause : Cause) {G : Type 0} (gathers : G → List EntryView → Type 0)
          → GathersOn (outlets_of disk out) gathers cause (outlets d1 o) (outlets d2 o')
          (query_on query (kept_by shelf).way)
          → GathersOver (outlets_of disk out) gathers cause (outlets d o) (outlets d2 o') query
      unfolding over loaded
      loaded_gathers images reads_on d2 o' cause gathers on = record {
        runs = over images d d2 o o' cause (loaded reads_on d2 o' cause on.runs);
        gathered = gathers_before d2 o' gathers cause on.runs.takes on.gathered;
      }
