-- What a run comes to where no bundle was taken, or no shelf loaded.
use Rattle.std.proofs.Common.{◌≡◌, ◌<◌, ◌⊎◌, inl, inr, ℕ, List, [], length}
use Rattle.std.proofs.Common.{refl, sym, ap, subst, arith, Result, Err, IfErr, MatchResult}
use Rattle.lr_bits.proofs.Telling.{tells_still}
use Rattle.lr_conv.specs.declared.line.LineCode.{LineCode}
use Rattle.lr_io.specs.declared.source.Source.{Ghosts as SourceOf}
use Rattle.lr_io.specs.declared.sink.Sink.{Ghosts as SinkOf}
use Rattle.lr_disk.specs.declared.disk.Disk.{Ghosts as DiskOf}
use Rattle.lr_shelf_format.specs.Way.{IsNoShelfAt, IsWay, Way}
use Rattle.lr_shelf_format.proofs.WayLemmas.{has_one_way}
use Rattle.lr_shelf.specs.Calls.{IsFaultCounted}
use Rattle.lr_shelf.specs.Kept.{kept_by}
use Rattle.lr_shelf.specs.Load.{IsLoadRefusal, Loads, MayRefuseAt}
use Rattle.lr_shelf.specs.declared.shelf.Shelf.{Shelf}
use Rattle.lr_shelf.specs.declared.error.ShelfError.{ShelfError}
use Rattle.lr_shelf.specs.declared.error.ShelfError.TheVariants.{Disk as Disk'}
use Rattle.lr_shelf.specs.declared.error.ShelfError.TheVariants.{NotAShelf as NotAShelf'}
use Rattle.lr_shelf.specs.declared.error.ShelfError.TheVariants.{NoMemory as NoMemory'}
use Rattle.lr_causes.specs.Causes.{MayEndBefore, IsCaused, counts}
use Rattle.lr_causes.specs.Counts.{CountsTell}
use Rattle.lr_causes.proofs.Counting.{counts_tell}
use Rattle.lr_refusals.specs.Errors.{cause_of}
use Rattle.lr_causes.specs.declared.fault.BundleFlaw.{BundleFlaw}
use Rattle.lr_causes.specs.declared.cause.Cause.{Cause}
use Rattle.lr_causes.specs.declared.cause.Cause.TheVariants.{Done, Failed, NoMemory, Refused}
use Rattle.lr_causes.specs.declared.cause.Party.TheVariants.{Source, Disk}
use Rattle.lr_causes.specs.declared.cause.Refusal.TheVariants.{NotAShelf, BadBundle}
use Rattle.lr_shelf.proofs.Loaded.{IsReady, way_read}
use Rattle.lr_downlinks.specs.Bundles.{IsBundle}
use Rattle.lr_cmd_downlinks.specs.Downlinks.{DownlinksRun, OutBesides, bundle_read}
use Rattle.lr_cmd_downlinks.specs.Downlinks.{EndsMerging}
use Rattle.lr_causes.specs.Outside.{NoFault, outside, world_of}
use Rattle.lr_cmd_downlinks.specs.Downlinks.{IsBefore, LeavesAllAlone, LeavesDiskAndOut}
use Rattle.lr_cmd_downlinks.specs.Taking.{AreAllTaken, HasFlaw, StopsTaking, TakesNone, most_taken}
use Rattle.lr_reading.specs.Reading.{IsRead}

-- ---- no bundle was taken

module _ {S D O : Type 0} (source : SourceOf S) (disk : DiskOf D) (out : SinkOf O) (line : LineCode)
    (s s' : S) (d d1 : D) (o : O) (shelf : Shelf) (ready : IsReady disk d d1 shelf) where
  -- by the count of the source
  counts_untaken : (cause : Cause) → IsCaused cause (counts (source.faults s) (disk.faults d) (out.faults o))
      (counts (source.faults s') (disk.faults d1) (out.faults o))
      → ((cause ≡ Failed Source → ⊥) → (OutBesides cause Source → ⊥) → source.faults s' ≡ source.faults s)
      → CountsTell OutBesides cause (counts (source.faults s) (disk.faults d) (out.faults o))
      (counts (source.faults s') (disk.faults d1) (out.faults o))
  counts_untaken cause named same =
      counts_tell OutBesides cause (counts (source.faults s) (disk.faults d) (out.faults o))
      (counts (source.faults s') (disk.faults d1) (out.faults o)) named same (λ not none. ready.count)
      (λ not none. refl)

  left_alone : LeavesDiskAndOut (world_of source disk out) (outside s d o) (outside s' d1 o)
  left_alone = record { only_read = ready.only_read; out_stays = refl }

  module _ (bytes : List ℕ) (read : IsRead source most_taken bytes s s') where
    -- where counts and end are told
    stopped : (cause : Cause) → CountsTell OutBesides cause (counts (source.faults s) (disk.faults d) (out.faults o))
        (counts (source.faults s') (disk.faults d1) (out.faults o))
        → EndsMerging (world_of source disk out) (bundle_read line bytes) cause (outside s d o) (outside s' d1 o)
        → ((flaw : BundleFlaw) → HasFlaw bytes flaw → (cause ≡ Refused (BadBundle flaw)) ⊎ IsBefore cause)
        → (NoFault (world_of source disk out) (outside s d o) (outside s' d1 o) → (streams : List (List ℕ))
        → IsBundle bytes streams
        → length bytes < most_taken → (cause ≡ Done) ⊎ (cause ≡ NoMemory))
        → DownlinksRun (world_of source disk out) line cause (outside s d o) (outside s' d1 o)
    stopped cause counted ends flaws whole = record {
      counted = counted;
      tell = record {
        by_disk = ready.tell;
        by_out = tells_still;
      };
      bytes = bytes;
      read = read;
      ends = ends;
      broken = λ at t no.
          absurd ((has_one_way (disk.contents d)).none (kept_by shelf).way at
          (way_read disk d d1 shelf ready t) no);
      flawed = λ flaw all has. flaws flaw has;
      complete = λ no_fault streams bundle few way t is fit. whole no_fault streams bundle few;
    }

    same_source : AreAllTaken source bytes s s' → source.faults s' ≡ source.faults s
    same_source (inl ended) = ended.2
    same_source (inr full) = full.1

    stops_taking : (cause : Cause) → StopsTaking source cause bytes s s'
        → DownlinksRun (world_of source disk out) line cause (outside s d o) (outside s' d1 o)
    stops_taking (Failed Source) stops =
        stopped (Failed Source) (counts_untaken (Failed Source) stops.1 (λ not none. absurd (not refl)))
        (left_alone, stops) (λ flaw has. inr tt)
        (λ no_fault streams bundle few. absurd (no_fault.of_source stops.1))
    stops_taking NoMemory stops =
        stopped NoMemory (counts_untaken NoMemory tt (λ not none. stops)) (inl left_alone) (λ flaw has. inr tt)
        (λ no_fault streams bundle few. inr refl)
    stops_taking (Refused (BadBundle flaw)) stops =
        stopped (Refused (BadBundle flaw))
        (counts_untaken (Refused (BadBundle flaw)) tt (λ not none. same_source stops.1))
        (left_alone, stops.0, stops.1)
        (λ other has. inl (ap (λ (f : BundleFlaw). Refused (BadBundle f)) (sym (stops.2 other has))))
        (λ no_fault streams bundle few. absurd (stops.3 streams bundle few))
    stops_taking _ stops = absurd stops

  pub not_taken : (cause : Cause) → TakesNone source cause s s'
      → DownlinksRun (world_of source disk out) line cause (outside s d o) (outside s' d1 o)
  not_taken cause none = stops_taking none.bytes none.read cause none.stops

-- ---- no shelf was loaded

module _ {S D O : Type 0} (source : SourceOf S) (disk : DiskOf D) (out : SinkOf O) (line : LineCode)
    (s : S) (d d1 : D) (o : O) (result : Result Shelf ShelfError) (loads : Loads disk d d1 result) where
  untouched : LeavesAllAlone (world_of source disk out) (outside s d o) (outside s d1 o)
  untouched = record {
    alone = record { only_read = loads.only_read; out_stays = refl };
    source_stays = refl;
  }

  -- by the count of the disk
  counts_unloaded : (cause : Cause) → IsCaused cause (counts (source.faults s) (disk.faults d) (out.faults o))
      (counts (source.faults s) (disk.faults d1) (out.faults o))
      → ((cause ≡ Failed Disk → ⊥) → (OutBesides cause Disk → ⊥) → disk.faults d1 ≡ disk.faults d)
      → CountsTell OutBesides cause (counts (source.faults s) (disk.faults d) (out.faults o))
      (counts (source.faults s) (disk.faults d1) (out.faults o))
  counts_unloaded cause named same =
      counts_tell OutBesides cause (counts (source.faults s) (disk.faults d) (out.faults o))
      (counts (source.faults s) (disk.faults d1) (out.faults o)) named (λ not none. refl) same (λ not none. refl)

  before_all : (cause : Cause) → CountsTell OutBesides cause (counts (source.faults s) (disk.faults d) (out.faults o))
      (counts (source.faults s) (disk.faults d1) (out.faults o))
      → EndsMerging (world_of source disk out) (bundle_read line []) cause (outside s d o) (outside s d1 o)
      → ((at : ℕ) → disk.tells d → IsNoShelfAt (disk.contents d) at → MayEndBefore at cause) → IsBefore cause
      → (NoFault (world_of source disk out) (outside s d o) (outside s d1 o) → (way : Way)
      → disk.tells d → IsWay (disk.contents d) way
      → (cause ≡ Done) ⊎ (cause ≡ NoMemory))
      → DownlinksRun (world_of source disk out) line cause (outside s d o) (outside s d1 o)
  before_all cause counted ends places before whole = record {
    counted = counted;
    tell = record {
      by_disk = loads.calls.tell;
      by_out = tells_still;
    };
    bytes = [];
    read = record { tell = tells_still; moved = λ t. refl; few = omega arith; asked = inl (refl, refl) };
    ends = ends;
    broken = λ at t no. (places at t no, untouched);
    flawed = λ flaw all has. inr before;
    complete = λ no_fault streams bundle few way t is fit. whole no_fault way t is;
  }

  by_error : (error : ShelfError) → IsFaultCounted {A = Shelf} (disk.faults d) (disk.faults d1) (Err error)
      → IsLoadRefusal disk d error
      → ((at : ℕ) → disk.tells d → IsNoShelfAt (disk.contents d) at → MayRefuseAt at error)
      → DownlinksRun (world_of source disk out) line (cause_of error) (outside s d o) (outside s d1 o)
  by_error Disk' counted refusal places =
      before_all (Failed Disk) (counts_unloaded (Failed Disk) counted.1 (λ not none. absurd (not refl)))
      (inl untouched)
      (λ at t no. tt) tt
      (λ no_fault way t is. absurd (no_fault.of_disk counted.1))
  by_error (NotAShelf' at) counted refusal places =
      before_all (Refused (NotAShelf at)) (counts_unloaded (Refused (NotAShelf at)) tt (λ not none. counted))
      (untouched, refusal) places tt
      (λ no_fault way t is. absurd ((has_one_way (disk.contents d)).none way at is (refusal t)))
  by_error NoMemory' counted refusal places =
      before_all NoMemory (counts_unloaded NoMemory tt (λ not none. counted)) (inl untouched.alone) (λ at t no. tt) tt
      (λ no_fault way t is. inr refl)
  by_error _ counted refusal places = absurd refusal

  pub not_loaded : (error : ShelfError) → result ≡ Err error
      → DownlinksRun (world_of source disk out) line (cause_of error) (outside s d o) (outside s d1 o)
  not_loaded error is =
      by_error error
      (subst (λ (r : Result Shelf ShelfError). IsFaultCounted (disk.faults d) (disk.faults d1) r) is
      loads.calls.counted)
      (subst (λ (r : Result Shelf ShelfError). IfErr r (IsLoadRefusal disk d)) is loads.refused)
      (λ at t no.
      subst (λ (r : Result Shelf ShelfError). MatchResult r (λ _. ⊥) (MayRefuseAt at)) is (loads.broken at t no))
