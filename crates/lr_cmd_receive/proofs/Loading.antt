-- What comes of a disk from which no shelf was loaded, and of one from which it was.
use Rattle.std.proofs.Common.{◌≡◌, ◌⊎◌, inl, inr, ℕ, List, [], ◌∷◌, ◌++◌, refl, sym, ◌∙◌, ap, subst, arith}
use Rattle.std.proofs.Common.{Result, Err, MatchResult, length}
use Rattle.lr_bits.specs.declared.placed.Placed.{Placed}
use Rattle.lr_bits.proofs.Telling.{tells_still}
use Rattle.lr_io.specs.declared.source.Source.{Ghosts as SourceOf}
use Rattle.lr_disk.specs.declared.disk.Disk.{Ghosts as DiskOf}
use Rattle.lr_disk.specs.Pending.{NothingPending}
use Rattle.lr_disk.proofs.Moments.{weaker, stays, only_read_yet}
use Rattle.lr_shelf.specs.Load.{IsLoadRefusal, MayRefuseAt}
use Rattle.lr_shelf.specs.declared.shelf.Shelf.{Shelf}
use Rattle.lr_shelf.specs.declared.error.ShelfError.{ShelfError}
use Rattle.lr_shelf.specs.declared.error.ShelfError.TheVariants.{Disk as Disk'}
use Rattle.lr_shelf.specs.declared.error.ShelfError.TheVariants.{NotAShelf as NotAShelf'}
use Rattle.lr_shelf.specs.declared.error.ShelfError.TheVariants.{NoMemory as NoMemory'}
use Rattle.lr_causes.specs.declared.cause.Cause.{Cause}
use Rattle.lr_causes.specs.declared.cause.Cause.TheVariants.{Done, Failed, NoMemory, Refused}
use Rattle.lr_causes.specs.declared.cause.Party.TheVariants.{Source, Disk, Output}
use Rattle.lr_causes.specs.declared.cause.Refusal.TheVariants.{NotAShelf, Capacity}
use Rattle.lr_causes.specs.Causes.{MayEndBefore}
use Rattle.lr_refusals.specs.Errors.{cause_of}
use Rattle.lr_causes.specs.Outside.{counts_in, outlets, outlets_in, world_outlets, World, Outside}
use Rattle.lr_cmd_receive.proofs.Causing.{first_stays}
use Rattle.lr_cmd_receive.proofs.Changing.{no_change}
use Rattle.lr_forms.specs.declared.forms.Input.{Input}
use Rattle.lr_causes.specs.Counts.{CountsTell}
use Rattle.lr_cmd_receive.specs.First.{SourceBesides}
use Rattle.lr_cmd_receive.specs.Inputs.{files_of_bytes}
use Rattle.lr_cmd_receive.specs.Noted.{NotedFile, placed_files}
use Rattle.lr_reading.specs.Reading.{IsRead}
use Rattle.lr_shelf.specs.InitialShelves.{InitialShelf, HoldsStill, StandsWith}
use Rattle.lr_shelf.specs.InitialShelves.{LeavesPrefixes, initial_shelf}
use Rattle.lr_cmd_receive.specs.Shelved.{MayStop}
use Rattle.lr_cmd_receive.specs.Receive.{Receives, IsReceiveCause, IsWorkDone, ReceiveQuery, ReceiveRun, files_asked}
use Rattle.lr_cmd_receive.specs.Receive.{StopsEarly}
use Rattle.lr_cmd_receive.specs.Reception.{FewWait, run_of}
use Rattle.lr_cmd_receive.specs.Shelving.{StopsInLines, shelved_lines}
use Rattle.lr_cmd_receive.proofs.Acknowledging.{all_worked, lines_alone}
use Rattle.lr_cmd_receive.proofs.Growing.{some, none_in}
use Rattle.lr_cmd_receive.proofs.Headline.{receives}
use Rattle.lr_cmd_receive.proofs.ReceiveEnding.{got_none}
use Rattle.lr_cmd_receive.proofs.ShelvingOne.{no_lines}
use Rattle.lr_cmd_receive.proofs.Taking.{no_bytes}
use Rattle.lr_cmd_receive.proofs.Timely.{none_put_off}
use Rattle.lr_shelf.proofs.InitialPrefixes.{front_none, begun_way}

-- ---- the causes of what `load` refuses

-- it ends the call before any byte is read
pub ended_before : (e : ShelfError) (at : ℕ) → MayRefuseAt at e → MayEndBefore at (cause_of e)
ended_before Disk' at may = tt
ended_before (NotAShelf' at') at may = may
ended_before NoMemory' at may = tt
ended_before _ at may = absurd may

pub may_refuse : (at : ℕ) (r : Result Shelf ShelfError) (e : ShelfError) → r ≡ Err e
    → MatchResult r (λ _. ⊥) (MayRefuseAt at) → MayRefuseAt at e
may_refuse at r e is match =
    subst (λ (x : Result Shelf ShelfError). MatchResult x (λ _. ⊥) (MayRefuseAt at)) is match

module _ {D : Type 0} (disk : DiskOf D) (d : D) where
  pub load_cause : (e : ShelfError) → IsLoadRefusal disk d e → IsReceiveCause (cause_of e)
  load_cause Disk' refusal = tt
  load_cause (NotAShelf' at) refusal = tt
  load_cause NoMemory' refusal = tt
  load_cause _ refusal = absurd refusal

  -- it is never the capacity
  pub load_room : (e : ShelfError) → IsLoadRefusal disk d e → (needed most : ℕ)
      → cause_of e ≡ Refused (Capacity needed most) → ⊥
  load_room Disk' refusal needed most is = cc (is)
  load_room (NotAShelf' at) refusal needed most is =
      let same : NotAShelf at ≡ Capacity needed most = cc (is) in cc (same)
  load_room NoMemory' refusal needed most is = cc (is)
  load_room _ refusal needed most is = absurd refusal

  -- nor does `out` fail
  pub load_silent : (e : ShelfError) → IsLoadRefusal disk d e → cause_of e ≡ Failed Output → ⊥
  load_silent Disk' refusal is = let same : Disk ≡ Output = cc (is) in cc (same)
  load_silent (NotAShelf' at) refusal is = cc (is)
  load_silent NoMemory' refusal is = cc (is)
  load_silent _ refusal is = absurd refusal

  -- and the work isn't done
  pub load_work : (e : ShelfError) → IsLoadRefusal disk d e → IsWorkDone (cause_of e) → ⊥
  load_work Disk' refusal done = done
  load_work (NotAShelf' at) refusal done = done
  load_work NoMemory' refusal done = done
  load_work _ refusal done = absurd refusal

-- ---- the causes of a run

stop_cause : (cause : Cause) → MayStop cause → IsReceiveCause cause
stop_cause (Failed Disk) may = tt
stop_cause (Failed Output) may = tt
stop_cause NoMemory may = tt
stop_cause (Refused (Capacity needed most)) may = tt
stop_cause _ may = absurd may

work_cause : (cause : Cause) → IsWorkDone cause → IsReceiveCause cause
work_cause Done done = tt
work_cause (Failed Source) done = tt
work_cause _ done = absurd done

pub run_cause : (cause : Cause) → MayStop cause ⊎ IsWorkDone cause → IsReceiveCause cause
run_cause cause (inl may) = stop_cause cause may
run_cause cause (inr done) = work_cause cause done

-- a run that read was onto a shelf
pub run_kind : (cause : Cause) → MayStop cause ⊎ IsWorkDone cause → (at : ℕ) → cause ≡ Refused (NotAShelf at) → ⊥
run_kind cause (inl may) at is = subst (λ (c : Cause). MayStop c) is may
run_kind cause (inr done) at is = subst (λ (c : Cause). IsWorkDone c) is done

-- ---- no bytes have no files

-- a full shelf has read some
pub full_reads : {S : Type 0} (source : SourceOf S) (mend : ℕ) (input : Input) (limit : ℕ) (bytes : List ℕ) (s s' : S)
    → IsRead source limit bytes s s' → source.tells s → source.left s ≡ []
    → (done : List Placed) (next : Placed) (rest : List Placed)
    → placed_files (files_of_bytes mend input bytes) ≡ done ++ next ∷ rest → ⊥
full_reads source mend input limit bytes s s' read tells empty done next rest split =
    let none : bytes ≡ [] = (none_in bytes (source.left s') (sym (read.moved tells) ∙ empty)).0 in
    some done next rest
    (sym split ∙ ap placed_files (ap (files_of_bytes mend input) none ∙ no_bytes mend input))

-- and where none were taken nothing waits
pub nothing_waits : {S D O : Type 0} (world : World S D O) (initial : InitialShelf) (asked : ReceiveQuery)
    (w : Outside S D O) (d : D) → HoldsStill initial [] world.disk d
    → FewWait (world_outlets world) (run_of asked initial []) (outlets_in w) (outlets d w.out)
nothing_waits world initial asked w d still =
    all_worked (world_outlets world) initial asked [] (outlets_in w) (outlets d w.out)
    (subst (λ (l : List NotedFile). HoldsStill initial (placed_files l) world.disk d)
    (sym (no_bytes asked.mend asked.input)) still)
    (lines_alone (world_outlets world) initial (files_asked asked []) (outlets_in w) (outlets d w.out)
    (λ t. got_none world.out initial w.out t ∙ ap (λ (l : List NotedFile). world.out.contents w.out
    ++ shelved_lines (length initial.way.entries) l) (sym (no_bytes asked.mend asked.input))))

-- and no line was put
pub stopped_at_once : {S D O : Type 0} (world : World S D O) (asked : ReceiveQuery) (cause : Cause)
    (w w' : Outside S D O) → w'.out ≡ w.out → (cause ≡ Failed Output → ⊥)
    → StopsEarly world asked [] cause w w'
stopped_at_once world asked cause w w' same other = record {
  number = 0;
  lines = inl (subst (λ o. StopsInLines world.out cause 0 (files_asked asked []) w.out o) (sym same)
      (no_lines world.out cause 0 (files_asked asked []) w.out other));
  numbered = λ way told is some. absurd (some (no_bytes asked.mend asked.input));
}

-- ---- memory for reading was refused, before anything was called

module _ {S D O : Type 0} (world : World S D O)
    (only_now : (d : D) (c : List ℕ) → world.disk.tells d → world.disk.left_since d (world.disk.moment d) c
    → world.disk.may_leave d c)
    (asked : ReceiveQuery) (w : Outside S D O) (none : world.disk.only_read w.disk w.disk) where
  -- nobody failed
  none_failed : CountsTell SourceBesides NoMemory (counts_in world w) (counts_in world w)
  none_failed = first_stays NoMemory (world.source.faults w.source) (world.source.faults w.source)
      (world.disk.faults w.disk) (world.disk.faults w.disk) (world.out.faults w.out) (world.out.faults w.out) tt tt
      refl refl

  nothing_made : (initial : InitialShelf) → world.disk.tells w.disk
      → StandsWith initial [] (world.disk.contents w.disk)
      → NothingPending world.disk w.disk
      → Receives world (run_of asked initial []) NoMemory w w
  nothing_made initial told stands only =
      receives world asked initial [] w w NoMemory
      (subst (λ (l : List NotedFile). LeavesPrefixes world.disk initial (placed_files l) w.disk w.disk)
      (sym (no_bytes asked.mend asked.input))
      (weaker world.disk.moment world.disk.left_since w.disk w.disk _ _ (front_none initial)
      (stays world.disk only_now w.disk (StandsWith initial []) told
      (λ c left. subst (StandsWith initial []) (sym (only c left)) stands))))
      (inl tt)
      (record {
        stands = λ done. absurd done;
        stops = λ undone. inl (record {
          done = [];
          rest = [];
          split = no_bytes asked.mend asked.input;
          durable = record { stands = stands; durable = only };
          got = got_none world.out initial w.out;
        });
      })
      none_failed

  pub not_made : ReceiveRun world asked NoMemory w w
  not_made = record {
    causes = tt;
    counted = none_failed;
    bytes = [];
    read = record { tell = tells_still; moved = λ t. refl; few = omega arith; asked = inl (refl, refl) };
    tell = record {
      by_disk = tells_still;
      by_out = tells_still;
    };
    onto = record {
      way = λ way told is only.
          nothing_made (initial_shelf way (world.disk.contents w.disk)) told
          (begun_way way (world.disk.contents w.disk) is) only;
      keeps_up = λ initial told stands only.
          none_put_off world asked initial [] w w w.disk
          (nothing_waits world initial asked w w.disk
          (record { stands = stands; durable = only refl })) (inl (refl, refl));
    };
    ended = λ done. absurd done;
    stopped = λ undone. stopped_at_once world asked NoMemory w w refl (λ is. cc (is));
    wants = record {
      refused = λ at is. cc (is);
      broken = λ at told no. (
        tt,
        record { only_read = only_read_yet world.disk only_now w.disk none; source_stays = refl; out_stays = refl },
      );
    };
    capacity = record {
      full = λ way needed most is. cc (is);
      nothing_fits = λ needed most is. cc (is);
    };
    alone = record {
      only_read = λ files. only_read_yet world.disk only_now w.disk none;
      silent = λ none early. refl;
      unasked = λ none failed. refl;
    };
    writes = record {
      outside = λ way told is.
          no_change way (placed_files (files_asked asked [])) (world.disk.contents w.disk)
          (world.disk.contents w.disk) refl;
      outside_any_moment = λ way told is only.
          stays world.disk only_now w.disk _ told
          (λ c image. no_change way (placed_files (files_asked asked [])) (world.disk.contents w.disk) c
          (only c image));
    };
  }
