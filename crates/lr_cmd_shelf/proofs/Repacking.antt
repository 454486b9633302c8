-- What `repack N BLOCK` decides, and what it does by what its calls answered.
use Rattle.std.proofs.Common.{◌≡◌, ◌<◌, inl, inr, ℕ, Option, Some, None, Result, Ok, Err, List}
use Rattle.std.proofs.Common.{IfOk, IfErr, OnOk, length, refl, arith, ap, ◌∙◌, sym, subst}
use Rattle.std.specs.Prelude.{option_map}
use Rattle.std.proofs.lemmas.Bool.{cases_lt}
use Rattle.lr_disk.specs.Reads.{IsOnlyRead}
use Rattle.lr_io.specs.declared.sink.Sink.{Ghosts as SinkOf}
use Rattle.lr_disk.specs.declared.disk.Disk.{Ghosts as DiskOf}
use Rattle.lr_shelf_format.specs.Items.{add_item}
use Rattle.lr_shelf_format.specs.Way.{Way, EntryState, Sound, Bad, Gone, IsFound, IsWay}
use Rattle.lr_shelf_format.specs.declared.stored.Stored.{Stored}
use Rattle.lr_shelf_format.proofs.WayLemmas.{found_once}
use Rattle.lr_bits.specs.File.{File, bytes_of}
use Rattle.lr_bits.specs.declared.placed.Origin.{Origin}
use Rattle.lr_bits.specs.declared.placed.Placed.{Placed}
use Rattle.lr_catalog.specs.Repacks.{repack_line}
use Rattle.lr_rice_coder.specs.Repacked.{IsRepacked}
use Rattle.lr_rice_coder.specs.declared.fault.RepackFault.{RepackFault}
use Rattle.lr_rice_coder.specs.declared.fault.RepackFault.TheVariants as fault
use Rattle.lr_rice_coder.specs.Refusals.{HasRepackFault, HasRepackFaultOrMemory}
use Rattle.lr_rice_coder.proofs.OneRepack.{repacks_are_one}
use Rattle.lr_shelf.specs.Append.{Appends, IsAppendRefusal, item_for}
use Rattle.lr_shelf.specs.Asked.{IsAskable}
use Rattle.lr_shelf.specs.Calls.{IsFaultCounted}
use Rattle.lr_shelf.specs.Kept.{KeptShelf, kept_by, shelf_on}
use Rattle.lr_shelf.specs.Read.{Finds, Gets, IsGetRefusal}
use Rattle.lr_shelf.specs.declared.shelf.Shelf.{Shelf}
use Rattle.lr_shelf.specs.declared.error.ShelfError.{ShelfError}
use Rattle.lr_shelf.specs.declared.error.ShelfError.TheVariants.{Disk as Disk'}
use Rattle.lr_shelf.specs.declared.error.ShelfError.TheVariants.{NotAShelf as NotAShelf'}
use Rattle.lr_shelf.specs.declared.error.ShelfError.TheVariants.{NotEmpty as NotEmpty'}
use Rattle.lr_shelf.specs.declared.error.ShelfError.TheVariants.{Capacity as Capacity'}
use Rattle.lr_shelf.specs.declared.error.ShelfError.TheVariants.{NoSuchFile as NoSuchFile'}
use Rattle.lr_shelf.specs.declared.error.ShelfError.TheVariants.{Crc as Crc', NoMemory as NoMemory'}
use Rattle.lr_shelf.specs.declared.error.ShelfError.TheVariants.{Failed as Failed'}
use Rattle.lr_shelf.specs.declared.error.ShelfError.TheVariants.{Discarded as Discarded'}
use Rattle.lr_refusals.specs.Errors.{image_fault, cause_of}
use Rattle.lr_causes.specs.Puts.{Puts, PutFails}
use Rattle.lr_causes.specs.declared.fault.CodingFault.{CodingFault}
use Rattle.lr_causes.specs.declared.fault.CodingFault.TheVariants.{Depth, Line, Header, File as LongFile}
use Rattle.lr_causes.specs.declared.fault.ExportFault.{ExportFault}
use Rattle.lr_causes.specs.declared.cause.Party.TheVariants.{Disk, Output}
use Rattle.lr_causes.specs.declared.cause.Refusal.{Refusal}
use Rattle.lr_causes.specs.declared.cause.Refusal.TheVariants.{NotAShelf, NoSuchFile, BadChecksum, Discarded}
use Rattle.lr_causes.specs.declared.cause.Refusal.TheVariants.{Capacity, CannotExport, CannotRepack}
use Rattle.lr_causes.specs.declared.cause.Cause.{Cause}
use Rattle.lr_causes.specs.declared.cause.Cause.TheVariants.{Done, Failed, NoMemory, Refused}
use Rattle.lr_causes.specs.Causes.{FaultCounts}
use Rattle.lr_causes.specs.Outside.{outlet_counts, outlets, outlets_of}
use Rattle.lr_cmd_shelf.specs.Adding.{Addition, Fits, MayEndAdding, RunsAdding, way_added}
use Rattle.lr_cmd_shelf.specs.Queries.{entry_at}
use Rattle.lr_cmd_shelf.specs.Repack.{coded_by, DecidesCoded, DecidesFound, DecidesRepack}
use Rattle.lr_cmd_shelf.specs.Repack.{IsNotRepacked, IsRepackOf, MakesRepacked, refusal_cause}
use Rattle.lr_cmd_shelf.specs.Repack.{repack_addition, repack_query, repack_refusal}
use Rattle.lr_cmd_shelf.specs.declared.repack.Repacked.{Repacked}
use Rattle.lr_causes.specs.Counts.{CountsTell, NoneBesides}
use Rattle.lr_shelf.proofs.Loaded.{IsReady}
use Rattle.lr_cmd_shelf.proofs.AddingRuns.{ready_got, told_got, untold_got, only_read_got}
use Rattle.lr_cmd_shelf.proofs.AddingEnds.{earlier_run, refused_run}
use Rattle.lr_cmd_shelf.proofs.AddingEnds.{cut_run, done_run, failed_run, full_run, no_memory_run}
use Rattle.lr_cmd_shelf.proofs.Filing.{shelf_counted}
use Rattle.lr_cmd_shelf.proofs.Texts.{quiet_counts, same_counts}

-- where a file isn't coded anew, the cause is that of the fault
not_repacked : (block : ℕ) (stored : Stored) (coding : RepackFault)
    → HasRepackFaultOrMemory stored.file block coding
    → IsNotRepacked block stored (refusal_cause (repack_refusal coding))
not_repacked block stored (fault.Image cause) has = inr (fault.Image cause, has, refl)
not_repacked block stored (fault.Depth bits) has = inr (fault.Depth bits, has, refl)
not_repacked block stored (fault.Line line) has = inr (fault.Line line, has, refl)
not_repacked block stored (fault.Header size) has = inr (fault.Header size, has, refl)
not_repacked block stored (fault.File size) has = inr (fault.File size, has, refl)
not_repacked block stored fault.NoMemory has = inl refl

pub coded_wrong : (block : ℕ) (stored : Stored) (answer : Result File RepackFault) (cause : Cause)
    → coded_by answer ≡ Err cause → IfErr answer (HasRepackFaultOrMemory stored.file block)
    → IsNotRepacked block stored cause
coded_wrong block stored (Ok new) cause is has = absurd (cc is)
coded_wrong block stored (Err coding) cause is has =
    subst (IsNotRepacked block stored) (cc is) (not_repacked block stored coding has)

-- ---- one decision

module _ (number block : ℕ) where
  coded_once : (way : Way) (stored : Stored) (outcome : Result File RepackFault) (one other : Result Addition Refusal)
      → DecidesCoded number way stored outcome one → DecidesCoded number way stored outcome other
      → one ≡ other
  coded_once way stored (Ok new) one other is is' = is ∙ sym is'
  coded_once way stored (Err fault) one other is is' =
      let named = is.1 in
      let also = is'.1 in
      let same : is.0 ≡ is'.0 = cc (named, also) in
      is.2 ∙ ap (λ (r : Refusal). Err r) same ∙ sym is'.2

  found_decides_once : (way : Way) (found : Option EntryState) (one other : Result Addition Refusal)
      → DecidesFound number block way found one → DecidesFound number block way found other → one ≡ other
  found_decides_once way None one other is is' = is ∙ sym is'
  found_decides_once way (Some Gone) one other is is' = is ∙ sym is'
  found_decides_once way (Some (Bad stored computed)) one other is is' = is ∙ sym is'
  found_decides_once way (Some (Sound stored)) one other is is' =
      let same : is.0 ≡ is'.0 = repacks_are_one stored.file block is.0 is'.0 is.1 is'.1 in
      coded_once way stored is'.0 one other
      (subst (λ (r : Result File RepackFault). DecidesCoded number way stored r one) same is.2) is'.2

  pub repack_once : (bytes : List ℕ) (way : Way) (one other : Result Addition Refusal)
      → DecidesRepack number block bytes way one → DecidesRepack number block bytes way other → one ≡ other
  repack_once bytes way one other (inl is) (inl is') = is.1 ∙ sym is'.1
  repack_once bytes way one other (inl is) (inr is') = absurd (omega (arith, is.0, is'.0))
  repack_once bytes way one other (inr is) (inl is') = absurd (omega (arith, is.0, is'.0))
  repack_once bytes way one other (inr is) (inr is') =
      let same = found_once bytes (entry_at way number) is.1.0 is'.1.0 is.1.1 is'.1.1 in
      found_decides_once way is'.1.0 one other
      (subst (λ (f : Option EntryState). DecidesFound number block way f one) same is.1.2) is'.1.2

-- the refusals of a file that isn't coded anew are among those of the command
module _ (number block : ℕ) where
  coding : (word : CodingFault) (refusal : Refusal) → Some (CannotRepack word) ≡ Some refusal
      → MayEndAdding (repack_query number block) (Refused refusal)
  coding word refusal names =
      let is : CannotRepack word ≡ refusal = cc (names) in
      subst (λ (r : Refusal). MayEndAdding (repack_query number block) (Refused r)) is tt

  may_refuse : (fault : RepackFault) (refusal : Refusal) → repack_refusal fault ≡ Some refusal
      → MayEndAdding (repack_query number block) (Refused refusal)
  may_refuse (fault.Image cause) refusal names = by (image_fault cause) refl names where
    by : (named : Option ExportFault) → image_fault cause ≡ named → option_map CannotExport named ≡ Some refusal
        → MayEndAdding (repack_query number block) (Refused refusal)
    by None is same = cc (same)
    by (Some word) is same =
        let refuses : CannotExport word ≡ refusal = cc (same) in
        subst (λ (r : Refusal). MayEndAdding (repack_query number block) (Refused r)) refuses (cause, is)
  may_refuse (fault.Depth bits) refusal names = coding Depth refusal names
  may_refuse (fault.Line line) refusal names = coding Line refusal names
  may_refuse (fault.Header size) refusal names = coding Header refusal names
  may_refuse (fault.File size) refusal names = coding LongFile refusal names
  may_refuse fault.NoMemory refusal names = cc (names)

-- the shelf works, and this addition, which was made of one of its files, is what is decided
pub record IsReadyToAdd {D : Type 0} (disk : DiskOf D) (number block : ℕ) (d d' : D) (shelf : Shelf)
    (addition : Addition) : Type 0 where
  pub ready : IsReady disk d d' shelf
  pub made : MakesRepacked number block addition
  pub decided : disk.tells d → DecidesRepack number block (disk.contents d) (kept_by shelf).way (Ok addition)

module _ {D O : Type 0} (disk : DiskOf D) (out : SinkOf O) (number block : ℕ) where
  abbrev pub RunsRepack : Cause → D → D → O → O → Type 0
  RunsRepack cause d d' o o' =
      RunsAdding (outlets_of disk out) (repack_query number block) cause (outlets d o)
      (outlets d' o')

  module _ (reads_on : (x y z : D) → disk.only_read x y → disk.only_read y z → disk.only_read x z)
      (d d1 d2 : D) (o : O) (old new : Shelf) (result : Result Stored ShelfError) (ready : IsReady disk d d1 old)
      (gets : Gets disk number (shelf_on old d1) (shelf_on new d2) result) where
    abbrev there : Way
    there = (kept_by old).way

    told_to : disk.tells d → disk.tells d2
    told_to = told_got disk reads_on d d1 d2 old new number result ready gets

    untold_to : disk.tells d2 → disk.tells d
    untold_to = untold_got disk reads_on d d1 d2 old new number result ready gets

    only_read_to : IsOnlyRead disk d d2
    only_read_to = only_read_got disk reads_on d d1 d2 old new number result ready gets

    way_here : disk.tells d → IsWay (disk.contents d) there
    way_here t = subst (λ (l : List ℕ). IsWay l there) (ready.only_read.unwritten t).contents (ready.keeps t)

    -- what was found on the disk that was read before
    found_here : (found : Option EntryState) → Finds disk (entry_at there number) d1 found → disk.tells d
        → IsFound (disk.contents d) (entry_at there number) found
    found_here found finds t =
        subst (λ (l : List ℕ). IsFound l (entry_at there number) found) (ready.only_read.unwritten t).contents
        (finds (ready.tell.told t))

    counted_at : (error : ShelfError) → result ≡ Err error
        → IsFaultCounted {A = Stored} (disk.faults d1) (disk.faults d2) (Err error)
    counted_at error is =
        subst (λ (r : Result Stored ShelfError). IsFaultCounted (disk.faults d1) (disk.faults d2) r) is
        gets.reads.calls.counted

    decided_run : (refusal : Refusal) → MayEndAdding (repack_query number block) (Refused refusal)
        → disk.faults d2 ≡ disk.faults d1
        → (disk.tells d → DecidesRepack number block (disk.contents d) there (Err refusal))
        → RunsRepack (Refused refusal) d d2 o o
    decided_run refusal may count decided =
        refused_run disk out (repack_query number block) (repack_once number block) d d2 o told_to
        untold_to only_read_to refusal may (count ∙ ready.count)
        (λ t. inr (there, way_here t, inl (decided t)))

    -- the entry wasn't read
    pub not_read : (error : ShelfError) → result ≡ Err error → IsGetRefusal disk (kept_by old) number d1 error
        → RunsRepack (cause_of error) d d2 o o
    not_read Disk' is refusal =
        earlier_run disk out (repack_query number block) (repack_once number block) d d2 o told_to
        untold_to only_read_to (Failed Disk) tt
        (subst
        (λ (c : FaultCounts). CountsTell NoneBesides (Failed Disk) c
        (outlet_counts (outlets_of disk out) (outlets d2 o)))
        (same_counts disk out d d1 o o ready.count refl)
        (shelf_counted disk out Stored d1 d2 o Disk' (λ same. cc (same)) (counted_at Disk' is)))
    not_read (NotAShelf' at) is refusal =
        decided_run (NotAShelf at) tt (counted_at (NotAShelf' at) is)
        (λ t. inr (
          refusal.0.there,
          (
            None,
            found_here None refusal.1.1 t,
            ap (λ (n : ℕ). Err (NotAShelf n)) refusal.1.0,
          ),
        ))
    not_read (NotEmpty' size) is refusal = absurd refusal.1
    not_read (Capacity' needed most) is refusal = absurd refusal.1
    not_read (NoSuchFile' count) is refusal =
        decided_run (NoSuchFile count) (omega (arith, refusal.1, refusal.2)) (counted_at (NoSuchFile' count) is)
        (λ t. inl (omega (arith, refusal.1, refusal.2), ap (λ (n : ℕ). Err (NoSuchFile n)) refusal.1))
    not_read (Crc' stored computed) is refusal =
        decided_run BadChecksum tt (counted_at (Crc' stored computed) is)
        (λ t. inr (
          refusal.0.there,
          (
            Some (Bad stored computed),
            found_here (Some (Bad stored computed)) refusal.1.1 t,
            refl,
          ),
        ))
    not_read NoMemory' is refusal =
        earlier_run disk out (repack_query number block) (repack_once number block) d d2 o told_to
        untold_to only_read_to NoMemory tt
        (quiet_counts disk out NoMemory d d2 o o tt (counted_at NoMemory' is ∙ ready.count) refl)
    not_read Failed' is refusal =
        let works = ready.works in
        cc (works, refusal)
    not_read Discarded' is refusal =
        decided_run Discarded tt (counted_at Discarded' is)
        (λ t. inr (refusal.1, (Some Gone, refusal.2, refl)))

    -- the file wasn't coded anew
    module _ (stored : Stored) (is : result ≡ Ok stored) where
      count_read : disk.faults d2 ≡ disk.faults d1
      count_read =
          subst (λ (r : Result Stored ShelfError). IsFaultCounted (disk.faults d1) (disk.faults d2) r) is
          gets.reads.calls.counted

      inside : number < length there.entries
      inside = askable.there where
        askable : IsAskable (kept_by old) number
        askable = subst (λ (r : Result Stored ShelfError). OnOk r (IsAskable (kept_by old) number)) is gets.askable

      pub sound_here : disk.tells d → IsFound (disk.contents d) (entry_at there number) (Some (Sound stored))
      sound_here =
          found_here (Some (Sound stored))
          (subst (λ (r : Result Stored ShelfError).
          IfOk r (λ s. Finds disk (entry_at there number) d1 (Some (Sound s)))) is gets.stored)

      pub decides_new : (new_file : File) → IsRepacked stored.file block new_file → disk.tells d
          → DecidesRepack number block (disk.contents d) there (Ok (repack_addition number there stored new_file))
      decides_new new_file re t = inr (inside, (Some (Sound stored), sound_here t, (Ok new_file, re, refl)))

      refuses_with : (fault : RepackFault) → HasRepackFault stored.file block fault → (named : Option Refusal)
          → repack_refusal fault ≡ named
          → ((refusal : Refusal) → named ≡ Some refusal → MayEndAdding (repack_query number block) (Refused refusal))
          → RunsRepack (refusal_cause named) d d2 o o
      refuses_with fault has None names may =
          earlier_run disk out (repack_query number block) (repack_once number block) d
          d2 o told_to untold_to only_read_to NoMemory tt
          (quiet_counts disk out NoMemory d d2 o o tt (count_read ∙ ready.count) refl)
      refuses_with fault has (Some refusal) names may =
          decided_run refusal (may refusal refl) count_read
          (λ t. inr (inside, (Some (Sound stored), sound_here t, (Err fault, has, (refusal, names, refl)))))

      pub not_coded : (cause : Cause) → IsNotRepacked block stored cause → RunsRepack cause d d2 o o
      not_coded cause (inl none) =
          subst (λ (c : Cause). RunsRepack c d d2 o o) (sym none)
          (earlier_run disk out (repack_query number block) (repack_once number block) d
          d2 o told_to untold_to only_read_to NoMemory tt
          (quiet_counts disk out NoMemory d d2 o o tt (count_read ∙ ready.count) refl))
      not_coded cause (inr refused) =
          subst (λ (c : Cause). RunsRepack c d d2 o o) (sym refused.2)
          (refuses_with refused.0 refused.1 (repack_refusal refused.0) refl (may_refuse number block refused.0))

  module _ (d d1 d2 : D) (o : O) (shelf shelf2 : Shelf) (placed : Placed) (text : List ℕ)
      (to : IsReadyToAdd disk number block d d1 shelf (record { item = item_for placed; text = text }))
      (answer : Result ℕ ShelfError)
      (appends : Appends disk placed (shelf_on shelf d1) (shelf_on shelf2 d2) answer) where
    abbrev addition : Addition
    addition = record { item = item_for placed; text = text }

    -- the new file wasn't added
    pub not_added : (error : ShelfError) → answer ≡ Err error
        → IsAppendRefusal (item_for placed) (kept_by shelf) error → RunsRepack (cause_of error) d d2 o o
    not_added Disk' is refusal =
        failed_run disk out (repack_query number block) (repack_once number block) d d1
        d2 o shelf shelf2 addition to.made to.ready answer appends.adds to.decided is refusal.1
    not_added (NotAShelf' at) is refusal = absurd refusal
    not_added (NotEmpty' size) is refusal = absurd refusal
    not_added (Capacity' needed most) is refusal =
        let same : Capacity' needed most ≡ Capacity' needed (kept_by shelf).way.capacity =
        ap (Capacity' needed) refusal.3 in
        subst (λ (n : ℕ). RunsRepack (Refused (Capacity needed n)) d d2 o o) (sym refusal.3)
        (full_run disk out (repack_query number block) (repack_once number block) d d1
        d2 o shelf shelf2 addition to.made to.ready answer appends.adds to.decided needed
        (is ∙ ap (λ (e : ShelfError). Err e) same) refusal.1 refusal.2)
    not_added (NoSuchFile' count) is refusal = absurd refusal
    not_added (Crc' stored computed) is refusal = absurd refusal
    not_added NoMemory' is refusal =
        no_memory_run disk out (repack_query number block) (repack_once number block) d
        d1 d2 o shelf shelf2 addition to.made to.ready answer appends.adds to.decided is
    not_added Failed' is refusal =
        let works = to.ready.works in
        cc (works, refusal)
    not_added Discarded' is refusal = absurd refusal

    -- it was
    module _ (place : ℕ) (added : answer ≡ Ok place) where
      fits : Fits (item_for placed) (kept_by shelf).way
      fits = elim (cases_lt (kept_by shelf).way.capacity (way_added (item_for placed) (kept_by shelf).way).end) [
        | inl over ↦
            let full = appends.full to.ready.works over in
            cc (added, full)
        | inr room ↦ room
      ]

      pub told_line : (o2 : O) → Puts out text o o2 → RunsRepack Done d d2 o o2
      told_line =
          done_run disk out (repack_query number block) (repack_once number block) d d1
          d2 o shelf shelf2 addition to.made to.ready answer appends.adds to.decided place added fits

      pub cut_line : (o2 : O) → PutFails out text o o2 → RunsRepack (Failed Output) d d2 o o2
      cut_line =
          cut_run disk out (repack_query number block) (repack_once number block) d d1
          d2 o shelf shelf2 addition to.made to.ready answer appends.adds to.decided place added fits

pub ok_is : {A E : Type 0} (r : Result A E) → ((e : E) → r ≡ Err e → ⊥) → (v : A) × (r ≡ Ok v)
ok_is (Ok v) never = (v, refl)
ok_is (Err e) never = absurd (never e refl)

-- what was made of the file is the addition
module _ (number block place : ℕ) (way : Way) (stored : Stored) (made : Repacked)
    (is_place : place ≡ length way.entries) (is : IsRepackOf number place block stored made) where
  addition_is : ◌≡◌ {A = Addition} (record { item = item_for made.placed; text = made.line })
      (repack_addition number way stored made.placed.file)
  addition_is =
      ap (λ (t : List ℕ). record { item = item_for made.placed; text = t }) (is.line ∙ line_at)
      ∙ ap (λ (origin : Origin). record { item = add_item made.placed.file origin; text = line }) is.origin where
        line : List ℕ
        line =
            repack_line number (length way.entries) (length (bytes_of stored.file))
            (length (bytes_of made.placed.file))

        line_at : repack_line number place (length (bytes_of stored.file)) (length (bytes_of made.placed.file)) ≡ line
        line_at =
            ap (λ (n : ℕ). repack_line number n (length (bytes_of stored.file))
            (length (bytes_of made.placed.file))) is_place

-- and it is what is decided, by the shelf that the file was read from
pub ready_to_add : {D O : Type 0} (disk : DiskOf D) (out : SinkOf O) (number block : ℕ)
    (reads_on : (x y z : D) → disk.only_read x y → disk.only_read y z → disk.only_read x z)
    (d d1 d2 : D) (o : O) (old new : Shelf) (result : Result Stored ShelfError) → IsReady disk d d1 old
    → Gets disk number (shelf_on old d1) (shelf_on new d2) result → (stored : Stored) → result ≡ Ok stored
    → (place : ℕ) (made : Repacked) → place ≡ length (kept_by new).way.entries
    → IsRepackOf number place block stored made
    → IsReadyToAdd disk number block d d2 new (record { item = item_for made.placed; text = made.line })
ready_to_add disk out number block reads_on d d1 d2 o old new result ready gets stored is place made is_place re =
    let same = addition_is number block place (kept_by new).way stored made is_place re in
    record {
      ready = ready_got disk reads_on d d1 d2 old new number result ready gets stored is;
      made = record {
        way = (kept_by new).way;
        stored = stored;
        new = made.placed.file;
        repacked = re.repacked;
        is = same;
      };
      decided = λ t.
          subst (λ (a : Addition). DecidesRepack number block (disk.contents d) (kept_by new).way (Ok a)) (sym same)
          (subst (λ (k : KeptShelf). DecidesRepack number block (disk.contents d) k.way
          (Ok (repack_addition number k.way stored made.placed.file))) (sym gets.kept)
          (decides_new disk out number block reads_on d d1 d2 o old new result ready gets stored is made.placed.file
          re.repacked t));
    }
