-- What `discard N` decides, and what it does by what its calls answered.
use Rattle.std.proofs.Common.{◌≡◌, ◌<◌, inl, inr, ℕ, Bool, true, false, Result, Ok, Err, List, length}
use Rattle.std.proofs.Common.{refl, arith, ap, ◌∙◌, sym, subst}
use Rattle.std.proofs.lemmas.Bool.{cases_lt}
use Rattle.lr_io.specs.declared.sink.Sink.{Ghosts as SinkOf}
use Rattle.lr_disk.specs.declared.disk.Disk.{Ghosts as DiskOf}
use Rattle.lr_disk.proofs.Moments.{only_read_yet}
use Rattle.lr_shelf_format.specs.Items.{discard_item}
use Rattle.lr_shelf_format.specs.Way.{Way}
use Rattle.lr_shelf.specs.Discards.{Discards, IsDiscardError}
use Rattle.lr_shelf.specs.Asked.{IsAskable}
use Rattle.lr_shelf.specs.Kept.{kept_by, shelf_on}
use Rattle.lr_shelf.specs.declared.shelf.Shelf.{Shelf}
use Rattle.lr_shelf.specs.declared.error.ShelfError.{ShelfError}
use Rattle.lr_shelf.specs.declared.error.ShelfError.TheVariants.{Disk as Disk'}
use Rattle.lr_shelf.specs.declared.error.ShelfError.TheVariants.{NotAShelf as NotAShelf'}
use Rattle.lr_shelf.specs.declared.error.ShelfError.TheVariants.{NotEmpty as NotEmpty'}
use Rattle.lr_shelf.specs.declared.error.ShelfError.TheVariants.{Capacity as Capacity'}
use Rattle.lr_shelf.specs.declared.error.ShelfError.TheVariants.{NoSuchFile as NoSuchFile'}
use Rattle.lr_shelf.specs.declared.error.ShelfError.TheVariants.{Crc as Crc', NoMemory as NoMemory'}
use Rattle.lr_shelf.specs.declared.error.ShelfError.TheVariants.{Failed as Failed'}
use Rattle.lr_shelf.specs.declared.error.ShelfError.TheVariants.{Discarded as Discarded'}
use Rattle.lr_catalog.specs.Discards.{discard_line}
use Rattle.lr_causes.specs.declared.cause.Party.TheVariants.{Output}
use Rattle.lr_causes.specs.declared.cause.Refusal.{Refusal}
use Rattle.lr_causes.specs.declared.cause.Refusal.TheVariants.{NoSuchFile, Capacity, Discarded}
use Rattle.lr_causes.specs.declared.cause.Cause.{Cause}
use Rattle.lr_causes.specs.declared.cause.Cause.TheVariants.{Done, Failed, NoMemory, Refused}
use Rattle.lr_causes.specs.Outside.{outlets, outlets_of}
use Rattle.lr_refusals.specs.Errors.{cause_of}
use Rattle.lr_causes.specs.Puts.{Puts, PutFails}
use Rattle.lr_cmd_shelf.specs.Adding.{Addition, Fits, MayEndAdding, RunsAdding, way_added}
use Rattle.lr_cmd_shelf.specs.Queries.{entry_at}
use Rattle.lr_cmd_shelf.specs.Discard.{DecidesDiscard, MayGo, discard_addition, discard_query}
use Rattle.lr_shelf.proofs.Loaded.{IsReady}
use Rattle.lr_cmd_shelf.proofs.AddingEnds.{cut_run, done_run, earlier_run, failed_run, full_run, refused_run}
use Rattle.lr_shelf.proofs.Loaded.{way_read}
use Rattle.lr_cmd_shelf.proofs.AddingRuns.{count_still, told_through, untold_through, only_read_still}
use Rattle.lr_cmd_shelf.proofs.Texts.{quiet_counts}

-- ---- one decision

module _ (number : ℕ) where
  pub discard_once : (bytes : List ℕ) (way : Way) (one other : Result Addition Refusal)
      → DecidesDiscard number bytes way one → DecidesDiscard number bytes way other → one ≡ other
  discard_once bytes way one other (inl is) (inl is') = is.1 ∙ sym is'.1
  discard_once bytes way one other (inl is) (inr (inl is')) = absurd (omega (arith, is.0, is'.0))
  discard_once bytes way one other (inl is) (inr (inr is')) = absurd (omega (arith, is.0, is'.0.there))
  discard_once bytes way one other (inr (inl is)) (inl is') = absurd (omega (arith, is.0, is'.0))
  discard_once bytes way one other (inr (inl is)) (inr (inl is')) = is.2 ∙ sym is'.2
  discard_once bytes way one other (inr (inl is)) (inr (inr is')) = cc (is.1, is'.0.stays)
  discard_once bytes way one other (inr (inr is)) (inl is') = absurd (omega (arith, is'.0, is.0.there))
  discard_once bytes way one other (inr (inr is)) (inr (inl is')) = cc (is'.1, is.0.stays)
  discard_once bytes way one other (inr (inr is)) (inr (inr is')) = is.1 ∙ sym is'.1

-- ---- what the calls answered

is_false : (b : Bool) → (b ≡ true → ⊥) → b ≡ false
is_false true never = absurd (never refl)
is_false false never = refl

pub ok_from : {E : Type 0} (r : Result (Unit {0}) E) → ((e : E) → r ≡ Err e → ⊥) → r ≡ Ok tt
ok_from (Ok v) never = refl
ok_from (Err e) never = absurd (never e refl)

module _ {D O : Type 0} (disk : DiskOf D) (out : SinkOf O) (number : ℕ) where
  abbrev pub RunsDiscard : Cause → D → D → O → O → Type 0
  RunsDiscard cause d d' o o' =
      RunsAdding (outlets_of disk out) (discard_query number) cause (outlets d o) (outlets d' o')

  -- memory was refused before the shelf was loaded
  pub not_begun :
      ((x : D) (c : List ℕ) → disk.tells x → disk.left_since x (disk.moment x) c → disk.may_leave x c)
      → (d : D) → disk.only_read d d → (o : O) → RunsDiscard NoMemory d d o o
  not_begun only_now d none o =
      earlier_run disk out (discard_query number) (discard_once number) d d o (λ t. t) (λ t. t)
      (only_read_yet disk only_now d none) NoMemory tt (quiet_counts disk out NoMemory d d o o tt refl refl)

  module _ (d d1 d2 : D) (o : O) (shelf shelf2 : Shelf) (ready : IsReady disk d d1 shelf)
      (answer : Result (Unit {0}) ShelfError) (discards : Discards disk number (shelf_on shelf d1)
      (shelf_on shelf2 d2) answer) where
    abbrev there : Way
    there = (kept_by shelf).way

    decided : MayGo number there → disk.tells d
        → DecidesDiscard number (disk.contents d) there (Ok (discard_addition number))
    decided may t = inr (inr (may, refl))

    -- the shelf's own refusal
    refused_by : (error : ShelfError) (refusal : Refusal) → MayEndAdding (discard_query number) (Refused refusal)
        → answer ≡ Err error → (error ≡ Disk' → ⊥)
        → ((bytes : List ℕ) → DecidesDiscard number bytes there (Err refusal))
        → RunsDiscard (Refused refusal) d d2 o o
    refused_by error refusal may is not_disk is_decided =
        refused_run disk out (discard_query number) (discard_once number) d d2 o
        (told_through disk d d1 d2 shelf shelf2 (discard_item number) ready answer discards.adds)
        (untold_through disk d d1 d2 shelf shelf2 (discard_item number) ready answer discards.adds)
        (only_read_still disk d d1 d2 shelf shelf2 (discard_item number) ready answer discards.adds error is not_disk)
        refusal may
        (count_still disk d d1 d2 shelf shelf2 (discard_item number) ready answer discards.adds error is not_disk)
        (λ t. inr (there, way_read disk d d1 shelf ready t, inl (is_decided (disk.contents d))))

    may_of : IsAskable (kept_by shelf) number → MayGo number there
    may_of askable = record { there = askable.there; stays = askable.stays }

    -- no Discard was added
    pub not_added : (error : ShelfError) → answer ≡ Err error → IsDiscardError number (kept_by shelf) error
        → RunsDiscard (cause_of error) d d2 o o
    not_added Disk' is refusal =
        failed_run disk out (discard_query number) (discard_once number) d d1 d2 o shelf shelf2
        (discard_addition number) refl ready answer discards.adds (decided (may_of refusal.0)) is refusal.1
    not_added (NotAShelf' at) is refusal = absurd refusal
    not_added (NotEmpty' size) is refusal = absurd refusal
    not_added (Capacity' needed most) is refusal =
        let same : Capacity' needed most ≡ Capacity' needed there.capacity = ap (Capacity' needed) refusal.3 in
        subst (λ (n : ℕ). RunsDiscard (Refused (Capacity needed n)) d d2 o o) (sym refusal.3)
        (full_run disk out (discard_query number) (discard_once number) d d1 d2 o shelf shelf2
        (discard_addition number) refl ready answer discards.adds (decided (may_of refusal.0)) needed
        (is ∙ ap (λ (e : ShelfError). Err e) same) refusal.1 refusal.2)
    not_added (NoSuchFile' count) is refusal =
        refused_by (NoSuchFile' count) (NoSuchFile count) (omega (arith, refusal.1, refusal.2)) is (λ same. cc (same))
        (λ bytes. inl (omega (arith, refusal.1, refusal.2), ap (λ (n : ℕ). Err (NoSuchFile n)) refusal.1))
    not_added (Crc' stored computed) is refusal = absurd refusal
    not_added NoMemory' is refusal = absurd refusal
    not_added Failed' is refusal =
        let works = ready.works in
        cc (works, refusal)
    not_added Discarded' is refusal =
        refused_by Discarded' Discarded tt is (λ same. cc (same))
        (λ bytes. inr (inl (refusal.1, refusal.2, refl)))

    -- the Discard was added
    module _ (added : answer ≡ Ok tt) where
      no_error : (error : ShelfError) → answer ≡ Err error → ⊥
      no_error error same = cc (added, same)

      is_there : number < length there.entries
      is_there = elim (cases_lt number (length there.entries)) [
        | inl below ↦ below
        | inr beyond ↦ absurd (no_error (NoSuchFile' (length there.entries)) (discards.absent ready.works beyond))
      ]

      may : MayGo number there
      may = record {
        there = is_there;
        stays = is_false (entry_at there number).gone
            (λ gone. no_error Discarded' (discards.gone ready.works is_there gone));
      }

      fits : Fits (discard_item number) there
      fits = elim (cases_lt there.capacity (way_added (discard_item number) there).end) [
        | inl over ↦ absurd (no_error _ (discards.full
            (record { working = ready.works; there = is_there; stays = may.stays }) over))
        | inr room ↦ room
      ]

      -- and its line was put
      pub told_line : (o2 : O) → Puts out (discard_line number) o o2 → RunsDiscard Done d d2 o o2
      told_line o2 puts =
          done_run disk out (discard_query number) (discard_once number) d d1 d2 o shelf shelf2
          (discard_addition number) refl ready answer discards.adds (decided may) tt added fits o2 puts

      -- or it wasn't
      pub cut_line : (o2 : O) → PutFails out (discard_line number) o o2 → RunsDiscard (Failed Output) d d2 o o2
      cut_line o2 fails =
          cut_run disk out (discard_query number) (discard_once number) d d1 d2 o shelf shelf2
          (discard_addition number) refl ready answer discards.adds (decided may) tt added fits o2 fails
