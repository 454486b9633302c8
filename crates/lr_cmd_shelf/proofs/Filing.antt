-- What `get` and `check` answer, as what stands at an entry.
use Rattle.std.proofs.Common.{◌≡◌, ◌<◌, ◌≤◌, ◌+◌, ◌^◌, ℕ, true, false, Some, None, Err, List, []}
use Rattle.std.proofs.Common.{◌∷◌, ◌++◌, length, refl, arith, ap, sym, subst}
use Rattle.lr_io.specs.declared.sink.Sink.{Ghosts as SinkOf}
use Rattle.lr_disk.specs.declared.disk.Disk.{Ghosts as DiskOf}
use Rattle.lr_shelf_format.specs.Way.{Sound, Gone}
use Rattle.lr_shelf_format.specs.declared.stored.Stored.{Stored}
use Rattle.lr_shelf.specs.Asked.{entry_of}
use Rattle.lr_shelf.specs.Calls.{IsFaultCounted}
use Rattle.lr_shelf.specs.Kept.{KeptShelf}
use Rattle.lr_shelf.specs.Read.{Finds, IsGetRefusal}
use Rattle.lr_shelf.specs.declared.error.ShelfError.{ShelfError}
use Rattle.lr_shelf.specs.declared.error.ShelfError.TheVariants.{Disk as Disk'}
use Rattle.lr_shelf.specs.declared.error.ShelfError.TheVariants.{NotAShelf as NotAShelf'}
use Rattle.lr_shelf.specs.declared.error.ShelfError.TheVariants.{NotEmpty as NotEmpty'}
use Rattle.lr_shelf.specs.declared.error.ShelfError.TheVariants.{Capacity as Capacity'}
use Rattle.lr_shelf.specs.declared.error.ShelfError.TheVariants.{NoSuchFile as NoSuchFile'}
use Rattle.lr_shelf.specs.declared.error.ShelfError.TheVariants.{Crc as Crc', NoMemory as NoMemory'}
use Rattle.lr_shelf.specs.declared.error.ShelfError.TheVariants.{Failed as Failed'}
use Rattle.lr_shelf.specs.declared.error.ShelfError.TheVariants.{Discarded as Discarded'}
use Rattle.lr_causes.specs.declared.cause.Refusal.TheVariants.{NotAShelf, BadChecksum}
use Rattle.lr_causes.specs.Outside.{outlet_counts, outlets, outlets_of}
use Rattle.lr_causes.specs.declared.cause.Cause.{Cause}
use Rattle.lr_cmd_shelf.specs.declared.opened.Opened.{Opened}
use Rattle.lr_cmd_shelf.specs.Queries.{Query, EntryView, Whole, Wrong, Absent}
use Rattle.lr_refusals.specs.Errors.{cause_of}
use Rattle.lr_cmd_shelf.specs.Files.{FileQuery, query_of_files, files_of}
use Rattle.lr_causes.specs.Counts.{CountsTell, NoneBesides}
use Rattle.lr_cmd_shelf.specs.Steps.{PutsText, TextStops, TakesEntry, EntryStops, standing_at}
use Rattle.lr_cmd_shelf.proofs.Texts.{disk_counts, quiet_counts, stops_seen}

pub files_of-whole : (read : List EntryView) (opened : Opened)
    → files_of (read ++ Whole opened ∷ []) ≡ files_of read ++ opened ∷ []
files_of-whole [] opened = refl
files_of-whole (Whole first ∷ read) opened = ap (λ (l : List Opened). first ∷ l) (files_of-whole read opened)
files_of-whole (Wrong s c ∷ read) opened = files_of-whole read opened
files_of-whole (Absent ∷ read) opened = files_of-whole read opened

pub files_of-absent : (read : List EntryView) → files_of (read ++ Absent ∷ []) ≡ files_of read
files_of-absent [] = refl
files_of-absent (Whole first ∷ read) = ap (λ (l : List Opened). first ∷ l) (files_of-absent read)
files_of-absent (Wrong s c ∷ read) = files_of-absent read
files_of-absent (Absent ∷ read) = files_of-absent read

-- there are at most as many files as entries
pub length-files_of : (read : List EntryView) → length (files_of read) ≤ length read
length-files_of [] = omega arith
length-files_of (Whole first ∷ read) = omega (arith, length-files_of read)
length-files_of (Wrong s c ∷ read) = omega (arith, length-files_of read)
length-files_of (Absent ∷ read) = omega (arith, length-files_of read)

pub fewer : (read : List EntryView) → length read + 1 < 2 ^ 64 → length (files_of read) + 1 < 2 ^ 64
fewer read few = omega (arith, few, length-files_of read)

-- an opened file stands where the file does
pub opened_stands : {D : Type 0} (disk : DiskOf D) (kept : KeptShelf) (number : ℕ) (d : D) (query : FileQuery)
    (stored : Stored) (opened : Opened) → opened.stored ≡ stored
    → query.sees stored opened.image
    → Finds disk (entry_of kept number) d (Some (Sound stored))
    → Finds disk (entry_of kept number) d (Some (Sound opened.stored))
    × query.sees opened.stored opened.image
opened_stands disk kept number d query stored opened same seen finds = (
  subst (λ (s : Stored). Finds disk (entry_of kept number) d (Some (Sound s))) (sym same) finds,
  subst (λ (s : Stored). query.sees s opened.image) (sym same) seen,
)

module _ {D O : Type 0} (disk : DiskOf D) (out : SinkOf O) where
  -- a call on a shelf that works was refused, and `out` was left alone
  pub shelf_counted : (A : Type 0) (d d' : D) (o : O) (error : ShelfError) → (error ≡ Failed' → ⊥)
      → IsFaultCounted {A = A} (disk.faults d) (disk.faults d') (Err error)
      → CountsTell NoneBesides (cause_of error) (outlet_counts (outlets_of disk out) (outlets d o))
      (outlet_counts (outlets_of disk out) (outlets d' o))
  shelf_counted A d d' o Disk' works counted = disk_counts disk out d d' o o counted.1 refl
  shelf_counted A d d' o (NotAShelf' at) works counted =
      quiet_counts disk out (cause_of (NotAShelf' at)) d d' o o tt counted refl
  shelf_counted A d d' o (NotEmpty' size) works counted =
      quiet_counts disk out (cause_of (NotEmpty' size)) d d' o o tt counted refl
  shelf_counted A d d' o (Capacity' needed most) works counted =
      quiet_counts disk out (cause_of (Capacity' needed most)) d d' o o tt counted refl
  shelf_counted A d d' o (NoSuchFile' count) works counted =
      quiet_counts disk out (cause_of (NoSuchFile' count)) d d' o o tt counted refl
  shelf_counted A d d' o (Crc' stored computed) works counted =
      quiet_counts disk out (cause_of (Crc' stored computed)) d d' o o tt counted refl
  shelf_counted A d d' o NoMemory' works counted =
      quiet_counts disk out (cause_of NoMemory') d d' o o tt counted refl
  shelf_counted A d d' o Failed' works counted = absurd (works refl)
  shelf_counted A d d' o Discarded' works counted =
      quiet_counts disk out (cause_of Discarded') d d' o o tt counted refl

module _ {D O : Type 0} (disk : DiskOf D) (out : SinkOf O) (kept : KeptShelf) (number : ℕ) (d : D)
    (works : kept.failed ≡ false) (there : number < length kept.way.entries) where
  pub not_failed : (error : ShelfError) → IsGetRefusal disk kept number d error → error ≡ Failed' → ⊥
  not_failed error refusal is = failed_or_not (subst (IsGetRefusal disk kept number d) is refusal) where
    failed_or_not : kept.failed ≡ true → ⊥
    failed_or_not failed = cc (works, failed)

  -- what is refused at an entry by every command, or else by what was found there
  pub get_stops : (query : Query) (read : List EntryView) (d' : D) (o : O) (error : ShelfError)
      → ((stored computed : ℕ) → error ≡ Crc' stored computed
      → query.fate read number (Wrong stored computed) ≡ Err BadChecksum)
      → (error ≡ Discarded' → ⊥) → IsGetRefusal disk kept number d error
      → EntryStops (outlets_of disk out) (standing_at query kept.way read number) (cause_of error) (outlets d o)
      (outlets d' o)
  get_stops query read d' o Disk' bad stays refusal = refl
  get_stops query read d' o (NotAShelf' at) bad stays refusal = record {
    seen = None;
    was = record { sight = tt; stands = refusal.1.1 };
    stops = (ap (λ (n : ℕ). Err (NotAShelf n)) (sym refusal.1.0), refl);
  }
  get_stops query read d' o (NotEmpty' size) bad stays refusal = absurd refusal.1
  get_stops query read d' o (Capacity' needed most) bad stays refusal = absurd refusal.1
  get_stops query read d' o (NoSuchFile' count) bad stays refusal =
      absurd (omega (arith, there, refusal.1, refusal.2))
  get_stops query read d' o (Crc' stored computed) bad stays refusal = record {
    seen = Some (Wrong stored computed);
    was = record { sight = tt; stands = refusal.1.1 };
    stops = (bad stored computed refl, refl);
  }
  get_stops query read d' o NoMemory' bad stays refusal = refl
  get_stops query read d' o Failed' bad stays refusal = absurd (not_failed Failed' refusal refl)
  get_stops query read d' o Discarded' bad stays refusal = absurd (stays refl)

  -- one that is gone
  pub found_gone : IsGetRefusal disk kept number d Discarded' → Finds disk (entry_of kept number) d (Some Gone)
  found_gone refusal t = refusal.2

  module _ (query : FileQuery) (read : List EntryView) (d' : D) (o o' : O) where
    module _ (opened : Opened) (finds : Finds disk (entry_of kept number) d (Some (Sound opened.stored)))
        (seen : query.sees opened.stored opened.image) where
      pub takes_file : (gathers : List Opened → Type 0)
          → PutsText out (query.fate (files_of read) number opened) o o'
          → gathers (files_of read ++ opened ∷ [])
          → TakesEntry (outlets_of disk out) (standing_at (query_of_files query) kept.way read number)
          (λ read'. gathers (files_of read')) (outlets d o) (outlets d' o')
      takes_file gathers puts gathered = record {
        seen = Whole opened;
        was = record { sight = seen; stands = λ t. (finds t, seen) };
        puts = puts;
        gathered = subst gathers (sym (files_of-whole read opened)) gathered;
      }

      pub stops_file : (cause : Cause) → TextStops out (query.fate (files_of read) number opened) cause o o'
          → EntryStops (outlets_of disk out) (standing_at (query_of_files query) kept.way read number) cause
          (outlets d o)
          (outlets d' o')
      stops_file = stops_seen disk out (query_of_files query) kept.way read number d d' o o' (Some (Whole opened))
          (record { sight = seen; stands = λ t. (finds t, seen) })

    module _ (gone : IsGetRefusal disk kept number d Discarded') where
      pub takes_gone : (gathers : List Opened → Type 0) → PutsText out (query.gone number) o o'
          → gathers (files_of read)
          → TakesEntry (outlets_of disk out) (standing_at (query_of_files query) kept.way read number)
          (λ read'. gathers (files_of read')) (outlets d o) (outlets d' o')
      takes_gone gathers puts gathered = record {
        seen = Absent;
        was = record { sight = tt; stands = found_gone gone };
        puts = puts;
        gathered = subst gathers (sym (files_of-absent read)) gathered;
      }

      pub stops_gone : (cause : Cause) → TextStops out (query.gone number) cause o o'
          → EntryStops (outlets_of disk out) (standing_at (query_of_files query) kept.way read number) cause
          (outlets d o)
          (outlets d' o')
      stops_gone =
          stops_seen disk out (query_of_files query) kept.way read number d d' o o' (Some Absent)
          (record { sight = tt; stands = found_gone gone })
