-- What `check` answers, as a line of `verify`.
use Rattle.std.proofs.Common.{◌≡◌, ℕ, Bool, false, Some, None, Result, Ok, Err, List, [], ◌∷◌, ◌++◌}
use Rattle.std.proofs.Common.{refl, ap, ◌∙◌, sym, subst}
use Rattle.lr_io.specs.declared.sink.Sink.{Ghosts as SinkOf}
use Rattle.lr_disk.specs.declared.disk.Disk.{Ghosts as DiskOf}
use Rattle.lr_shelf.specs.Asked.{entry_of}
use Rattle.lr_shelf.specs.Kept.{KeptShelf}
use Rattle.lr_shelf.specs.Read.{FindsFile, IsCheckRefusal, IsGetRefusal}
use Rattle.lr_shelf.specs.declared.error.ShelfError.{ShelfError}
use Rattle.lr_shelf.specs.declared.error.ShelfError.TheVariants.{Disk as Disk'}
use Rattle.lr_shelf.specs.declared.error.ShelfError.TheVariants.{NotAShelf as NotAShelf'}
use Rattle.lr_shelf.specs.declared.error.ShelfError.TheVariants.{NotEmpty as NotEmpty'}
use Rattle.lr_shelf.specs.declared.error.ShelfError.TheVariants.{Capacity as Capacity'}
use Rattle.lr_shelf.specs.declared.error.ShelfError.TheVariants.{NoSuchFile as NoSuchFile'}
use Rattle.lr_shelf.specs.declared.error.ShelfError.TheVariants.{Crc as Crc', NoMemory as NoMemory'}
use Rattle.lr_shelf.specs.declared.error.ShelfError.TheVariants.{Failed as Failed'}
use Rattle.lr_shelf.specs.declared.error.ShelfError.TheVariants.{Discarded as Discarded'}
use Rattle.lr_catalog.specs.Discards.{gone_line}
use Rattle.lr_catalog.specs.Files.{check_line}
use Rattle.lr_causes.specs.Outside.{outlets, outlets_of}
use Rattle.lr_causes.specs.declared.cause.Cause.{Cause}
use Rattle.lr_refusals.specs.Errors.{cause_of}
use Rattle.lr_cmd_shelf.specs.declared.opened.Opened.{Opened}
use Rattle.lr_cmd_shelf.specs.declared.verify.Finding.{Finding}
use Rattle.lr_cmd_shelf.specs.declared.verify.Finding.TheVariants.{Right, Wrong as Wrong', Gone}
use Rattle.lr_cmd_shelf.specs.Comparing.{IsCompared}
use Rattle.lr_cmd_shelf.specs.Queries.{EntryView, Whole, Wrong, Absent, plain}
use Rattle.lr_cmd_shelf.specs.Steps.{PutsText, TextStops, TakesEntry, EntryStops, standing_at}
use Rattle.lr_cmd_shelf.specs.Verify.{none_bad, verify_query}
use Rattle.lr_cmd_shelf.proofs.Texts.{stops_seen}

pub none_bad-whole : (read : List EntryView) (opened : Opened) → none_bad (read ++ Whole opened ∷ []) ≡ none_bad read
none_bad-whole [] opened = refl
none_bad-whole (Whole first ∷ read) opened = none_bad-whole read opened
none_bad-whole (Wrong s c ∷ read) opened = refl
none_bad-whole (Absent ∷ read) opened = none_bad-whole read opened

pub none_bad-absent : (read : List EntryView) → none_bad (read ++ Absent ∷ []) ≡ none_bad read
none_bad-absent [] = refl
none_bad-absent (Whole first ∷ read) = none_bad-absent read
none_bad-absent (Wrong s c ∷ read) = refl
none_bad-absent (Absent ∷ read) = none_bad-absent read

pub none_bad-wrong : (read : List EntryView) (stored computed : ℕ)
    → none_bad (read ++ Wrong stored computed ∷ []) ≡ false
none_bad-wrong [] stored computed = refl
none_bad-wrong (Whole first ∷ read) stored computed = none_bad-wrong read stored computed
none_bad-wrong (Wrong s c ∷ read) stored computed = refl
none_bad-wrong (Absent ∷ read) stored computed = none_bad-wrong read stored computed

-- ---- what `check` answered, by what was found

pub of_right : (answer : Result (Unit {0}) ShelfError) (found : Finding) → found ≡ Right
    → IsCompared answer (Ok found) → answer ≡ Ok tt
of_right (Ok nothing) found is so = refl
of_right (Err error) found is so = absurd (subst (λ (f : Finding). IsCompared (Err error) (Ok f)) is so)

pub of_wrong : (answer : Result (Unit {0}) ShelfError) (found : Finding) (stored computed : ℕ)
    → found ≡ Wrong' stored computed → IsCompared answer (Ok found) → answer ≡ Err (Crc' stored computed)
of_wrong (Ok nothing) found stored computed is so = cc (is, so)
of_wrong (Err error) found stored computed is so =
    ap (λ (e : ShelfError). Err e) (subst (λ (f : Finding). IsCompared (Err error) (Ok f)) is so)

pub of_gone : (answer : Result (Unit {0}) ShelfError) (found : Finding) → found ≡ Gone
    → IsCompared answer (Ok found) → answer ≡ Err Discarded'
of_gone (Ok nothing) found is so = cc (is, so)
of_gone (Err error) found is so =
    ap (λ (e : ShelfError). Err e) (subst (λ (f : Finding). IsCompared (Err error) (Ok f)) is so)

pub of_refused : (answer : Result (Unit {0}) ShelfError) (cause : Cause) → IsCompared answer (Err cause)
    → (error : ShelfError) × (answer ≡ Err error) × (cause ≡ cause_of error)
    × ((stored computed : ℕ) → error ≡ Crc' stored computed → ⊥) × (error ≡ Discarded' → ⊥)
of_refused (Ok nothing) cause so = cc (so)
of_refused (Err error) cause so = (error, refl, so.0, so.1, so.2)

-- `check` refuses what `get` does
pub check_refusal : {D : Type 0} (disk : DiskOf D) (kept : KeptShelf) (number : ℕ) (d : D) (error : ShelfError)
    → IsCheckRefusal disk kept number d error → IsGetRefusal disk kept number d error
check_refusal disk kept number d Disk' refusal = refusal
check_refusal disk kept number d (NotAShelf' at) refusal = refusal
check_refusal disk kept number d (NotEmpty' size) refusal = refusal
check_refusal disk kept number d (Capacity' needed most) refusal = refusal
check_refusal disk kept number d (NoSuchFile' count) refusal = refusal
check_refusal disk kept number d (Crc' stored computed) refusal = refusal
check_refusal disk kept number d NoMemory' refusal = absurd refusal
check_refusal disk kept number d Failed' refusal = refusal
check_refusal disk kept number d Discarded' refusal = refusal

module _ {D O : Type 0} (disk : DiskOf D) (out : SinkOf O) (kept : KeptShelf) (read : List EntryView) (number : ℕ)
    (d d' : D)
    (o o' : O) where
  abbrev Takes : Bool → Type 0
  Takes sound =
      TakesEntry (outlets_of disk out) (standing_at verify_query kept.way read number) (λ read'. sound ≡ none_bad read')
      (outlets d o) (outlets d' o')

  abbrev Stops : Cause → Type 0
  Stops cause = EntryStops (outlets_of disk out) (standing_at verify_query kept.way read number) cause (outlets d o)
      (outlets d' o')

  module _ (right : FindsFile disk (entry_of kept number) d) where
    pub takes_right : (sound : Bool) → sound ≡ none_bad read → PutsText out (Ok (check_line number None)) o o'
        → Takes sound
    takes_right sound is puts = record {
      seen = plain right.0;
      was = record { sight = tt; stands = λ t. (right.1 t, tt) };
      puts = puts;
      gathered = is ∙ sym (none_bad-whole read (record { stored = right.0; image = None }));
    }

    pub stops_right : (cause : Cause) → TextStops out (Ok (check_line number None)) cause o o' → Stops cause
    stops_right =
        stops_seen disk out verify_query kept.way read number d d' o o' (Some (plain right.0))
        (record { sight = tt; stands = λ t. (right.1 t, tt) })

  module _ (stored computed : ℕ) (wrong : IsCheckRefusal disk kept number d (Crc' stored computed)) where
    pub takes_wrong : PutsText out (Ok (check_line number (Some (stored, computed)))) o o' → Takes false
    takes_wrong puts = record {
      seen = Wrong stored computed;
      was = record { sight = tt; stands = wrong.1.1 };
      puts = puts;
      gathered = sym (none_bad-wrong read stored computed);
    }

    pub stops_wrong : (cause : Cause) → TextStops out (Ok (check_line number (Some (stored, computed)))) cause o o'
        → Stops cause
    stops_wrong =
        stops_seen disk out verify_query kept.way read number d d' o o' (Some (Wrong stored computed))
        (record { sight = tt; stands = wrong.1.1 })

  module _ (gone : IsCheckRefusal disk kept number d Discarded') where
    pub takes_gone : (sound : Bool) → sound ≡ none_bad read → PutsText out (Ok (gone_line number)) o o' → Takes sound
    takes_gone sound is puts = record {
      seen = Absent;
      was = record { sight = tt; stands = λ t. gone.2 };
      puts = puts;
      gathered = is ∙ sym (none_bad-absent read);
    }

    pub stops_gone : (cause : Cause) → TextStops out (Ok (gone_line number)) cause o o' → Stops cause
    stops_gone = stops_seen disk out verify_query kept.way read number d d' o o' (Some Absent)
        (record { sight = tt; stands = λ t. gone.2 })
