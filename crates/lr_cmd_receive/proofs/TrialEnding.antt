-- How `trial` ends, from the making of its shelf on.
use Rattle.std.proofs.Common.{◌≡◌, ◌⊎◌, inl, inr, ⊎_elim, ℕ, ◌≤◌, List, length-append, [], ◌∷◌}
use Rattle.std.proofs.Common.{length, refl, sym, ◌∙◌, ap, subst, arith, Result, Ok, Err, IfErr}
use Rattle.std.proofs.Common.{OnOk, OnErr}
use Rattle.lr_bits.specs.Faults.{Rose}
use Rattle.lr_bits.specs.declared.placed.Placed.{Placed}
use Rattle.lr_bits.proofs.Telling.{tells_both, tells_still}
use Rattle.lr_io.specs.declared.sink.Sink.{Ghosts as SinkOf}
use Rattle.lr_disk.specs.declared.disk.Disk.{Ghosts as DiskOf}
use Rattle.lr_disk.specs.Disk.{Cut}
use Rattle.lr_disk.specs.Pending.{EachImageSince}
use Rattle.lr_disk.proofs.Moments.{weaker, joined}
use Rattle.lr_shelf_format.specs.Items.{Item}
use Rattle.lr_shelf_format.specs.Header.{header_bytes}
use Rattle.lr_shelf_format.specs.ShelfBytes.{StandsForShelf}
use Rattle.lr_shelf_format.proofs.HeaderLemmas.{length-header_bytes}
use Rattle.lr_shelf.specs.Init.{Inits, IsBlank, IsInitRefusal, IsLeftByInit, IsTaken, new_shelf}
use Rattle.lr_shelf.specs.Shelf.{IsDurable}
use Rattle.lr_shelf.specs.declared.error.ShelfError.{ShelfError}
use Rattle.lr_shelf.specs.declared.error.ShelfError.TheVariants.{Disk as Disk', NotEmpty as NotEmpty'}
use Rattle.lr_causes.specs.declared.cause.Cause.{Cause}
use Rattle.lr_causes.specs.declared.cause.Cause.TheVariants.{Done, Failed, NoMemory, Refused}
use Rattle.lr_causes.specs.declared.cause.Party.TheVariants.{Disk, Output}
use Rattle.lr_causes.specs.declared.cause.Refusal.TheVariants.{NotAShelf, Capacity, NotEmpty}
use Rattle.lr_causes.specs.Causes.{IsEarlier, counts}
use Rattle.lr_refusals.specs.Errors.{cause_of}
use Rattle.lr_cmd_receive.specs.Filling.{FillEnds, Fills, IsWithdrawn, LeavesBlankOrItems}
use Rattle.lr_causes.specs.Counts.{CountsTell}
use Rattle.lr_cmd_receive.specs.First.{SourceBesides}
use Rattle.lr_shelf.specs.InitialShelves.{with_files}
use Rattle.lr_cmd_receive.specs.Trial.{trial_capacity, StandsForPart, GotFiles, IsLeftByTrial, IsBare, trial_files}
use Rattle.lr_cmd_receive.specs.Trial.{HoldsTrialPart, DiskEnds, LeavesDisk, OutEnds, TrialRun}
use Rattle.lr_cmd_receive.proofs.Causing.{first_disk, first_later, first_refused, first_stays}
use Rattle.lr_cmd_receive.proofs.Changing.{change_cut}
use Rattle.lr_cmd_receive.proofs.ShelvingOne.{same_of}
use Rattle.lr_causes.specs.Outside.{outlets, outlets_of}

-- files whose items are not none
at_least_one : (files : List Placed) → (with_files [] files ≡ [] → ⊥) → 1 ≤ length files
at_least_one [] some = absurd (some refl)
at_least_one (file ∷ files) some = omega arith

-- after memory was refused: the disk is cleaned up, or fails in that
first_after : (cause : Cause) (d d2 d' o o' : ℕ) → IsEarlier cause → d2 ≡ d → o' ≡ o
    → CountsTell SourceBesides cause (counts 0 d2 0) (counts 0 d' 0)
    → CountsTell SourceBesides cause (counts 0 d o) (counts 0 d' o')
first_after (Failed Disk) d d2 d' o o' early same_disk same_out first =
    first_disk 0 0 d d' o o' (subst (λ (k : ℕ). Rose k d') same_disk first.named) same_out
first_after NoMemory d d2 d' o o' early same_disk same_out first =
    first_stays NoMemory 0 0 d d' o o' tt tt (first.others Disk (λ is. cc (is)) (λ b. b) ∙ same_disk) same_out
first_after _ d d2 d' o o' early same_disk same_out first = absurd early

module _ {D O : Type 0} (disk : DiskOf D) (out : SinkOf O) (symbols : List ℕ) (d d1 : D) (o : O)
    (result : Result (Unit {0}) ShelfError) (inits : Inits disk trial_capacity d d1 result) where
  -- ---- no shelf was made
  module _ (e : ShelfError) (is : result ≡ Err e) where
    refusal : IsInitRefusal disk d d1 e
    refusal = subst (λ (r : Result (Unit {0}) ShelfError). IfErr r (IsInitRefusal disk d d1)) is inits.refused

    refused_ends : (e : ShelfError) → IsInitRefusal disk d d1 e → DiskEnds disk symbols (cause_of e) d d1
    refused_ends Disk' r = tt
    refused_ends (NotEmpty' size) r = r
    refused_ends _ r = absurd r

    refused_out : (e : ShelfError) → IsInitRefusal disk d d1 e → OutEnds out symbols (cause_of e) o o
    refused_out Disk' r = refl
    refused_out (NotEmpty' size) r = refl
    refused_out _ r = absurd r

    same_error : (other : ShelfError) → result ≡ Err other → e ≡ other
    same_error other named = cc (is, named)

    refused_why : (n : ℕ) → (result ≡ Err (NotEmpty' n)) ⊎ (result ≡ Err Disk')
        → (cause_of e ≡ Refused (NotEmpty n)) ⊎ IsEarlier (cause_of e)
    refused_why n (inl named) = inl (ap cause_of (same_error (NotEmpty' n) named))
    refused_why n (inr named) = inr
        (subst (λ (x : ShelfError). IsEarlier (cause_of x)) (sym (same_error Disk' named)) tt)

    init_refused : LeavesDisk disk symbols (cause_of e) d d1
    init_refused = record {
      ends = refused_ends e refusal;
      leaves = λ told. inl (subst (λ (r : Result (Unit {0}) ShelfError). OnErr r
          (IsLeftByInit trial_capacity (disk.contents d) (disk.contents d1))) is (inits.left told));
      taken = λ told taken.
          let t = inits.taken told taken in (refused_why (length (disk.contents d)) t.0, inr t.1);
      any_moment = λ told free only. inr
          (weaker disk.moment disk.left_since d d1 _ _ (λ c blank. inl blank) (inits.any_moment told free only));
    }

    pub init_stops : TrialRun (outlets_of disk out) symbols (cause_of e) (outlets d o) (outlets d1 o)
    init_stops = record {
      on_disk = init_refused;
      on_out = refused_out e refusal;
      tell = record {
        by_disk = inits.calls.tell;
        by_out = tells_still;
      };
      counted = first_refused e result 0 0 (disk.faults d) (disk.faults d1) (out.faults o) is
          (λ failed. subst (λ (x : ShelfError). IsInitRefusal disk d d1 x) failed refusal) inits.calls.counted;
    }

  -- ---- an empty shelf was made
  module _ (is : result ≡ Ok tt) where
    same_count : disk.faults d1 ≡ disk.faults d
    same_count = same_of disk d d1 result tt is inits.calls.counted

    not_taken : disk.tells d → IsTaken (disk.contents d) → ⊥
    not_taken told taken = ⊎_elim (λ named. cc (is, named)) (λ named. cc (is, named)) (inits.taken told taken).0

    -- what a crash between two moments may leave
    abbrev Leaves : D → D → Type 0
    Leaves from to =
        EachImageSince disk from to
        (λ c. IsBlank trial_capacity c ⊎ GotFiles symbols (new_shelf trial_capacity) c)

    -- whatever comes after it
    after : (cause : Cause) (d' : D) → DiskEnds disk symbols cause d d'
        → (disk.tells d → IsLeftByTrial symbols (disk.contents d) (disk.contents d')) → (disk.tells d → Leaves d1 d')
        → LeavesDisk disk symbols cause d d'
    after cause d' ends leaves moments = record {
      ends = ends;
      leaves = leaves;
      taken = λ told taken. absurd (not_taken told taken);
      any_moment = λ told free only.
          inr (joined disk.moment disk.left_since d d1 d' _
          (weaker disk.moment disk.left_since d d1 _ _ (λ c blank. inl blank) (inits.any_moment told free only))
          (moments told));
    }

    module _ (d2 : D) (o2 : O) (cause2 : Cause)
        (fills : Fills (outlets_of disk out) symbols cause2 (outlets d1 o) (outlets d2 o2)) where
      -- the bytes that `init` made got the files
      made_so : (told : disk.tells d) (c : List ℕ) → GotFiles symbols (disk.contents d1) c
          → GotFiles symbols (new_shelf trial_capacity) c
      made_so told c = subst (λ (l : List ℕ). GotFiles symbols l c)
          (subst (λ (r : Result (Unit {0}) ShelfError). OnOk r (disk.contents d1 ≡ new_shelf trial_capacity)) is
          (inits.written told))

      filled_bytes : disk.tells d → GotFiles symbols (new_shelf trial_capacity) (disk.contents d2)
      filled_bytes told = made_so told (disk.contents d2) (fills.on_disk.got (inits.calls.tell.told told))

      filled_moments : disk.tells d → Leaves d1 d2
      filled_moments told = weaker disk.moment disk.left_since d1 d2 _ _ (λ c got. inr (made_so told c got))
          (fills.on_disk.any_moment (inits.calls.tell.told told))

      -- ---- memory wasn't refused
      whole_ends : (cause : Cause) → (cause ≡ NoMemory → ⊥) → FillEnds disk symbols cause d1 d2
          → DiskEnds disk symbols cause d d2
      whole_ends Done other ends = (λ told. ends.0 (inits.calls.tell.told told), ends.1 ∙ same_count)
      whole_ends (Failed Disk) other ends = tt
      whole_ends (Failed Output) other ends = λ told. ends (inits.calls.tell.told told)
      whole_ends NoMemory other ends = absurd (other refl)
      whole_ends (Refused (NotAShelf at)) other ends = λ told. ends (inits.calls.tell.told told)
      whole_ends (Refused (Capacity needed most)) other ends = λ told. ends (inits.calls.tell.told told)
      whole_ends _ other ends = absurd ends

      pub filled_first : CountsTell SourceBesides cause2 (counts 0 (disk.faults d) (out.faults o))
          (counts 0 (disk.faults d2) (out.faults o2))
      filled_first =
          first_later cause2 0 0 (disk.faults d) (disk.faults d1) (disk.faults d2) (out.faults o) (out.faults o)
          (out.faults o2) same_count refl fills.first

      pub filled : (cause2 ≡ NoMemory → ⊥)
          → TrialRun (outlets_of disk out) symbols cause2 (outlets d o) (outlets d2 o2)
      filled other = record {
        on_disk = after cause2 d2 (whole_ends cause2 other fills.on_disk.ends) (λ told. inr (filled_bytes told))
            filled_moments;
        on_out = fills.on_out;
        tell = record {
          by_disk = tells_both inits.calls.tell fills.on_disk.tell;
          by_out = fills.by_out;
        };
        counted = filled_first;
      }

    -- ---- memory was refused
    module _ (d2 : D) (o2 : O)
        (fills : Fills (outlets_of disk out) symbols NoMemory (outlets d1 o) (outlets d2 o2)) where
      told_there : disk.tells d → disk.tells d2
      told_there told = fills.on_disk.tell.told (inits.calls.tell.told told)

      abbrev held : disk.tells d → HoldsTrialPart disk symbols 0 d2
      held told = fills.on_disk.ends (inits.calls.tell.told told)

      -- the items that stand there
      abbrev items : disk.tells d → List Item
      items told = with_files [] (held told).contents.first

      durable : (told : disk.tells d) → IsDurable disk trial_capacity (items told) d2
      durable told = record { stands = (held told).contents.stands; durable = (held told).images }

      stands_part : (told : disk.tells d) (c : List ℕ) → StandsForShelf c trial_capacity (items told)
          → StandsForPart symbols 0 c
      stands_part told c stands =
          let part = (held told).contents in
          record {
            first = part.first;
            rest = part.rest;
            split = part.split;
            enough = part.enough;
            stands = stands;
          }

      cut_part : (told : disk.tells d) (c : List ℕ) → StandsForShelf c trial_capacity (items told)
          → Cut 20 (disk.contents d2) c → GotFiles symbols (new_shelf trial_capacity) c
      cut_part told c stands cut = record {
        stands = stands_part told c stands;
        changes = change_cut trial_capacity (trial_files symbols) (new_shelf trial_capacity)
            (disk.contents d2) c
            (omega (
              arith,
              length-append (header_bytes 2 trial_capacity) (0 ∷ []),
              length-header_bytes 2 trial_capacity,
            ))
            (filled_bytes d2 o2 NoMemory fills told).changes cut;
      }

      left : (told : disk.tells d) (d' : D) → IsWithdrawn disk (items told) d'
          → IsBare disk d' ⊎ HoldsTrialPart disk symbols 1 d'
      left told d' (inl none) = inl none.1
      left told d' (inr some) =
          let part = (held told).contents in
          inr (record {
            contents = record {
              first = part.first;
              rest = part.rest;
              split = part.split;
              enough = at_least_one part.first some.0;
              stands = some.1.stands;
            };
            images = some.1.durable;
          })

      ends_so : (cause : Cause) (d' : D) → IsEarlier cause
          → ((told : disk.tells d) → cause ≡ NoMemory → IsWithdrawn disk (items told) d')
          → DiskEnds disk symbols cause d d'
      ends_so (Failed Disk) d' early withdraws = tt
      ends_so NoMemory d' early withdraws = λ told. inr (left told d' (withdraws told refl))
      ends_so _ d' early withdraws = absurd early

      out_so : (cause : Cause) → IsEarlier cause → OutEnds out symbols cause o o2
      out_so (Failed Disk) early = fills.on_out
      out_so NoMemory early = fills.on_out
      out_so _ early = absurd early

      pub withdrawn : (cause : Cause) (d' : D) → IsEarlier cause → (disk.tells d2 → disk.tells d')
          → (disk.tells d' → disk.tells d2)
          → CountsTell SourceBesides cause (counts 0 (disk.faults d2) 0) (counts 0 (disk.faults d') 0)
          → (disk.tells d2 → (items : List Item) → IsDurable disk trial_capacity items d2 → cause ≡ NoMemory
          → IsWithdrawn disk items d')
          → (disk.tells d2 → (disk.contents d' ≡ []) ⊎ (disk.contents d' ≡ disk.contents d2))
          → (disk.tells d2 → (items : List Item) → IsDurable disk trial_capacity items d2
          → LeavesBlankOrItems disk items d2 d')
          → TrialRun (outlets_of disk out) symbols cause (outlets d o) (outlets d' o2)
      withdrawn cause d' early told' untold' first ends left_of moments = record {
        on_disk = after cause d'
            (ends_so cause d' early (λ told. ends (told_there told) (items told) (durable told)))
            (λ told. ⊎_elim
            (λ none. inl (inr (inl (omega (arith, ap (λ (l : List ℕ). length l) none)))))
            (λ same. inr (subst (GotFiles symbols (new_shelf trial_capacity)) (sym same)
            (filled_bytes d2 o2 NoMemory fills told)))
            (left_of (told_there told)))
            (λ told. joined disk.moment disk.left_since d1 d2 d' _ (filled_moments d2 o2 NoMemory fills told)
            (weaker disk.moment disk.left_since d2 d' _ _
            (λ c left. ⊎_elim (λ blank. inl blank) (λ there. inr (cut_part told c there.0 there.1)) left)
            (moments (told_there told) (items told) (durable told))));
        on_out = out_so cause early;
        tell = record {
          by_disk = record {
            told = λ t. told' (told_there t);
            untold = λ t. inits.calls.tell.untold (fills.on_disk.tell.untold (untold' t));
          };
          by_out = fills.by_out;
        };
        counted = first_after cause (disk.faults d) (disk.faults d2) (disk.faults d') (out.faults o)
            (out.faults o2) early
            (fills.first.others Disk (λ is. cc (is)) (λ b. b) ∙ same_count)
            (fills.first.others Output (λ is. cc (is)) (λ b. b)) first;
      }
