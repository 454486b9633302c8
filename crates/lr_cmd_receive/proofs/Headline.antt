-- What follows of how a run of `receive` ends: each image holds what was acknowledged, and a run without faults is
-- complete.
use Rattle.std.proofs.Common.{◌≡◌, ◌⊎◌, inl, inr, ℕ, ◌+◌, ◌<◌, ◌≤◌, List, [], ◌∷◌, ◌++◌, length}
use Rattle.std.proofs.Common.{⊎_elim, refl, sym, ◌∙◌, ap, subst, arith, append_assoc, append-nil}
use Rattle.std.proofs.Common.{length-append}
use Rattle.lr_bits.specs.declared.placed.Placed.{Placed}
use Rattle.lr_disk.specs.declared.disk.Disk.{Ghosts as DiskOf}
use Rattle.lr_causes.specs.declared.cause.Cause.{Cause}
use Rattle.lr_causes.specs.declared.cause.Cause.TheVariants.{Done, Failed, NoMemory, Refused}
use Rattle.lr_causes.specs.declared.cause.Party.TheVariants.{Source, Disk, Output}
use Rattle.lr_causes.specs.declared.cause.Refusal.TheVariants.{Capacity}
use Rattle.lr_cmd_receive.specs.Noted.{NotedFile, placed_files}
use Rattle.lr_cmd_receive.proofs.Noted.{length-placed, placed-append, placed_split}
use Rattle.lr_shelf.specs.InitialShelves.{InitialShelf, HoldsStill, StandsWith}
use Rattle.lr_shelf.specs.InitialShelves.{StandsForPrefix, LeavesPrefixes, HoldsPrefix}
use Rattle.lr_shelf.specs.Prefixes.{HasRoom, end_with}
use Rattle.lr_shelf_format.specs.Way.{Way}
use Rattle.lr_cmd_receive.specs.Shelving.{FullStops, StandsForOneFileMore, StopsBy, noted_line, shelved_lines}
use Rattle.lr_causes.specs.Outside.{NoFault, World, Outside, counts_in, outlets_in, world_outlets}
use Rattle.lr_causes.specs.Counts.{CountsTell}
use Rattle.lr_cmd_receive.specs.First.{SourceBesides}
use Rattle.lr_cmd_receive.specs.Receive.{IsWorkDone, ReceiveQuery, Receives, files_asked}
use Rattle.lr_cmd_receive.specs.Reception.{EndsOnto, run_of}
use Rattle.lr_cmd_receive.specs.Shelved.{MayStop}
use Rattle.lr_cmd_receive.proofs.ReceiveEnding.{no_work}
use Rattle.lr_shelf.proofs.Prefixes.{end_with-append}
use Rattle.lr_cmd_receive.proofs.Growing.{some}
use Rattle.lr_cmd_receive.proofs.ShelvedLines.{shelved_lines-none, shelved_lines-cons, shelved_lines-push, line-some}

-- lists that begin alike: the one with no more text has no more lines
no_more : (n : ℕ) (whole done r1 r2 : List NotedFile) → whole ++ r1 ≡ done ++ r2 → length (shelved_lines n whole)
    ≤ length (shelved_lines n done) → length whole ≤ length done
no_more n [] done r1 r2 same le = omega arith
no_more n (w ∷ whole) [] r1 r2 same le =
    absurd (omega (
      arith,
      le,
      ap length (shelved_lines-cons n w whole),
      ap length (shelved_lines-none n),
      length-append (noted_line n w) (shelved_lines (n + 1) whole),
      line-some n w.placed.file w.fillers,
    ))
no_more n (w ∷ whole) (x ∷ done) r1 r2 same le =
    let head : w ≡ x = cc (same) in
    let tail : whole ++ r1 ≡ done ++ r2 = cc (same) in
    let line : length (noted_line n w) ≡ length (noted_line n x) =
    ap (λ (y : NotedFile). length (noted_line n y)) head in
    let next = no_more (n + 1) whole done r1 r2 tail (omega (
      arith,
      le,
      line,
      ap length (shelved_lines-cons n w whole),
      ap length (shelved_lines-cons n x done),
      length-append (noted_line n w) (shelved_lines (n + 1) whole),
      length-append (noted_line n x) (shelved_lines (n + 1) done),
    )) in
    omega (arith, next)

-- ---- room

-- where the next file doesn't fit there is no room for all
lacks_room : (way : Way) (done : List Placed) (next : Placed) (rest : List Placed)
    → way.capacity < end_with way.end (done ++ next ∷ []) → HasRoom way (done ++ next ∷ rest) → ⊥
lacks_room way done next rest over (inl none) = some done next rest none
lacks_room way done next rest over (inr fits) =
    let all : end_with way.end (done ++ next ∷ rest) ≡ end_with (end_with way.end (done ++ next ∷ [])) rest =
    ap (end_with way.end) (sym (append_assoc done (next ∷ []) rest))
    ∙ end_with-append way.end (done ++ next ∷ []) rest in
    omega (arith, all, fits, over)

-- a text that went out whole
no_longer : (old new got a b : List ℕ) → new ≡ old ++ got → new ≡ old ++ (a ++ b) → length a ≤ length got
no_longer old new got a b first second =
    omega (
      arith,
      ap length first,
      ap length second,
      length-append old got,
      length-append old (a ++ b),
      length-append a b,
    )

module _ {D : Type 0} (disk : DiskOf D) (initial : InitialShelf) (files : List NotedFile) (d : D) where
  holds : (first rest : List NotedFile) (n : ℕ) → files ≡ first ++ rest → n ≤ length first
      → HoldsStill initial (placed_files first) disk d → HoldsPrefix disk initial (placed_files files) n d
  holds first rest n split enough durable = record {
    contents = record {
      first = placed_files first;
      rest = placed_files rest;
      split = placed_split first rest split;
      enough = omega (arith, enough, length-placed first);
      stands = durable.stands;
    };
    images = λ c image. record {
      first = placed_files first;
      rest = placed_files rest;
      split = placed_split first rest split;
      enough = omega (arith, enough, length-placed first);
      stands = subst (λ (l : List ℕ). StandsWith initial (placed_files first) l)
          (sym (durable.durable c image)) durable.stands;
    };
  }

  front_of : (done rest : List NotedFile) (n : ℕ) (bytes : List ℕ) → files ≡ done ++ rest → n ≤ length done
      → StandsForOneFileMore initial done rest bytes → StandsForPrefix initial (placed_files files) n bytes
  front_of done rest n bytes split enough (inl s) = record {
    first = placed_files done;
    rest = placed_files rest;
    split = placed_split done rest split;
    enough = omega (arith, enough, length-placed done);
    stands = s;
  }
  front_of done rest n bytes split enough (inr more) = record {
    first = placed_files (done ++ more.0 ∷ []);
    rest = placed_files more.1;
    split = placed_split (done ++ more.0 ∷ []) more.1 (split ∙ ap (λ (l : List NotedFile). done ++ l) more.2
        ∙ sym (append_assoc done (more.0 ∷ []) more.1));
    enough = omega (
      arith,
      enough,
      length-placed (done ++ more.0 ∷ []),
      length-append done (more.0 ∷ []),
    );
    stands = more.3;
  }

-- as many files are there as whole lines went out
module _ (initial : InitialShelf) (files whole rest : List NotedFile) (split : files ≡ whole ++ rest) where
  acknowledged : (first more : List NotedFile) (old new got text : List ℕ) → files ≡ first ++ more
      → new ≡ old ++ got → length got ≤ length (shelved_lines (length initial.way.entries) first)
      → new ≡ old ++ (shelved_lines (length initial.way.entries) whole ++ text) → length whole ≤ length first
  acknowledged first more old new got text known put le whole_put =
      no_more (length initial.way.entries) whole first rest more (sym split ∙ known)
      (omega (arith, le, no_longer old new got (shelved_lines (length initial.way.entries) whole) text put whole_put))

  all_there : length whole ≤ length files
  all_there = omega (arith, ap length split, length-append whole rest)

module _ {S D O : Type 0} (world : World S D O) (asked : ReceiveQuery) (initial : InitialShelf) (bytes : List ℕ)
    (w w' : Outside S D O) where
  -- where the last lines are to come, all files are there
  every : (n : ℕ) → n ≤ length (files_asked asked bytes)
      → HoldsStill initial (placed_files (files_asked asked bytes)) world.disk w'.disk
      → HoldsPrefix world.disk initial (placed_files (files_asked asked bytes)) n w'.disk
  every n enough durable = holds world.disk initial (files_asked asked bytes) w'.disk
      (files_asked asked bytes) [] n (sym (append-nil (files_asked asked bytes))) enough durable

  module _ (whole rest : List NotedFile) (text : List ℕ) (told : world.out.tells w.out)
      (split : files_asked asked bytes
      ≡ whole ++ rest) (put : world.out.contents w'.out ≡ world.out.contents w.out
      ++ (shelved_lines (length initial.way.entries) whole ++ text)) where
    enough_of : (first more : List NotedFile) (got : List ℕ) → files_asked asked bytes ≡ first ++ more
        → world.out.contents w'.out ≡ world.out.contents w.out ++ got
        → length got ≤ length (shelved_lines (length initial.way.entries) first) → length whole ≤ length first
    enough_of first more got known got_put le =
        acknowledged initial (files_asked asked bytes) whole rest split first more (world.out.contents w.out)
        (world.out.contents w'.out) got text known got_put le put

    every_one : HoldsStill initial (placed_files (files_asked asked bytes)) world.disk w'.disk
        → HoldsPrefix world.disk initial (placed_files (files_asked asked bytes)) (length whole) w'.disk
    every_one durable = every (length whole) (all_there initial (files_asked asked bytes) whole rest split)
        durable

    held_stopped : (cause : Cause)
        → StopsBy (world_outlets world) initial (files_asked asked bytes) cause (outlets_in w)
        (outlets_in w')
        → HoldsPrefix world.disk initial (placed_files (files_asked asked bytes)) (length whole) w'.disk
    held_stopped (Failed Disk) e =
        let enough = enough_of e.done e.rest (shelved_lines (length initial.way.entries) e.done) e.split (e.got told)
        (omega arith) in
        record {
          contents = front_of world.disk initial (files_asked asked bytes) w'.disk e.done e.rest (length whole)
              (world.disk.contents w'.disk) e.split enough e.contents;
          images = λ c image. front_of world.disk initial (files_asked asked bytes) w'.disk e.done e.rest
              (length whole) c e.split enough (e.images c image);
        }
    held_stopped (Failed Output) e =
        let cut = e.part told in
        let first = e.done ++ e.last ∷ [] in
        let line = noted_line (length initial.way.entries + length e.done) e.last in
        let got = shelved_lines (length initial.way.entries) e.done ++ cut.part in
        let le : length got ≤ length (shelved_lines (length initial.way.entries) first) = omega (
          arith,
          length-append (shelved_lines (length initial.way.entries) e.done) cut.part,
          cut.shorter,
          ap length (shelved_lines-push (length initial.way.entries) e.done e.last),
          length-append (shelved_lines (length initial.way.entries) e.done) line,
        ) in
        let put_is : world.out.contents w'.out ≡ world.out.contents w.out ++ got = cut.put
        ∙ append_assoc (world.out.contents w.out) (shelved_lines (length initial.way.entries) e.done) cut.part in
        holds world.disk initial (files_asked asked bytes) w'.disk first e.rest (length whole) e.split
        (enough_of first e.rest got e.split put_is le) e.durable
    held_stopped NoMemory e =
        let enough = enough_of e.done e.rest (shelved_lines (length initial.way.entries) e.done) e.split (e.got told)
        (omega arith) in
        holds world.disk initial (files_asked asked bytes) w'.disk e.done e.rest (length whole)
        e.split enough e.durable
    held_stopped (Refused (Capacity needed most)) e =
        let enough = enough_of e.done (e.next ∷ e.rest) (shelved_lines (length initial.way.entries) e.done) e.split
        (e.got told) (omega arith) in
        holds world.disk initial (files_asked asked bytes) w'.disk e.done (e.next ∷ e.rest) (length whole)
        e.split enough e.durable
    held_stopped _ e = absurd e

    held : (cause : Cause) → MayStop cause ⊎ IsWorkDone cause → EndsOnto world (run_of asked initial bytes) cause w w'
        → HoldsPrefix world.disk initial (placed_files (files_asked asked bytes)) (length whole)
        w'.disk
    held cause kind ends = ⊎_elim
        (λ may. ⊎_elim (held_stopped cause) (λ last. every_one last.2) (ends.stops (no_work cause may)))
        (λ done. every_one (ends.stands done)) kind

  -- a full shelf had no room for all
  not_full : (needed most : ℕ)
      → FullStops (world_outlets world) initial (files_asked asked bytes) needed most
      (outlets_in w) (outlets_in w')
      → HasRoom initial.way (placed_files (files_asked asked bytes)) → ⊥
  not_full needed most e fits =
      lacks_room initial.way (placed_files e.done) e.next.placed (placed_files e.rest)
      (subst (λ (l : List Placed). initial.way.capacity < end_with initial.way.end l)
      (placed-append e.done (e.next ∷ [])) e.over)
      (subst (HasRoom initial.way) (placed_split e.done (e.next ∷ e.rest) e.split) fits)

  complete : (cause : Cause) → MayStop cause ⊎ IsWorkDone cause → EndsOnto world (run_of asked initial bytes) cause w w'
      → CountsTell SourceBesides cause (counts_in world w) (counts_in world w') → NoFault world w w'
      → HasRoom initial.way (placed_files (files_asked asked bytes))
      → (cause ≡ Done) ⊎ (cause ≡ NoMemory)
  complete Done kind e first quiet fits = inl refl
  complete (Failed Source) kind e first quiet fits = absurd (quiet.of_source first.named)
  complete (Failed Disk) kind e first quiet fits = absurd (quiet.of_disk first.named)
  complete (Failed Output) kind e first quiet fits = absurd (quiet.of_out first.named)
  complete NoMemory kind e first quiet fits = inr refl
  complete (Refused (Capacity needed most)) kind e first quiet fits =
      ⊎_elim (λ full. absurd (not_full needed most full fits))
      (λ last. let no : Refused (Capacity needed most) ≡ Failed Output = last.0 in cc (no)) (e.stops (λ done. done))
  complete _ kind e first quiet fits = absurd (⊎_elim (λ (may : ⊥). may) (λ (done : ⊥). done) kind)

  pub receives : (cause : Cause) → LeavesPrefixes world.disk initial (placed_files
      (files_asked asked bytes)) w.disk w'.disk
      → MayStop cause ⊎ IsWorkDone cause → EndsOnto world (run_of asked initial bytes) cause w w'
      → CountsTell SourceBesides cause (counts_in world w) (counts_in world w')
      → Receives world (run_of asked initial bytes) cause w w'
  receives cause any_moment kind ends first = record {
    held = λ whole rest text told split put. held whole rest text told split put cause kind ends;
    any_moment = any_moment;
    stops = ends.stops;
    complete = complete cause kind ends first;
  }
