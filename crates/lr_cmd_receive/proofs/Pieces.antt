-- Files after files: what was shelved, and where shelving stopped.
use Rattle.std.proofs.Common.{◌≡◌, ◌⊎◌, ◌==◌, false, ℕ, ◌+◌, ◌-◌, ◌<◌, ◌≤◌, List, [], ◌∷◌, ◌++◌, map, length}
use Rattle.std.proofs.Common.{take, drop, get_or}
use Rattle.std.proofs.Common.{refl, sym, ◌∙◌, ap, subst, append_assoc, append-nil, inl, Result, Ok, Err, OnOk, IfErr}
use Rattle.std.proofs.Common.{arith, length-append}
use Rattle.std.specs.Prelude.{slice_get}
use Rattle.std.proofs.lemmas.List.{drop_all, take_more, take-append-drop}
use Rattle.lr_bits.specs.declared.outcome.Outcome.{Outcome}
use Rattle.lr_bits.specs.declared.placed.Placed.{Placed}
use Rattle.lr_bits.proofs.Telling.{tells_both, tells_still}
use Rattle.lr_io.specs.Pieces.{PutsPart}
use Rattle.lr_shelf.specs.Prefixes.{end_with}
use Rattle.lr_shelf_format.specs.Way.{Way}
use Rattle.lr_shelf.specs.Kept.{kept_by}
use Rattle.lr_shelf.specs.declared.shelf.Shelf.{Shelf}
use Rattle.lr_shelf.proofs.Staying.{outside_same}
use Rattle.lr_layers.specs.Origins.{fillers_in, mended_of_outcomes, placed_in}
use Rattle.lr_layers.specs.Standing.{AddsMarked, AddsMended, MendingLayersStandFor, KeptLayers}
use Rattle.lr_layers.specs.Starts.{Found}
use Rattle.lr_layers.proofs.GoingOn.{go_on}
use Rattle.lr_causes.specs.declared.cause.Cause.{Cause}
use Rattle.lr_causes.specs.declared.cause.Cause.TheVariants.{NoMemory}
use Rattle.lr_cmd_receive.specs.Noted.{NotedFile, noted_file, noted_of_outcomes, noted_where, noted_with}
use Rattle.lr_cmd_receive.specs.Noted.{placed_files}
use Rattle.lr_cmd_receive.specs.Shelving.{AreAcknowledged, Stops, StopsInLines, noted_line, shelved_lines}
use Rattle.lr_reading.specs.Arrivals.{HasWholeFrame}
use Rattle.lr_cmd_receive.specs.Onto.{ChangesFor, ChangesImagesFor}
use Rattle.lr_shelf.specs.Adding.{StaysOutside}
use Rattle.lr_cmd_receive.specs.Shelved.{AddsNotedFiles, Grows, GrowsNoMore, ShelvesSoFar, HasShelved, StopsShelving}
use Rattle.lr_cmd_receive.specs.Shelved.{Gains, GainsNoMore, shelf_in, one_more}
use Rattle.lr_cmd_receive.proofs.Acknowledging.{acknowledged_first, acknowledged_more}
use Rattle.lr_cmd_receive.proofs.Causing.{first_later}
use Rattle.lr_cmd_receive.proofs.Changing.{change_after, change_among, images_after, images_among, stays_after}
use Rattle.lr_cmd_receive.proofs.Noted.{mended_are, noted_at, noted_more, placed-append, plain-append, plain_noted}
use Rattle.lr_cmd_receive.proofs.ShelvedLines.{shelved_lines-append, shelved_lines-none}
use Rattle.lr_cmd_receive.proofs.WholeFrames.{with_outcome}
use Rattle.lr_cmd_receive.proofs.Growing.{grows_none, grows_on, stops_after, stops_before}
use Rattle.lr_cmd_receive.proofs.Shelving.{stops_more}
use Rattle.lr_cmd_receive.proofs.ShelvingOne.{no_line}
use Rattle.lr_causes.specs.Outside.{Outlets, OutletsOf}

module _ {D O : Type 0} (world : OutletsOf D O) where
  -- of two lists of files after one another
  changes_so : (xs ys : List NotedFile) (way : Way) (old new : List ℕ)
      → ChangesFor way (placed_files xs ++ placed_files ys) old new
      → ChangesFor way (placed_files (xs ++ ys)) old new
  changes_so xs ys way old new =
      subst (λ (l : List Placed). ChangesFor way l old new) (sym (placed-append xs ys))

  images_so : (xs ys : List NotedFile) (way : Way) (d d' : D)
      → (d' ≡ d) ⊎ ChangesImagesFor world.disk way (placed_files xs ++ placed_files ys) d d'
      → (d' ≡ d) ⊎ ChangesImagesFor world.disk way (placed_files (xs ++ ys)) d d'
  images_so xs ys way d d' = subst
      (λ (l : List Placed). (d' ≡ d) ⊎ ChangesImagesFor world.disk way l d d') (sym (placed-append xs ys))

  -- no file
  pub shelved_none : (shelf : Shelf) (w : Outlets D O) → HasShelved world [] (shelf_in shelf w) (shelf_in shelf w)
  shelved_none shelf w = record {
    tell = record {
      by_disk = tells_still;
      by_out = tells_still;
    };
    working = λ works. works;
    disk_count = refl;
    out_count = refl;
    shelved = λ initial done before so_far.
        subst (λ (l : List NotedFile). ShelvesSoFar world initial l before (shelf_in shelf w)) (sym (append-nil done))
        so_far;
    grown = grows_none shelf w;
    count = omega arith;
    put = λ t. sym (ap (λ (l : List ℕ). world.out.contents w.out ++ l)
        (shelved_lines-none (length (kept_by shelf).way.entries)) ∙ append-nil (world.out.contents w.out));
    outside = λ t. outside_same ((kept_by shelf).way.end - 1) (end_with (kept_by shelf).way.end [])
        (world.disk.contents w.disk) (world.disk.contents w.disk) refl;
    moments = λ t only. (only, inl refl);
  }

  module _ {xs : List NotedFile} {shelf shelf1 : Shelf} {w w1 : Outlets D O}
      (first : HasShelved world xs (shelf_in shelf w) (shelf_in shelf1 w1)) where
    -- the lines of files after theirs
    lines_on : (ys : List NotedFile) → world.out.tells w.out
        → world.out.contents w1.out ++ shelved_lines (length (kept_by shelf1).way.entries) ys
        ≡ world.out.contents w.out ++ shelved_lines (length (kept_by shelf).way.entries) (xs ++ ys)
    lines_on ys told =
        let number = length (kept_by shelf).way.entries in
        ap (λ (l : List ℕ). l ++ shelved_lines (length (kept_by shelf1).way.entries) ys) (first.put told)
        ∙ append_assoc (world.out.contents w.out) (shelved_lines number xs)
        (shelved_lines (length (kept_by shelf1).way.entries) ys)
        ∙ ap (λ (l : List ℕ). world.out.contents w.out ++ l)
        (ap (λ (n : ℕ). shelved_lines number xs ++ shelved_lines n ys) first.count
        ∙ sym (shelved_lines-append number xs ys))

    -- files after files
    pub shelved_on : {ys : List NotedFile} {shelf2 : Shelf} {w2 : Outlets D O}
        → HasShelved world ys (shelf_in shelf1 w1) (shelf_in shelf2 w2)
        → HasShelved world (xs ++ ys) (shelf_in shelf w) (shelf_in shelf2 w2)
    shelved_on {ys} {shelf2} {w2} next = record {
      tell = record {
        by_disk = tells_both first.tell.by_disk next.tell.by_disk;
        by_out = tells_both first.tell.by_out next.tell.by_out;
      };
      working = λ works. next.working (first.working works);
      disk_count = next.disk_count ∙ first.disk_count;
      out_count = next.out_count ∙ first.out_count;
      shelved = λ initial done before so_far.
          subst (λ (l : List NotedFile). ShelvesSoFar world initial l before (shelf_in shelf2 w2))
          (append_assoc done xs ys)
          (next.shelved initial (done ++ xs) before (first.shelved initial done before so_far));
      grown = subst (λ (l : List Placed). Grows l (shelf_in shelf w) (shelf_in shelf2 w2)) (sym (placed-append xs ys))
          (grows_on first.grown next.grown);
      count = omega (arith, next.count, first.count, length-append xs ys);
      put = λ t. next.put (first.tell.by_out.told t) ∙ lines_on ys t;
      outside = λ t.
          subst (λ (l : List Placed). StaysOutside ((kept_by shelf).way.end - 1) (end_with (kept_by shelf).way.end l)
          (world.disk.contents w.disk) (world.disk.contents w2.disk)) (sym (placed-append xs ys))
          (stays_after (kept_by shelf).way (kept_by shelf1).way (placed_files xs) (world.disk.contents w.disk)
          (world.disk.contents w1.disk) (world.disk.contents w2.disk) first.grown.ends (first.outside t)
          (placed_files ys) (next.outside (first.tell.by_disk.told t)));
      moments = λ t only.
          let one = first.moments t only in
          let two = next.moments (first.tell.by_disk.told t) one.0 in (
            two.0,
            images_so xs ys (kept_by shelf).way w.disk w2.disk
                (images_after world.disk (kept_by shelf).way (kept_by shelf1).way (placed_files xs) (placed_files ys)
                w.disk w1.disk w2.disk first.grown.ends first.grown.same first.grown.room (first.outside t) one.1
                two.1),
          );
    }

    -- and a part of one more
    lines_after : {cause : Cause} {ys : List NotedFile} {o2 : O}
        → StopsInLines world.out cause (length (kept_by shelf1).way.entries) ys w1.out o2
        → StopsInLines world.out cause (length (kept_by shelf).way.entries) (xs ++ ys) w.out o2
    lines_after {cause} {ys} {o2} next =
        let number = length (kept_by shelf).way.entries in
        let number1 = length (kept_by shelf1).way.entries in
        let done = next.done in
        record {
          done = xs ++ done;
          rest = next.rest;
          split = ap (λ (l : List NotedFile). xs ++ l) next.split ∙ sym (append_assoc xs done next.rest);
          got = λ other t. next.got other (first.tell.by_out.told t) ∙ lines_on done t;
          cut = λ is.
              let cut = next.cut is in
              let there : number1 + length done ≡ number + length (xs ++ done) =
              omega (arith, first.count, length-append xs done) in
              record {
                next = cut.next;
                later = cut.later;
                split = cut.split;
                part = λ t.
                    subst (λ (l : List ℕ). PutsPart (noted_line (number + length (xs ++ done)) cut.next) l
                    (world.out.contents o2)) (lines_on done t)
                    (subst (λ (k : ℕ). PutsPart (noted_line k cut.next)
                    (world.out.contents w1.out ++ shelved_lines number1 done) (world.out.contents o2)) there
                    (cut.part (first.tell.by_out.told t)));
              };
        }

    -- shelving stopped after files
    pub stopped_after : {cause : Cause} {ys : List NotedFile} {w2 : Outlets D O}
        → StopsShelving world cause ys (shelf_in shelf1 w1) w2
        → StopsShelving world cause (xs ++ ys) (shelf_in shelf w) w2
    stopped_after {cause} {ys} {w2} stopped = record {
      kind = stopped.kind;
      tell = record {
        by_disk = tells_both first.tell.by_disk stopped.tell.by_disk;
        by_out = tells_both first.tell.by_out stopped.tell.by_out;
      };
      first = λ works. first_later cause 0 0 (world.disk.faults w.disk) (world.disk.faults w1.disk)
          (world.disk.faults w2.disk) (world.out.faults w.out) (world.out.faults w1.out)
          (world.out.faults w2.out) first.disk_count first.out_count (stopped.first (first.working works));
      stops = λ initial done before so_far.
          subst (λ (l : List NotedFile). Stops world initial l cause before w2) (append_assoc done xs ys)
          (stopped.stops initial (done ++ xs) before (first.shelved initial done before so_far));
      keeps = λ initial done before so_far.
          subst (λ (l : List NotedFile). AreAcknowledged world initial l done before w2)
          (append_assoc done xs ys)
          (acknowledged_first world initial done xs
          (stopped.keeps initial (done ++ xs) before (first.shelved initial done before so_far)));
      grown = subst (λ (l : List Placed). GrowsNoMore cause l (shelf_in shelf w) w2) (sym (placed-append xs ys))
          (stops_after first.grown stopped.grown);
      lines = lines_after stopped.lines;
      outside = λ t.
          changes_so xs ys (kept_by shelf).way (world.disk.contents w.disk) (world.disk.contents w2.disk)
          (change_after (kept_by shelf).way (kept_by shelf1).way (placed_files xs) (world.disk.contents w.disk)
          (world.disk.contents w1.disk) (world.disk.contents w2.disk) first.grown.ends (first.outside t)
          (placed_files ys) first.grown.same first.grown.room (stopped.outside (first.tell.by_disk.told t)));
      moments = λ t only.
          let one = first.moments t only in
          images_so xs ys (kept_by shelf).way w.disk w2.disk
          (images_after world.disk (kept_by shelf).way (kept_by shelf1).way (placed_files xs) (placed_files ys) w.disk
          w1.disk w2.disk first.grown.ends first.grown.same first.grown.room (first.outside t) one.1
          (stopped.moments (first.tell.by_disk.told t) one.0));
    }

  lines_before : {cause : Cause} {number : ℕ} {xs : List NotedFile} (ys : List NotedFile) {o o' : O}
      → StopsInLines world.out cause number xs o o' → StopsInLines world.out cause number (xs ++ ys) o o'
  lines_before ys lines = record {
    done = lines.done;
    rest = lines.rest ++ ys;
    split = ap (λ (l : List NotedFile). l ++ ys) lines.split ∙ append_assoc lines.done lines.rest ys;
    got = lines.got;
    cut = λ is.
        let cut = lines.cut is in
        record {
          next = cut.next;
          later = cut.later ++ ys;
          split = ap (λ (l : List NotedFile). l ++ ys) cut.split;
          part = cut.part;
        };
  }

  -- it stopped before more of them
  pub stopped_before : {cause : Cause} {xs : List NotedFile} (ys : List NotedFile) {shelf : Shelf} {w w' : Outlets D O}
      → StopsShelving world cause xs (shelf_in shelf w) w' → StopsShelving world cause (xs ++ ys) (shelf_in shelf w) w'
  stopped_before {cause} {xs} ys {shelf} {w} {w'} stopped = record {
    kind = stopped.kind;
    tell = stopped.tell;
    first = stopped.first;
    stops = λ initial done before so_far.
        subst (λ (l : List NotedFile). Stops world initial l cause before w') (append_assoc done xs ys)
        (stops_more world initial before w' (done ++ xs) ys cause (stopped.stops initial done before so_far));
    keeps = λ initial done before so_far.
        subst (λ (l : List NotedFile). AreAcknowledged world initial l done before w')
        (append_assoc done xs ys)
        (acknowledged_more world initial ys (stopped.keeps initial done before so_far));
    grown = subst (λ (l : List Placed). GrowsNoMore cause l (shelf_in shelf w) w') (sym (placed-append xs ys))
        (stops_before (placed_files ys) stopped.grown);
    lines = lines_before ys stopped.lines;
    outside = λ t.
        changes_so xs ys (kept_by shelf).way (world.disk.contents w.disk) (world.disk.contents w'.disk)
        (change_among (kept_by shelf).way (placed_files xs) (placed_files ys) (world.disk.contents w.disk)
        (world.disk.contents w'.disk) (stopped.outside t));
    moments = λ t only.
        images_so xs ys (kept_by shelf).way w.disk w'.disk
        (images_among world.disk (kept_by shelf).way (placed_files xs) (placed_files ys) w.disk w'.disk
        (stopped.moments t only));
  }

  -- ---- the files of a list, one after another
  module _ (xs : List NotedFile) (i : ℕ) {shelf shelf1 : Shelf} {w w1 : Outlets D O}
      (first : HasShelved world (take i xs) (shelf_in shelf w) (shelf_in shelf1 w1)) where
    pub all_shelved : length xs ≤ i → HasShelved world xs (shelf_in shelf w) (shelf_in shelf1 w1)
    all_shelved past =
        let all : take i xs ≡ xs =
        sym (append-nil (take i xs)) ∙ ap (λ (l : List NotedFile). take i xs ++ l) (sym (drop_all i xs past))
        ∙ take-append-drop i xs in
        subst (λ (l : List NotedFile). HasShelved world l (shelf_in shelf w) (shelf_in shelf1 w1)) all first

    module _ (x : NotedFile) (inside : i < length xs) (is : x ≡ get_or xs i x) where
      taken : take (i + 1) xs ≡ take i xs ++ x ∷ []
      taken = take_more xs i x inside ∙ ap (λ (y : NotedFile). take i xs ++ y ∷ []) (sym is)

      pub one_file_more : {shelf2 : Shelf} {w2 : Outlets D O}
          → HasShelved world (x ∷ []) (shelf_in shelf1 w1) (shelf_in shelf2 w2)
          → HasShelved world (take (i + 1) xs) (shelf_in shelf w) (shelf_in shelf2 w2)
      one_file_more {shelf2} {w2} next =
          subst (λ (l : List NotedFile). HasShelved world l (shelf_in shelf w) (shelf_in shelf2 w2)) (sym taken)
          (shelved_on first next)

      pub one_stopped : {cause : Cause} {w2 : Outlets D O} → StopsShelving world cause (x ∷ []) (shelf_in shelf1 w1) w2
          → StopsShelving world cause xs (shelf_in shelf w) w2
      one_stopped {cause} {w2} stopped =
          let all : (take i xs ++ x ∷ []) ++ drop (i + 1) xs ≡ xs =
          ap (λ (l : List NotedFile). l ++ drop (i + 1) xs) (sym taken) ∙ take-append-drop (i + 1) xs in
          subst (λ (l : List NotedFile). StopsShelving world cause l (shelf_in shelf w) w2) all
          (stopped_before (drop (i + 1) xs) (stopped_after first stopped))

  -- ---- the files of one outcome
  module _ (mend : ℕ) (outcomes : List Outcome) (outcome : Outcome) (new : List NotedFile)
      (adds : AddsNotedFiles (one_more mend outcomes outcome) new) (shelf : Shelf) (w w' : Outlets D O) where
    pub gained : {E : Type 0} (shelf' : Shelf) (result : Result (Unit {0}) E)
        → OnOk result (HasShelved world new (shelf_in shelf w) (shelf_in shelf' w'))
        → OnOk result (Gains world (one_more mend outcomes outcome) (shelf_in shelf w) (shelf_in shelf' w'))
    gained shelf' (Ok done) shelved = record { more = new; files = adds; shelved = shelved }
    gained shelf' (Err e) shelved = tt

    pub gained_some : (result : Result (Unit {0}) Cause)
        → IfErr result (λ cause. StopsShelving world cause new (shelf_in shelf w) w')
        → IfErr result (λ cause. GainsNoMore world cause (one_more mend outcomes outcome) (shelf_in shelf w) w')
    gained_some (Ok done) stopped = tt
    gained_some (Err e) stopped = record { more = new; files = adds; stopped = stopped }

  -- the layers had no memory for it
  pub gained_none : (mend : ℕ) (outcomes : List Outcome) (outcome : Outcome) (kept : KeptLayers)
      → MendingLayersStandFor mend kept outcomes → HasWholeFrame outcome → (shelf : Shelf) (w : Outlets D O)
      → GainsNoMore world NoMemory (one_more mend outcomes outcome) (shelf_in shelf w) w
  gained_none mend outcomes outcome kept stands whole shelf w =
      let law = go_on mend outcomes (outcome ∷ []) (with_outcome outcomes outcome stands.channels.frames whole) in
      let more = map (noted_where mend) law.more_marked in
      record {
        more = more;
        files = noted_more mend outcomes (outcome ∷ []) law.more_marked law.marked;
        stopped =
            no_line world more shelf w;
      }

-- ---- the files that the layers give for one outcome more

module _ {E : Type 0} (mend : ℕ) (outcomes : List Outcome) (outcome : Outcome) where
  -- with their fillers
  pub marked_add : (old new : Found) → old.files ≡ [] → old.fillers ≡ [] → (mend == 0) ≡ false
      → (result : Result (Unit {0}) E) → OnOk result (AddsMarked mend outcomes outcome old new)
      → OnOk result (AddsNotedFiles (one_more mend outcomes outcome) (noted_with new.files new.fillers))
  marked_add old new no_files no_fillers mends (Ok done) adds =
      let files : new.files ≡ map placed_in adds.more =
      adds.files ∙ ap (λ (l : List Placed). l ++ map placed_in adds.more) no_files in
      let fillers : new.fillers ≡ map fillers_in adds.more =
      adds.fillers ∙ ap (λ (l : List ℕ). l ++ map fillers_in adds.more) no_fillers in
      noted_more mend outcomes (outcome ∷ []) adds.more adds.all
      ∙ ap (λ (l : List NotedFile). noted_of_outcomes mend outcomes ++ l)
      (mended_are mend adds.more mends ∙ ap (λ (l : List Placed). noted_with l (map fillers_in adds.more)) (sym files)
      ∙ ap (noted_with new.files) (sym fillers))
  marked_add old new no_files no_fillers mends (Err e) adds = tt

  -- without them
  pub plain_add : (old new : List Placed) (fillers : List ℕ) → old ≡ [] → fillers ≡ [] → mend ≡ 0
      → (result : Result (Unit {0}) E) → OnOk result (AddsMended mend outcomes outcome old new)
      → OnOk result (AddsNotedFiles (one_more mend outcomes outcome) (noted_with new fillers))
  plain_add old new fillers no_files no_fillers none (Ok done) adds =
      subst (λ (n : ℕ). AddsNotedFiles (one_more n outcomes outcome) (noted_with new fillers)) (sym none)
      (plain (subst (λ (n : ℕ). AddsMended n outcomes outcome old new) none adds))
    where
      plain : AddsMended 0 outcomes outcome old new → AddsNotedFiles (one_more 0 outcomes outcome)
          (noted_with new fillers)
      plain adds =
          let files : new ≡ adds.more = adds.added ∙ ap (λ (l : List Placed). l ++ adds.more) no_files in
          plain_noted (outcomes ++ outcome ∷ []) ∙ ap (λ (l : List Placed). noted_with l []) adds.files
          ∙ plain-append (mended_of_outcomes 0 outcomes) adds.more
          ∙ ap (λ (l : List NotedFile). l ++ noted_with adds.more []) (sym (plain_noted outcomes))
          ∙ ap (λ (l : List NotedFile). noted_of_outcomes 0 outcomes ++ l)
          (ap (λ (l : List Placed). noted_with l []) (sym files) ∙ ap (noted_with new) (sym no_fillers))
  plain_add old new fillers no_files no_fillers none (Err e) adds = tt

-- ---- files and numbers of fillers side by side

-- the next one of them
pub noted_next : (files : List Placed) (fillers : List ℕ) (i : ℕ) (placed : Placed) → i < length files
    → placed ≡ get_or files i placed → noted_file placed (slice_get fillers i)
    ≡ get_or (noted_with files fillers) i (noted_file placed (slice_get fillers i))
noted_next files fillers i placed inside is =
    noted_at files fillers i placed (noted_file placed (slice_get fillers i)) inside is
