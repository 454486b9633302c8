-- What the shelving of one outcome comes to: its file is appended and told, or why not.
use Rattle.std.proofs.Common.{◌≡◌, inl, inr, ◌+◌, ◌-◌, ◌≤◌, ◌<◌, ℕ, List, [], ◌∷◌, ◌++◌, length, min, refl, sym}
use Rattle.std.proofs.Common.{◌∙◌, ap, subst, arith, append_assoc, append-nil, length-append}
use Rattle.std.proofs.Common.{⊎_elim, Option, Result, Ok, Err, OnOk}
use Rattle.std.proofs.lemmas.Bool.{cases_lt}
use Rattle.lr_bits.specs.declared.placed.Placed.{Placed}
use Rattle.lr_bits.specs.Sizes.{most_u64}
use Rattle.lr_bits.proofs.Telling.{tells_still}
use Rattle.lr_io.specs.declared.sink.Sink.{Ghosts as SinkOf}
use Rattle.lr_disk.specs.declared.disk.Disk.{Ghosts as DiskOf}
use Rattle.lr_disk.specs.Pending.{EachImageSince}
use Rattle.lr_disk.proofs.Moments.{weaker}
use Rattle.lr_shelf_format.specs.Items.{IsItem, Item}
use Rattle.lr_shelf.specs.Adding.{StaysOutside}
use Rattle.lr_shelf.specs.Adds.{new_end}
use Rattle.lr_shelf.specs.Append.{Appends, IsAppendRefusal, item_for}
use Rattle.lr_shelf.specs.Calls.{IsFaultCounted}
use Rattle.lr_shelf.specs.Kept.{KeptShelf, kept_by, shelf_on}
use Rattle.lr_shelf.specs.declared.shelf.Shelf.{Shelf}
use Rattle.lr_shelf.specs.declared.error.ShelfError.{ShelfError}
use Rattle.lr_shelf.specs.declared.error.ShelfError.TheVariants.{Disk as Disk'}
use Rattle.lr_shelf.specs.declared.error.ShelfError.TheVariants.{Capacity as Capacity'}
use Rattle.lr_shelf.specs.declared.error.ShelfError.TheVariants.{NoMemory as NoMemory'}
use Rattle.lr_shelf.specs.declared.error.ShelfError.TheVariants.{Failed as Failed'}
use Rattle.lr_causes.specs.declared.cause.Cause.{Cause}
use Rattle.lr_causes.specs.declared.cause.Cause.TheVariants.{Failed, NoMemory}
use Rattle.lr_causes.specs.declared.cause.Party.TheVariants.{Disk, Output}
use Rattle.lr_refusals.specs.Errors.{cause_of}
use Rattle.lr_causes.specs.Puts.{GotText, PutFails, Puts}
use Rattle.lr_shelf.specs.InitialShelves.{InitialShelf, IsSettledOn, StandsWith, StandsWithEither}
use Rattle.lr_shelf.specs.Prefixes.{HasRoom, end_with}
use Rattle.lr_cmd_receive.specs.Onto.{ChangesImagesFor}
use Rattle.lr_cmd_receive.specs.Noted.{NotedFile, noted_file, placed_files}
use Rattle.lr_cmd_receive.specs.Shelving.{StopsInLines, noted_line, shelved_lines}
use Rattle.lr_cmd_receive.specs.Shelved.{ShelvesSoFar, HasShelved, StopsShelving, Grows, GrowsNoMore, shelf_in}
use Rattle.lr_cmd_receive.proofs.Acknowledging.{either_acknowledged, lines_alone, still_acknowledged}
use Rattle.lr_cmd_receive.proofs.Causing.{append_works, first_out, first_refused, first_stays}
use Rattle.lr_cmd_receive.proofs.Changing.{change_for, no_change}
use Rattle.lr_shelf.proofs.InitialShelves.{left_on, moments_on, now_on, settled_on}
use Rattle.lr_cmd_receive.proofs.Growing.{grows_one, stops_at_one, stops_for_memory}
use Rattle.lr_cmd_receive.proofs.Noted.{length-placed, placed-append}
use Rattle.lr_cmd_receive.proofs.ShelvedLines.{shelved_lines-cons, shelved_lines-none}
use Rattle.lr_causes.specs.Outside.{outlets, outlets_of, Outlets, OutletsOf}
use Rattle.lr_cmd_receive.proofs.Shelving.{append_kind, out_of_memory, append_stopped, line_put, line_stopped}

-- ---- the append itself

-- the disk's count stayed at `Ok`
pub same_of : {D A : Type 0} (disk : DiskOf D) (d d' : D) (result : Result A ShelfError) (answer : A)
    → result ≡ Ok answer → IsFaultCounted (disk.faults d) (disk.faults d') result → disk.faults d' ≡ disk.faults d
same_of {D = D} {A = A} disk d d' result answer is counted =
    subst (λ (r : Result A ShelfError). IsFaultCounted (disk.faults d) (disk.faults d') r) is counted

module _ {D O : Type 0} (disk : DiskOf D) (placed : Placed) (shelf shelf' : Shelf) (d d' : D) (o : O)
    (result : Result ℕ ShelfError) (appends : Appends disk placed (shelf_on shelf d) (shelf_on shelf' d') result) where
  -- the file had room
  pub appended : (answer : ℕ) → result ≡ Ok answer → (o' : O)
      → Grows (placed ∷ []) (shelf_in shelf (outlets d o)) (shelf_in shelf' (outlets d' o'))
  appended answer is o' =
      grows_one placed shelf shelf' (outlets d o) (outlets d' o') (at_ok appends.adds.kept)
      (⊎_elim (λ over. absurd (refused over)) (λ fits. omega (arith, fits))
      (cases_lt (kept_by shelf).way.capacity (new_end (item_for placed) (kept_by shelf))))
    where
      at_ok : {P : Type 0} → OnOk result P → P
      at_ok {P} p = subst (λ (r : Result ℕ ShelfError). OnOk r P) is p

      refused : (kept_by shelf).way.capacity < new_end (item_for placed) (kept_by shelf) → ⊥
      refused over =
          let no = appends.full (at_ok appends.adds.working) over in
          cc (is, no)

  -- it had none, or the append stopped for another cause
  pub not_appended : (e : ShelfError) → IsAppendRefusal (item_for placed) (kept_by shelf) e
      → GrowsNoMore (cause_of e) (placed ∷ []) (shelf_in shelf (outlets d o)) (outlets d' o)
  not_appended (Capacity' needed most) refusal = record {
    full = λ needed' most' is.
        let same_needed : needed ≡ needed' = cc (is) in
        let same_most : most ≡ most' = cc (is) in
        let there : end_with (kept_by shelf).way.end (placed ∷ []) ≡ new_end (item_for placed) (kept_by shelf) =
        omega arith in
        record {
          done = [];
          next = placed;
          rest = [];
          split = refl;
          room = inl refl;
          over = omega (arith, there, refusal.1);
          needs = sym same_needed ∙ refusal.2 ∙ ap (λ (n : ℕ). min n most_u64) (sym there);
          of = sym same_most ∙ refusal.3;
        };
    none = λ is. cc (is);
  }
  not_appended Disk' refusal =
      stops_at_one (Failed Disk) placed shelf (outlets d o) (outlets d' o) (λ needed most is. cc (is))
  not_appended NoMemory' refusal =
      stops_at_one NoMemory placed shelf (outlets d o) (outlets d' o) (λ needed most is. cc (is))
  not_appended Failed' refusal =
      stops_at_one (Failed Disk) placed shelf (outlets d o) (outlets d' o) (λ needed most is. cc (is))
  not_appended _ refusal = absurd refusal

-- nothing was put
pub nothing_got : {O : Type 0} (out : SinkOf O) (number : ℕ) (o : O) → GotText out (shelved_lines number []) o o
nothing_got out number o told =
    sym (ap (λ (l : List ℕ). out.contents o ++ l) (shelved_lines-none number) ∙ append-nil (out.contents o))

-- `out` wasn't called
pub no_lines : {O : Type 0} (out : SinkOf O) (cause : Cause) (number : ℕ) (files : List NotedFile) (o : O)
    → (cause ≡ Failed Output → ⊥) → StopsInLines out cause number files o o
no_lines out cause number files o other = record {
  done = [];
  rest = files;
  split = refl;
  got = λ not_out. nothing_got out number o;
  cut = λ is. absurd (other is);
}

-- ---- one file

-- the append never stops for `out`
not_output : (item : Item) (kept : KeptShelf) (e : ShelfError) → IsAppendRefusal item kept e
    → cause_of e ≡ Failed Output → ⊥
not_output item kept Disk' refusal is = let same : Disk ≡ Output = cc (is) in cc (same)
not_output item kept (Capacity' needed most) refusal is = cc (is)
not_output item kept NoMemory' refusal is = cc (is)
not_output item kept Failed' refusal is = let same : Disk ≡ Output = cc (is) in cc (same)
not_output item kept _ refusal is = absurd refusal

-- what stays outside of its item
outside_one : (placed : Placed) (shelf : Shelf) (old new : List ℕ)
    → StaysOutside ((kept_by shelf).way.end - 1) (new_end (item_for placed) (kept_by shelf)) old new
    → StaysOutside ((kept_by shelf).way.end - 1) (end_with (kept_by shelf).way.end (placed ∷ [])) old new
outside_one placed shelf old new stays =
    let there : new_end (item_for placed) (kept_by shelf) ≡ end_with (kept_by shelf).way.end (placed ∷ []) =
    omega arith in
    subst (λ (n : ℕ). StaysOutside ((kept_by shelf).way.end - 1) n old new) there stays

-- the same at each moment, where there is room for it
images_one : {D : Type 0} (disk : DiskOf D) (placed : Placed) (shelf : Shelf) (d d' : D)
    → HasRoom (kept_by shelf).way (placed ∷ [])
    → EachImageSince disk d d'
    (StaysOutside ((kept_by shelf).way.end - 1) (new_end (item_for placed) (kept_by shelf)) (disk.contents d))
    → ChangesImagesFor disk (kept_by shelf).way (placed ∷ []) d d'
images_one disk placed shelf d d' room run =
    weaker disk.moment disk.left_since d d' _ _
    (λ c stays.
    change_for (kept_by shelf).way (placed ∷ []) (disk.contents d) c room
    (outside_one placed shelf (disk.contents d) c stays)) run

-- there was no memory for its line
pub no_line : {D O : Type 0} (world : OutletsOf D O) (files : List NotedFile) (shelf : Shelf) (w : Outlets D O)
    → StopsShelving world NoMemory files (shelf_in shelf w) w
no_line world files shelf w = record {
  kind = tt;
  tell = record {
    by_disk = tells_still;
    by_out = tells_still;
  };
  first = λ works. first_stays NoMemory 0 0 (world.disk.faults w.disk) (world.disk.faults w.disk)
      (world.out.faults w.out) (world.out.faults w.out) tt tt refl refl;
  stops = λ initial done before so_far. out_of_memory world initial done shelf before w so_far files;
  keeps = λ initial done before so_far. still_acknowledged world initial done files before w so_far.settled.on_disk
      (lines_alone world initial done before w so_far.put.put);
  grown = stops_for_memory (placed_files files) shelf w;
  lines = no_lines world.out NoMemory (length (kept_by shelf).way.entries) files w.out (λ is. cc (is));
  outside = λ t.
      no_change (kept_by shelf).way (placed_files files) (world.disk.contents w.disk) (world.disk.contents w.disk) refl;
  moments = λ t only. inl refl;
}

module _ {D O : Type 0} (disk : DiskOf D)
    (leaves_contents : (d : D) → disk.tells d → disk.may_leave d (disk.contents d))
    (counts_now : (d : D) (t : ℕ) (c : List ℕ) → disk.tells d → t ≤ disk.moment d → disk.may_leave d c
    → disk.left_since d t c)
    (out : SinkOf O) (placed : Placed) (is_item : IsItem (item_for placed)) (fillers : Option ℕ)
    (shelf shelf' : Shelf) (d d' : D) (o : O) where
  abbrev noted : NotedFile
  noted = noted_file placed fillers

  -- it wasn't appended
  pub one_refused : (e : ShelfError) → Appends disk placed (shelf_on shelf d) (shelf_on shelf' d') (Err e)
      → StopsShelving (outlets_of disk out) (cause_of e) (noted ∷ []) (shelf_in shelf (outlets d o)) (outlets d' o)
  one_refused e appends =
      let adds = appends.adds in
      record {
        kind = append_kind (item_for placed) (kept_by shelf) e appends.refused;
        tell = record {
          by_disk = adds.calls.tell;
          by_out = tells_still;
        };
        first = λ works. first_refused {A = ℕ} e (Err e) 0 0 (disk.faults d) (disk.faults d') (out.faults o) refl
            (append_works (item_for placed) (kept_by shelf) e appends.refused works) adds.calls.counted;
        stops = λ initial done before so_far.
            let settled = so_far.settled in
            append_stopped (outlets_of disk out) initial done shelf before (outlets d o) so_far noted d'
            (moments_on disk leaves_contents counts_now (placed_files done) placed is_item shelf shelf' d d'
            (Err e) adds initial settled)
            e is_item
            (now_on disk leaves_contents counts_now (placed_files done) placed is_item shelf shelf' d d'
            (Err e) adds initial settled)
            (left_on disk leaves_contents counts_now (placed_files done) placed is_item shelf shelf' d d'
            (Err e) adds initial settled)
            (λ other. ⊎_elim (λ is. absurd (other is)) (λ same. same.0) adds.untouched)
            appends.refused;
        keeps = λ initial done before so_far.
            let settled = so_far.settled in
            either_acknowledged (outlets_of disk out) initial done noted before (outlets d' o)
            (now_on disk leaves_contents counts_now (placed_files done) placed is_item shelf shelf' d d'
            (Err e) adds initial settled)
            (left_on disk leaves_contents counts_now (placed_files done) placed is_item shelf shelf' d d'
            (Err e) adds initial settled)
            (lines_alone (outlets_of disk out) initial done before (outlets d' o) so_far.put.put);
        grown = not_appended disk placed shelf shelf' d d' o (Err e) appends e appends.refused;
        lines = no_lines out (cause_of e) (length (kept_by shelf).way.entries) (noted ∷ []) o
            (not_output (item_for placed) (kept_by shelf) e appends.refused);
        outside = λ t. ⊎_elim
            (λ failed.
            let refusal : IsAppendRefusal (item_for placed) (kept_by shelf) Disk' =
            subst (IsAppendRefusal (item_for placed) (kept_by shelf)) failed appends.refused in
            change_for (kept_by shelf).way (placed ∷ []) (disk.contents d) (disk.contents d')
            (inr (omega (arith, refusal.1))) (outside_one placed shelf (disk.contents d) (disk.contents d')
            (adds.outside t)))
            (λ same.
            no_change (kept_by shelf).way (placed ∷ []) (disk.contents d) (disk.contents d')
            (ap disk.contents same.0))
            adds.untouched;
        moments = λ t only. ⊎_elim
            (λ failed.
            let refusal : IsAppendRefusal (item_for placed) (kept_by shelf) Disk' =
            subst (IsAppendRefusal (item_for placed) (kept_by shelf)) failed appends.refused in
            inr (images_one disk placed shelf d d' (inr (omega (arith, refusal.1)))
            (adds.outside_any_moment t only)))
            (λ same. inl same.0)
            adds.untouched;
      }

  -- it was
  module _ (number : ℕ) (appends : Appends disk placed (shelf_on shelf d) (shelf_on shelf' d') (Ok number)) (n : ℕ)
      (text : List ℕ)
      (place : n ≡ length (kept_by shelf).way.entries) (is : text ≡ noted_line n noted) (o' : O) where
    module _ (initial : InitialShelf) (done : List NotedFile) (before : Outlets D O)
        (so_far : ShelvesSoFar (outlets_of disk out) initial done before (shelf_in shelf (outlets d o))) where
      settled_now : IsSettledOn initial (placed_files (done ++ noted ∷ [])) disk shelf' d'
      settled_now =
          subst (λ (l : List Placed). IsSettledOn initial l disk shelf' d') (sym (placed-append done (noted ∷ [])))
          (settled_on disk leaves_contents counts_now (placed_files done) placed is_item shelf shelf' d d' number
          appends.adds
          initial so_far.settled)

      run : EachImageSince disk d d' (StandsWithEither initial (placed_files done) placed)
      run =
          moments_on disk leaves_contents counts_now (placed_files done) placed is_item shelf shelf' d d'
          (Ok number) appends.adds initial
          so_far.settled

    -- and its line was put
    pub one_shelved : Puts out text o o'
        → HasShelved (outlets_of disk out) (noted ∷ []) (shelf_in shelf (outlets d o))
        (shelf_in shelf' (outlets d' o'))
    one_shelved put = record {
      tell = record {
        by_disk = appends.adds.calls.tell;
        by_out = put.tell;
      };
      working = λ works. ap (λ (k : KeptShelf). k.failed) appends.adds.kept ∙ works;
      disk_count = appends.adds.calls.counted;
      out_count = put.kept;
      shelved = λ initial done before so_far.
          line_put (outlets_of disk out) initial done shelf before (outlets d o) so_far noted
          d' (run initial done before so_far) shelf'
          (settled_now initial done before so_far) n text place is o' appends.adds.calls.counted put;
      grown = appended disk placed shelf shelf' d d' o (Ok number) appends number refl o';
      count = ap (λ (k : KeptShelf). length k.way.entries) appends.adds.kept
          ∙ length-append (kept_by shelf).way.entries (_ ∷ []);
      put = λ t. put.put t ∙ ap (λ (l : List ℕ). out.contents o ++ l) one_line;
      outside = λ t.
          outside_one placed shelf (disk.contents d) (disk.contents d') (appends.adds.outside t);
      moments = λ t only. (
        appends.adds.durable t,
        inr (images_one disk placed shelf d d'
            (appended disk placed shelf shelf' d d' o (Ok number) appends number refl o').room
            (appends.adds.outside_any_moment t only)),
      );
    }
      where
        one_line : text ≡ shelved_lines (length (kept_by shelf).way.entries) (noted ∷ [])
        one_line =
            is ∙ ap (λ (k : ℕ). noted_line k noted) place
            ∙ sym (append-nil (noted_line (length (kept_by shelf).way.entries) noted))
            ∙ ap (λ (l : List ℕ). noted_line (length (kept_by shelf).way.entries) noted ++ l)
            (sym (shelved_lines-none (length (kept_by shelf).way.entries + 1)))
            ∙ sym (shelved_lines-cons (length (kept_by shelf).way.entries) noted [])

    -- and a part of its line
    pub one_cut : PutFails out text o o'
        → StopsShelving (outlets_of disk out) (Failed Output) (noted ∷ []) (shelf_in shelf (outlets d o))
        (outlets d' o')
    one_cut fails = record {
      kind = tt;
      tell = record {
        by_disk = appends.adds.calls.tell;
        by_out = fails.tell;
      };
      first = λ works. first_out 0 0 (disk.faults d) (disk.faults d') (out.faults o) (out.faults o') fails.rose
          appends.adds.calls.counted;
      stops = λ initial done before so_far.
          line_stopped (outlets_of disk out) initial done shelf before (outlets d o) so_far
          noted d' (run initial done before so_far) shelf'
          (settled_now initial done before so_far) n text place is o' fails;
      keeps = λ initial done before so_far.
          let both = placed_files (done ++ noted ∷ []) in
          let size : length done ≤ length both = omega (
            arith,
            length-placed (done ++ noted ∷ []),
            length-append done (noted ∷ []),
          ) in
          let lines = shelved_lines (length initial.way.entries) done in
          let still = (settled_now initial done before so_far).on_disk in record {
            others = noted ∷ [];
            split = refl;
            held = record {
              contents = record {
                first = both;
                rest = [];
                split = sym (append-nil both);
                enough = size;
                stands = still.stands;
              };
              images = λ c image. record {
                first = both;
                rest = [];
                split = sym (append-nil both);
                enough = size;
                stands = subst (StandsWith initial both) (sym (still.durable c image)) still.stands;
              };
            };
            told = λ t.
                let cut = fails.part (so_far.put.tell.told t) in (
                  cut.part,
                  cut.put ∙ ap (λ (l : List ℕ). l ++ cut.part) (so_far.put.put t)
                      ∙ append_assoc (out.contents before.out) lines cut.part,
                );
          };
      grown = stops_at_one (Failed Output) placed shelf (outlets d o) (outlets d' o') (λ needed most is. cc (is));
      lines =
          let number = length (kept_by shelf).way.entries in
          let there : n ≡ number + 0 = omega (arith, place) in
          let line : text ≡ noted_line (number + 0) noted = is ∙ ap (λ (k : ℕ). noted_line k noted) there in
          record {
            done = [];
            rest = noted ∷ [];
            split = refl;
            got = λ other. absurd (other refl);
            cut = λ output. record {
              next = noted;
              later = [];
              split = refl;
              part = λ t.
                  let cut = fails.part t in
                  record {
                    part = cut.part;
                    rest = cut.rest;
                    split = sym line ∙ cut.split;
                    shorter = omega (arith, cut.shorter, ap (λ (l : List ℕ). length l) line);
                    put = cut.put ∙ ap (λ (l : List ℕ). l ++ cut.part) (nothing_got out number o t);
                  };
            };
          };
      outside = λ t.
          change_for (kept_by shelf).way (placed ∷ []) (disk.contents d) (disk.contents d')
          (appended disk placed shelf shelf' d d' o (Ok number) appends number refl o').room
          (outside_one placed shelf (disk.contents d) (disk.contents d') (appends.adds.outside t));
      moments = λ t only.
          inr (images_one disk placed shelf d d'
          (appended disk placed shelf shelf' d d' o (Ok number) appends number refl o').room
          (appends.adds.outside_any_moment t only));
    }
