-- One file is put onto the shelf, or shelving stops there.
use Rattle.std.proofs.Common.{◌≡◌, inl, inr, false, true, ◌+◌, ℕ, List, [], ◌∷◌, ◌++◌, length, min, refl, sym}
use Rattle.std.proofs.Common.{◌∙◌, ap, subst, arith, append_assoc, append-nil}
use Rattle.lr_bits.specs.Sizes.{most_u64}
use Rattle.lr_bits.specs.declared.placed.Placed.{Placed}
use Rattle.lr_bits.proofs.Telling.{tells_both}
use Rattle.lr_io.specs.declared.sink.Sink.{Ghosts as SinkOf}
use Rattle.lr_disk.specs.declared.disk.Disk.{Ghosts as DiskOf}
use Rattle.lr_disk.specs.Pending.{EachImageSince}
use Rattle.lr_shelf_format.specs.Items.{IsItem, Item}
use Rattle.lr_shelf.specs.Append.{IsAppendRefusal, item_for}
use Rattle.lr_shelf.specs.Kept.{KeptShelf, kept_by}
use Rattle.lr_shelf.specs.declared.shelf.Shelf.{Shelf}
use Rattle.lr_shelf.specs.declared.error.ShelfError.{ShelfError}
use Rattle.lr_shelf.specs.declared.error.ShelfError.TheVariants.{Disk as Disk'}
use Rattle.lr_shelf.specs.declared.error.ShelfError.TheVariants.{Capacity as Capacity'}
use Rattle.lr_shelf.specs.declared.error.ShelfError.TheVariants.{NoMemory as NoMemory'}
use Rattle.lr_shelf.specs.declared.error.ShelfError.TheVariants.{Failed as Failed'}
use Rattle.lr_causes.specs.declared.cause.Cause.{Cause}
use Rattle.lr_causes.specs.declared.cause.Cause.TheVariants.{Failed, NoMemory, Refused}
use Rattle.lr_causes.specs.declared.cause.Party.TheVariants.{Disk, Output}
use Rattle.lr_causes.specs.declared.cause.Refusal.TheVariants.{Capacity}
use Rattle.lr_refusals.specs.Errors.{cause_of}
use Rattle.lr_causes.specs.Puts.{Puts, PutFails}
use Rattle.lr_shelf.specs.InitialShelves.{InitialShelf, HoldsStill, IsSettledOn, LeavesPrefixes}
use Rattle.lr_shelf.specs.InitialShelves.{StandsWith, StandsWithEither}
use Rattle.lr_shelf.specs.Prefixes.{end_with}
use Rattle.lr_cmd_receive.specs.Noted.{NotedFile, placed_files}
use Rattle.lr_cmd_receive.specs.Shelving.{noted_line, shelved_lines, StandsForOneFileMore, StopsBy, Stops}
use Rattle.lr_cmd_receive.specs.Shelved.{MayStop, ShelvesSoFar, shelf_in}
use Rattle.lr_shelf.proofs.InitialShelves.{capacity_is, ends, needed_is, number_is}
use Rattle.lr_cmd_receive.proofs.Noted.{length-placed, placed-append}
use Rattle.lr_cmd_receive.proofs.ShelvedLines.{shelved_lines-push}
use Rattle.lr_causes.specs.Outside.{outlets, Outlets, OutletsOf}
use Rattle.lr_shelf.proofs.InitialPrefixes.{fronts_of_more, fronts_with}

-- ---- one file more

module _ (initial : InitialShelf) where
  either_more : (done : List NotedFile) (noted : NotedFile) (bytes : List ℕ)
      → StandsWithEither initial (placed_files done) noted.placed bytes
      → StandsForOneFileMore initial done (noted ∷ []) bytes
  either_more done noted bytes (inl s) = inl s
  either_more done noted bytes (inr s) = inr (
    noted,
    [],
    refl,
    subst (λ (l : List Placed). StandsWith initial l bytes) (sym (placed-append done (noted ∷ []))) s,
  )

  -- more files that are still to be shelved
  pub one_more_later : (done rest more : List NotedFile) (bytes : List ℕ) → StandsForOneFileMore initial done rest bytes
      → StandsForOneFileMore initial done (rest ++ more) bytes
  one_more_later done rest more bytes (inl s) = inl s
  one_more_later done rest more bytes (inr s) =
      inr (s.0, s.1 ++ more, ap (λ (l : List NotedFile). l ++ more) s.2, s.3)

-- ---- causes

-- what an append refuses for stops shelving
pub append_kind : (item : Item) (kept : KeptShelf) (e : ShelfError) → IsAppendRefusal item kept e
    → MayStop (cause_of e)
append_kind item kept Disk' refusal = tt
append_kind item kept (Capacity' needed most) refusal = tt
append_kind item kept NoMemory' refusal = tt
append_kind item kept Failed' refusal = tt
append_kind item kept _ refusal = absurd refusal

-- ---- more files

module _ {D O : Type 0} (world : OutletsOf D O) (initial : InitialShelf) (w w' : Outlets D O)
    (files more : List NotedFile) where
  longer : (done rest : List NotedFile) → files ≡ done ++ rest → files ++ more ≡ done ++ (rest ++ more)
  longer done rest split = ap (λ (l : List NotedFile). l ++ more) split ∙ append_assoc done rest more

  stops_by_more : (cause : Cause) → StopsBy world initial files cause w w'
      → StopsBy world initial (files ++ more) cause w w'
  stops_by_more (Failed Disk) why = record {
    done = why.done;
    rest = why.rest ++ more;
    split = longer why.done why.rest why.split;
    contents = one_more_later initial why.done why.rest more (world.disk.contents w'.disk) why.contents;
    images = λ c image. one_more_later initial why.done why.rest more c (why.images c image);
    got = why.got;
  }
  stops_by_more (Failed Output) why = record {
    done = why.done;
    last = why.last;
    rest = why.rest ++ more;
    split = longer (why.done ++ why.last ∷ []) why.rest why.split;
    durable = why.durable;
    part = why.part;
  }
  stops_by_more NoMemory why = record {
    done = why.done;
    rest = why.rest ++ more;
    split = longer why.done why.rest why.split;
    durable = why.durable;
    got = why.got;
  }
  stops_by_more (Refused (Capacity needed most)) why = record {
    done = why.done;
    next = why.next;
    rest = why.rest ++ more;
    split = longer why.done (why.next ∷ why.rest) why.split;
    durable = why.durable;
    got = why.got;
    is_item = why.is_item;
    needs = why.needs;
    of = why.of;
    over = why.over;
  }
  stops_by_more _ why = absurd why

  -- shelving that stopped among some files stopped among more of them
  pub stops_more : (cause : Cause) → Stops world initial files cause w w'
      → Stops world initial (files ++ more) cause w w'
  stops_more cause stops = record {
    any_moment =
        subst (λ (l : List Placed). LeavesPrefixes world.disk initial l w.disk w'.disk) (sym (placed-append files more))
        (fronts_of_more world.disk initial w.disk w'.disk w'.disk (placed_files files) stops.any_moment
        (placed_files more));
    why = stops_by_more cause stops.why;
  }

-- ---- one file more, on an initial shelf

module _ {D O : Type 0} (world : OutletsOf D O) (initial : InitialShelf) (done : List NotedFile) (shelf : Shelf)
    (w w1 : Outlets D O) (so_far : ShelvesSoFar world initial done w (shelf_in shelf w1)) where
  abbrev disk : DiskOf D
  disk = world.disk

  abbrev out : SinkOf O
  out = world.out

  -- no memory for what comes next
  pub out_of_memory : (more : List NotedFile) → Stops world initial (done ++ more) NoMemory w w1
  out_of_memory more = record {
    any_moment = subst (λ (l : List Placed). LeavesPrefixes disk initial l w.disk w1.disk) (sym
        (placed-append done more))
        (fronts_of_more disk initial w.disk w1.disk w1.disk (placed_files done) so_far.any_moment (placed_files more));
    why = record {
      done = done;
      rest = more;
      split = refl;
      durable = so_far.settled.on_disk;
      got = so_far.put.put;
    };
  }

  module _ (noted : NotedFile) (d2 : D) (run : EachImageSince disk w1.disk d2
      (StandsWithEither initial (placed_files done) noted.placed)) where
    abbrev placed : Placed
    placed = noted.placed

    moved : placed_files done ++ placed ∷ [] ≡ placed_files (done ++ noted ∷ [])
    moved = sym (placed-append done (noted ∷ []))

    moments : LeavesPrefixes disk initial (placed_files (done ++ noted ∷ [])) w.disk d2
    moments = subst (λ (l : List Placed). LeavesPrefixes disk initial l w.disk d2) moved
        (fronts_with disk initial w.disk w1.disk d2 (placed_files done) so_far.any_moment placed run)

    -- the append answered an error
    pub append_stopped : (e : ShelfError) → IsItem (item_for noted.placed)
        → StandsWithEither initial (placed_files done) noted.placed (disk.contents d2)
        → ((c : List ℕ) → disk.may_leave d2 c → StandsWithEither initial (placed_files done) noted.placed c)
        → ((e ≡ Disk' → ⊥) → d2 ≡ w1.disk)
        → IsAppendRefusal (item_for noted.placed) (kept_by shelf) e
        → Stops world initial (done ++ noted ∷ []) (cause_of e) w (outlets d2 w1.out)
    append_stopped Disk' is now left stays refusal = record {
      any_moment = moments;
      why = record {
        done = done;
        rest = noted ∷ [];
        split = refl;
        contents = either_more initial done noted (disk.contents d2) now;
        images = λ c image. either_more initial done noted c (left c image);
        got = so_far.put.put;
      };
    }
    append_stopped (Capacity' needed most) is now left stays refusal =
        let same : d2 ≡ w1.disk = stays (λ other. cc (other)) in
        record {
          any_moment = moments;
          why = record {
            done = done;
            next = noted;
            rest = [];
            split = refl;
            durable = subst (λ (x : D). HoldsStill initial (placed_files done) disk x)
                (sym same) so_far.settled.on_disk;
            got = so_far.put.put;
            is_item = is;
            needs = refusal.2 ∙ needed_is disk (placed_files done) shelf w1.disk placed initial so_far.settled
                ∙ ap (λ (l : List Placed). min (end_with initial.way.end l) most_u64) moved;
            of = refusal.3 ∙ capacity_is disk (placed_files done) shelf w1.disk initial so_far.settled;
            over = omega (
              arith,
              refusal.1,
              capacity_is disk (placed_files done) shelf w1.disk initial so_far.settled,
              ends disk (placed_files done) shelf w1.disk placed initial so_far.settled,
              ap (λ (l : List Placed). end_with initial.way.end l) moved,
            );
          };
        }
    append_stopped NoMemory' is now left stays refusal =
        let same : d2 ≡ w1.disk = stays (λ other. cc (other)) in
        record {
          any_moment = moments;
          why = record {
            done = done;
            rest = noted ∷ [];
            split = refl;
            durable = subst (λ (x : D). HoldsStill initial (placed_files done) disk x)
                (sym same) so_far.settled.on_disk;
            got = so_far.put.put;
          };
        }
    append_stopped Failed' is now left stays refusal =
        let no : false ≡ true = sym so_far.settled.kept.working ∙ refusal in absurd (cc no)
    append_stopped _ is now left stays refusal = absurd refusal

    module _ (shelf2 : Shelf) (settled : IsSettledOn initial (placed_files (done ++ noted ∷ [])) disk shelf2 d2) (n : ℕ)
        (text : List ℕ) (place : n ≡ length (kept_by shelf).way.entries) (is : text ≡ noted_line n noted)
        (o2 : O) where
      line_is : text ≡ noted_line (length initial.way.entries + length done) noted
      line_is =
          is
          ∙ ap (λ (k : ℕ). noted_line k noted)
          (place ∙ number_is disk (placed_files done) shelf w1.disk initial so_far.settled
          ∙ ap (λ (k : ℕ). length initial.way.entries + k) (length-placed done))

      lines_are : shelved_lines (length initial.way.entries) (done ++ noted ∷ [])
          ≡ shelved_lines (length initial.way.entries) done ++ text
      lines_are =
          shelved_lines-push (length initial.way.entries) done noted
          ∙ ap (λ (l : List ℕ). shelved_lines (length initial.way.entries) done ++ l) (sym line_is)

      -- the line was put
      pub line_put : disk.faults d2 ≡ disk.faults w1.disk → Puts out text w1.out o2
          → ShelvesSoFar world initial (done ++ noted ∷ []) w (shelf_in shelf2 (outlets d2 o2))
      line_put disk_count put = record {
        settled = settled;
        any_moment = moments;
        put = record {
          tell = tells_both so_far.put.tell put.tell;
          put = λ t.
              put.put (so_far.put.tell.told t)
              ∙ ap (λ (l : List ℕ). l ++ text) (so_far.put.put t)
              ∙ append_assoc (out.contents w.out) (shelved_lines (length initial.way.entries) done) text
              ∙ ap (λ (l : List ℕ). out.contents w.out ++ l) (sym lines_are);
          kept = put.kept ∙ so_far.put.kept;
        };
        disk_count = disk_count ∙ so_far.disk_count;
      }

      -- a part of the line was put
      pub line_stopped : PutFails out text w1.out o2
          → Stops world initial (done ++ noted ∷ []) (Failed Output) w (outlets d2 o2)
      line_stopped fails = record {
        any_moment = moments;
        why = record {
          done = done;
          last = noted;
          rest = [];
          split = sym (append-nil (done ++ noted ∷ []));
          durable = settled.on_disk;
          part = λ t.
              let cut = fails.part (so_far.put.tell.told t) in
              record {
                part = cut.part;
                rest = cut.rest;
                split = sym line_is ∙ cut.split;
                shorter = omega (arith, cut.shorter, ap length line_is);
                put = cut.put ∙ ap (λ (l : List ℕ). l ++ cut.part) (so_far.put.put t);
              };
        };
      }
