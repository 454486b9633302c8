-- How a run of `receive` ends.
use Rattle.std.proofs.Common.{◌≡◌, inl, inr, ℕ, List, [], ◌++◌, length, refl, sym, ◌∙◌, ap, subst}
use Rattle.std.proofs.Common.{arith, append_assoc, append-nil}
use Rattle.lr_bits.specs.Faults.{Rose}
use Rattle.lr_bits.specs.declared.placed.Placed.{Placed}
use Rattle.lr_bits.proofs.Telling.{tells_both, tells_still}
use Rattle.lr_io.specs.declared.source.Source.{Ghosts as SourceOf}
use Rattle.lr_io.specs.declared.sink.Sink.{Ghosts as SinkOf}
use Rattle.lr_layers.specs.Layers.{CountsView, mended_numbers_of}
use Rattle.lr_layers.specs.Standing.{numbers}
use Rattle.lr_shelf.specs.Kept.{kept_by}
use Rattle.lr_shelf.specs.declared.shelf.Shelf.{Shelf}
use Rattle.lr_disk.specs.Pending.{EachImageSince}
use Rattle.lr_disk.proofs.Moments.{weaker}
use Rattle.lr_forms.specs.declared.forms.Stop.{Stop}
use Rattle.lr_forms.specs.declared.forms.Stop.TheVariants.{End, Limit, Fault}
use Rattle.lr_causes.specs.declared.cause.Cause.{Cause}
use Rattle.lr_causes.specs.declared.cause.Cause.TheVariants.{Failed, NoMemory, Refused}
use Rattle.lr_causes.specs.declared.cause.Party.TheVariants.{Source, Disk, Output}
use Rattle.lr_causes.specs.declared.cause.Refusal.TheVariants.{Capacity}
use Rattle.lr_cmd_receive.specs.declared.receive_counts.ReceiveCounts.{ReceiveCounts}
use Rattle.lr_reading.specs.Reading.{WhenLastAsked}
use Rattle.lr_reading.specs.Runs.{ReadsInput}
use Rattle.lr_reading.proofs.Coming.{outcomes_counted}
use Rattle.lr_forms.specs.declared.forms.Input.{Input}
use Rattle.lr_causes.specs.Causes.{IsEarlier, cause_at}
use Rattle.lr_reading.specs.Inputs.{outcomes_of_bytes}
use Rattle.lr_cmd_receive.specs.Noted.{placed_files}
use Rattle.lr_causes.specs.Puts.{PutFails}
use Rattle.lr_shelf.specs.InitialShelves.{InitialShelf, HoldsStill, IsSettledOn, StandsWith}
use Rattle.lr_cmd_receive.specs.Shelving.{shelved_lines}
use Rattle.lr_cmd_receive.specs.Shelved.{MayStop, ShelvesSoFar, Grows, GrowsNoMore, shelf_in}
use Rattle.lr_cmd_receive.specs.Receive.{counts_line, receive_count, receive_last, AreInTime, files_asked}
use Rattle.lr_cmd_receive.specs.Receive.{IsWorkDone, ReceiveQuery}
use Rattle.lr_cmd_receive.specs.Reception.{FewWait, sums_line, PutsLast, LastStops, ReadsAll}
use Rattle.lr_cmd_receive.specs.Reception.{ReadsSome, EndsOver, EndsRun, run_of}
use Rattle.lr_cmd_receive.proofs.Acknowledging.{all_acknowledged, all_worked, lines_alone}
use Rattle.lr_cmd_receive.proofs.Timely.{all_in_time}
use Rattle.lr_cmd_receive.proofs.Causing.{first_beside, first_done, first_end, first_out, first_stays}
use Rattle.lr_cmd_receive.proofs.Changing.{change_for}
use Rattle.lr_cmd_receive.specs.Onto.{ChangesFor}
use Rattle.lr_cmd_receive.proofs.ShelvedLines.{shelved_lines-none}
use Rattle.lr_causes.specs.Outside.{outlets, outside, world_outlets, Outlets, OutletsOf, World, Outside}
use Rattle.lr_shelf.proofs.InitialPrefixes.{front_none}

-- the last line tells what was read and counted
pub last_line_is : {S : Type 0} (source : SourceOf S) (mend : ℕ) (input : Input) (limit : ℕ) (bytes : List ℕ)
    (s s' : S) (sums : ReceiveCounts)
    → ReadsInput source input limit bytes sums.totals s s'
    → numbers sums.counts ≡ mended_numbers_of mend (outcomes_of_bytes input bytes)
    → sums_line sums ≡ receive_last mend input bytes sums.totals.stop
unfolding receive_last receive_count
last_line_is source mend input limit bytes s s' sums ends counted =
    let totals = sums.totals in
    ap (λ k. counts_line k totals.frames (numbers sums.counts) totals.left totals.stop) ends.symbols
    ∙ ap (λ k. counts_line (length bytes) k (numbers sums.counts) totals.left totals.stop)
    (ends.frames ∙ sym (outcomes_counted input bytes))
    ∙ ap (λ (n : CountsView). counts_line (length bytes) (length (outcomes_of_bytes input bytes)) n totals.left
    totals.stop) counted
    ∙ ap (λ k. counts_line (length bytes) (length (outcomes_of_bytes input bytes))
    (mended_numbers_of mend (outcomes_of_bytes input bytes)) k totals.stop) ends.left

-- nothing was put
pub got_none : {O : Type 0} (out : SinkOf O) (initial : InitialShelf) (o : O) → out.tells o
    → out.contents o ≡ out.contents o ++ shelved_lines (length initial.way.entries) []
got_none out initial o t =
    sym (ap (λ l. out.contents o ++ l) (shelved_lines-none (length initial.way.entries)) ∙ append-nil (out.contents o))

-- the shelf is loaded
pub loaded : {D O : Type 0} (world : OutletsOf D O) (initial : InitialShelf) (w : Outlets D O) (d1 : D) (shelf : Shelf)
    → IsSettledOn initial [] world.disk shelf d1
    → EachImageSince world.disk w.disk d1 (StandsWith initial [])
    → world.disk.faults d1 ≡ world.disk.faults w.disk
    → ShelvesSoFar world initial [] w (shelf_in shelf (outlets d1 w.out))
loaded world initial w d1 shelf settled run count = record {
  settled = settled;
  any_moment = weaker world.disk.moment world.disk.left_since w.disk d1 _ _ (front_none initial) run;
  put = record {
    tell = tells_still;
    put = λ t. got_none world.out initial w.out t;
    kept = refl;
  };
  disk_count = count;
}

-- ---- over every disk

-- a run that put its last line has done its work
work_at : (stop : Stop) → IsWorkDone (cause_at stop)
work_at End = tt
work_at Limit = tt
work_at Fault = tt

-- the work isn't done where shelving stopped
pub no_work : (cause : Cause) → MayStop cause → IsWorkDone cause → ⊥
no_work (Failed Disk) may done = done
no_work (Failed Output) may done = done
no_work NoMemory may done = done
no_work (Refused (Capacity needed most)) may done = done
no_work _ may done = absurd may

module _ {D O : Type 0} {shelf : Shelf} {files : List Placed} {w w1 : Outlets D O} where
  -- shelving stopped
  over_some : (cause : Cause) → MayStop cause → GrowsNoMore cause files (shelf_in shelf w) w1
      → EndsOver cause files (shelf_in shelf w) w1
  over_some cause may stops = record {
    full = stops.full;
    same_disk = λ none. (stops.none none).1;
    silent = λ none early. (stops.none none).2;
    kind = λ none failed. cc (failed, (stops.none none).0);
  }

  module _ {shelf1 : Shelf} (grown : Grows files (shelf_in shelf w) (shelf_in shelf1 w1)) (o2 : O) where
    -- all files are shelved, and the last line isn't put
    over_last : (cause : Cause) → ((needed most : ℕ) → cause ≡ Refused (Capacity needed most) → ⊥)
        → (cause ≡ Failed Disk → ⊥) → (IsEarlier cause → o2 ≡ w1.out)
        → EndsOver cause files (shelf_in shelf w) (outlets w1.disk o2)
    over_last cause other no_fault same = record {
      full = λ needed most is. absurd (other needed most is);
      same_disk = λ none. (grown.none none).0;
      silent = λ none early. same early ∙ (grown.none none).1;
      kind = λ none failed. no_fault failed;
    }

    -- it is put
    over_done : (stop : Stop) → EndsOver (cause_at stop) files (shelf_in shelf w) (outlets w1.disk o2)
    over_done End = over_last (cause_at End) (λ needed most is. cc (is)) (λ is. cc (is)) (λ early. absurd early)
    over_done Limit = over_last (cause_at Limit) (λ needed most is. cc (is)) (λ is. cc (is)) (λ early. absurd early)
    over_done Fault = over_last (cause_at Fault) (λ needed most is. cc (is)) not_disk (λ early. absurd early)
      where
        not_disk : Failed Source ≡ Failed Disk → ⊥
        not_disk is = let same : Source ≡ Disk = cc (is) in cc (same)

module _ {S D O : Type 0} (world : World S D O) (asked : ReceiveQuery) where
  module _ (shelf : Shelf) (w w1 : Outside S D O) where
    -- shelving stopped
    pub ended_some : (cause : Cause)
        → ReadsSome world asked cause (shelf_in shelf w) w1
        → EndsRun world asked cause (shelf_in shelf w) w1
    ended_some cause some =
        let stopped = some.stopped in
        record {
          bytes = some.bytes;
          read = some.read;
          kind = inl stopped.kind;
          tell = stopped.tell;
          first = λ works. first_beside cause (world.source.faults w.source)
              (world.source.faults w1.source) (world.disk.faults w.disk) (world.disk.faults w1.disk)
              (world.out.faults w.out) (world.out.faults w1.out) stopped.kind (stopped.first works);
          ends = λ initial before so_far.
              let stops = stopped.stops initial [] before so_far in (
                stops.any_moment,
                record { stands = λ done. absurd (no_work cause stopped.kind done); stops = λ undone. inl stops.why },
                some.timely initial before so_far,
                some.in_time initial before so_far,
              );
          over = over_some cause stopped.kind stopped.grown;
          ended = λ done. absurd (no_work cause stopped.kind done);
          stopped = λ undone. inl stopped.lines;
          outside = stopped.outside;
          moments = stopped.moments;
        }

    module _ (sums : ReceiveCounts) (shelf1 : Shelf)
        (all : ReadsAll world asked sums (shelf_in shelf w) (shelf_in shelf1 w1)) (o2 : O)
      where
        -- nothing waits, neither now nor when the source was last asked
        none_waits : (initial : InitialShelf) (before : Outlets D O)
            → HoldsStill initial (placed_files (files_asked asked all.bytes)) world.disk w1.disk
            → (world.out.tells before.out → (text : List ℕ) × (world.out.contents o2
            ≡ world.out.contents before.out
            ++ (shelved_lines (length initial.way.entries) (files_asked asked all.bytes) ++ text)))
            → FewWait (world_outlets world) (run_of asked initial all.bytes) before
            (outlets w1.disk o2)
            × WhenLastAsked world.source (AreInTime (world_outlets world)
            (run_of asked initial all.bytes) before
            (outlets w1.disk o2)) all.bytes w.source w1.source
        none_waits initial before durable told = (
          all_worked (world_outlets world) initial asked all.bytes before (outlets w1.disk o2) durable told,
          all_in_time world.source asked all.bytes w.source w1.source (world_outlets world) initial
              before (outlets w1.disk o2) (all_acknowledged (world_outlets world) initial
              (files_asked asked all.bytes) before (outlets w1.disk o2) durable told) all.in_time,
        )

        line_is : sums_line sums ≡ receive_last asked.mend asked.input all.bytes sums.totals.stop
        line_is = last_line_is world.source asked.mend asked.input asked.limit all.bytes w.source w1.source sums
            all.ends all.counts

        -- the files were written, and nothing else
        changes : world.disk.tells w.disk
            → ChangesFor (kept_by shelf).way (placed_files (files_asked asked all.bytes))
            (world.disk.contents w.disk)
            (world.disk.contents w1.disk)
        changes t =
            change_for (kept_by shelf).way (placed_files (files_asked asked all.bytes))
            (world.disk.contents w.disk)
            (world.disk.contents w1.disk) all.shelved.grown.room (all.shelved.outside t)

        -- a part of the last line was put
        summary_cut : PutFails world.out (sums_line sums) w1.out o2
            → EndsRun world asked (Failed Output) (shelf_in shelf w)
            (outside w1.source w1.disk o2)
        summary_cut fails = record {
          bytes = all.bytes;
          read = all.ends.read;
          kind = inl tt;
          tell = record {
            by_disk = all.shelved.tell.by_disk;
            by_out = tells_both all.shelved.tell.by_out fails.tell;
          };
          first = λ works. first_out (world.source.faults w.source) (world.source.faults w1.source)
              (world.disk.faults w.disk) (world.disk.faults w1.disk) (world.out.faults w.out) (world.out.faults o2)
              (subst (λ (k : ℕ). Rose k (world.out.faults o2)) all.shelved.out_count fails.rose)
              all.shelved.disk_count;
          ends = λ initial before begun.
              let so_far = all.shelved.shelved initial [] before begun in
              let none = none_waits initial before so_far.settled.on_disk
              (λ t.
              let cut = fails.part (so_far.put.tell.told t) in (
                cut.part,
                cut.put ∙ ap (λ (l : List ℕ). l ++ cut.part) (so_far.put.put t)
                    ∙ append_assoc (world.out.contents before.out)
                    (shelved_lines (length initial.way.entries) (files_asked asked all.bytes)) cut.part,
              )) in (
                so_far.any_moment,
                record {
                  stands = λ done. absurd done;
                  stops = λ undone. inr (
                    refl,
                    record {
                      stop = sums.totals.stop;
                      reason = all.ends.reason;
                      part = λ t.
                          let cut = fails.part (so_far.put.tell.told t) in
                          record {
                            part = cut.part;
                            rest = cut.rest;
                            split = sym line_is ∙ cut.split;
                            shorter = omega (arith, cut.shorter, ap length line_is);
                            put = cut.put ∙ ap (λ (l : List ℕ). l ++ cut.part) (so_far.put.put t);
                          };
                    },
                    so_far.settled.on_disk,
                  );
                },
                none.0,
                none.1,
              );
          over =
              over_last all.shelved.grown o2 (Failed Output) (λ needed most is. cc (is))
              (λ is. let same : Output ≡ Disk = cc (is) in cc (same)) (λ early. absurd early);
          ended = λ done. absurd done;
          stopped = λ undone. inr (
            refl,
            record {
              stop = sums.totals.stop;
              reason = all.ends.reason;
              part = λ t.
                  let cut = fails.part (all.shelved.tell.by_out.told t) in
                  record {
                    part = cut.part;
                    rest = cut.rest;
                    split = sym line_is ∙ cut.split;
                    shorter = omega (arith, cut.shorter, ap length line_is);
                    put = cut.put ∙ ap (λ (l : List ℕ). l ++ cut.part) (all.shelved.put t);
                  };
            },
          );
          outside = changes;
          moments = λ t only. (all.shelved.moments t only).1;
        }

        -- there was no memory for it
        no_summary : o2 ≡ w1.out → EndsRun world asked NoMemory (shelf_in shelf w)
            (outside w1.source w1.disk o2)
        no_summary same = record {
          bytes = all.bytes;
          read = all.ends.read;
          kind = inl tt;
          tell = record {
            by_disk = all.shelved.tell.by_disk;
            by_out = record {
              told = λ t. subst world.out.tells (sym same) (all.shelved.tell.by_out.told t);
              untold = λ t. all.shelved.tell.by_out.untold (subst world.out.tells same t);
            };
          };
          first = λ works. first_stays NoMemory (world.source.faults w.source) (world.source.faults w1.source)
              (world.disk.faults w.disk) (world.disk.faults w1.disk) (world.out.faults w.out) (world.out.faults o2)
              tt tt
              all.shelved.disk_count (ap world.out.faults same ∙ all.shelved.out_count);
          ends = λ initial before begun.
              let so_far = all.shelved.shelved initial [] before begun in
              let none = none_waits initial before so_far.settled.on_disk
              (lines_alone (world_outlets world) initial (files_asked asked all.bytes) before
              (outlets w1.disk o2) (λ t. ap world.out.contents same ∙ so_far.put.put t)) in (
                so_far.any_moment,
                record {
                  stands = λ done. absurd done;
                  stops = λ undone. inl (record {
                    done = files_asked asked all.bytes;
                    rest = [];
                    split = sym (append-nil (files_asked asked all.bytes));
                    durable = so_far.settled.on_disk;
                    got = λ t. ap world.out.contents same ∙ so_far.put.put t;
                  });
                },
                none.0,
                none.1,
              );
          over = over_last all.shelved.grown o2 NoMemory (λ needed most is. cc (is)) (λ is. cc (is)) (λ early. same);
          ended = λ done. absurd done;
          stopped = λ undone. inl (record {
            done = files_asked asked all.bytes;
            rest = [];
            split = sym (append-nil (files_asked asked all.bytes));
            got = λ other t. ap world.out.contents same ∙ all.shelved.put t;
            cut = λ is. cc (is);
          });
          outside = changes;
          moments = λ t only. (all.shelved.moments t only).1;
        }

        -- the last line wasn't put
        pub last_stopped : (cause : Cause) → LastStops world.out sums cause w1.out o2
            → EndsRun world asked cause (shelf_in shelf w) (outside w1.source w1.disk o2)
        last_stopped (Failed Output) stops = summary_cut stops
        last_stopped NoMemory stops = no_summary stops
        last_stopped _ stops = absurd stops

        -- it was put
        pub all_put : PutsLast world.out sums w1.out o2
            → EndsRun world asked (cause_at sums.totals.stop) (shelf_in shelf w)
            (outside w1.source w1.disk o2)
        all_put put = record {
          bytes = all.bytes;
          read = all.ends.read;
          kind = inr (work_at sums.totals.stop);
          tell = record {
            by_disk = all.shelved.tell.by_disk;
            by_out = tells_both all.shelved.tell.by_out put.tell;
          };
          first = λ works. first_done sums.totals.stop (world.source.faults w.source)
              (world.source.faults w1.source) (world.disk.faults w.disk)
              (world.disk.faults w1.disk) (world.out.faults w.out) (world.out.faults o2)
              (first_end world.source sums.totals.stop asked.limit all.bytes w.source w1.source all.ends.reason)
              all.shelved.disk_count (put.kept ∙ all.shelved.out_count);
          ends = λ initial before begun.
              let so_far = all.shelved.shelved initial [] before begun in
              let files = files_asked asked all.bytes in
              let none = none_waits initial before so_far.settled.on_disk
              (λ t. (
                sums_line sums,
                put.put (so_far.put.tell.told t) ∙ ap (λ (l : List ℕ). l ++ sums_line sums) (so_far.put.put t)
                    ∙ append_assoc (world.out.contents before.out) (shelved_lines (length initial.way.entries) files)
                    (sums_line sums),
              )) in (
                so_far.any_moment,
                record {
                  stands = λ done. so_far.settled.on_disk;
                  stops = λ undone. absurd (undone (work_at sums.totals.stop));
                },
                none.0,
                none.1,
              );
          over = over_done all.shelved.grown o2 sums.totals.stop;
          ended = λ done. record {
            stop = sums.totals.stop;
            is = refl;
            reason = all.ends.reason;
            got = λ t.
                let lines = shelved_lines (length (kept_by shelf).way.entries)
                (files_asked asked all.bytes) in
                put.put (all.shelved.tell.by_out.told t) ∙ ap (λ (l : List ℕ). l ++ sums_line sums)
                (all.shelved.put t)
                ∙ append_assoc (world.out.contents w.out) lines (sums_line sums)
                ∙ ap (λ (l : List ℕ). world.out.contents w.out ++ (lines ++ l)) line_is;
          };
          stopped = λ undone. absurd (undone (work_at sums.totals.stop));
          outside = changes;
          moments = λ t only. (all.shelved.moments t only).1;
        }
