-- How a run that adds an item ends, for each cause.
use Rattle.std.proofs.Common.{◌≡◌, ◌<◌, inl, inr, ℕ, Result, Ok, Err, IfErr, OnOk, List, []}
use Rattle.std.proofs.Common.{◌∷◌, ◌++◌, ◌+◌, ◌-◌, take, drop, min, refl, ap, ◌∙◌, sym, subst}
use Rattle.lr_bits.specs.Sizes.{most_u64}
use Rattle.lr_bits.proofs.Telling.{tells_still}
use Rattle.lr_io.specs.declared.sink.Sink.{Ghosts as SinkOf}
use Rattle.lr_disk.specs.Reads.{IsOnlyRead, IsUnwritten}
use Rattle.lr_disk.specs.declared.disk.Disk.{Ghosts as DiskOf}
use Rattle.lr_disk.specs.Pending.{EachImageSince, NothingPending}
use Rattle.lr_disk.proofs.Moments.{joined, weaker}
use Rattle.lr_shelf_format.specs.Items.{Item, extent_of, head_of_item, item_bytes}
use Rattle.lr_shelf_format.specs.ShelfBytes.{StandsForShelf}
use Rattle.lr_shelf_format.specs.Way.{Way, IsWay}
use Rattle.lr_shelf.specs.Adding.{StaysOutside, WithOrWithout}
use Rattle.lr_shelf.specs.Adds.{Adds, last_gate, new_end}
use Rattle.lr_shelf.specs.Calls.{IsFaultCounted}
use Rattle.lr_shelf.specs.Kept.{KeptShelf, kept_by, kept_with, shelf_on}
use Rattle.lr_shelf.specs.Load.{Loads, IsLoadRefusal}
use Rattle.lr_shelf.specs.Shelf.{HasEitherWay, IsDurable, IsSettled, KeepsWay, StandsForEither}
use Rattle.lr_shelf.specs.declared.shelf.Shelf.{Shelf}
use Rattle.lr_shelf.specs.declared.error.ShelfError.{ShelfError}
use Rattle.lr_shelf.specs.declared.error.ShelfError.TheVariants.{Disk as Disk'}
use Rattle.lr_shelf.specs.declared.error.ShelfError.TheVariants.{NotAShelf as NotAShelf'}
use Rattle.lr_shelf.specs.declared.error.ShelfError.TheVariants.{NotEmpty as NotEmpty'}
use Rattle.lr_shelf.specs.declared.error.ShelfError.TheVariants.{Capacity as Capacity'}
use Rattle.lr_shelf.specs.declared.error.ShelfError.TheVariants.{NoSuchFile as NoSuchFile'}
use Rattle.lr_shelf.specs.declared.error.ShelfError.TheVariants.{Crc as Crc', NoMemory as NoMemory'}
use Rattle.lr_shelf.specs.declared.error.ShelfError.TheVariants.{Failed as Failed'}
use Rattle.lr_shelf.specs.declared.error.ShelfError.TheVariants.{Discarded as Discarded'}
use Rattle.lr_causes.specs.declared.cause.Party.TheVariants.{Source, Disk, Output}
use Rattle.lr_causes.specs.declared.cause.Refusal.{Refusal}
use Rattle.lr_causes.specs.declared.cause.Refusal.TheVariants.{NotAShelf, Capacity}
use Rattle.lr_causes.specs.declared.cause.Cause.{Cause}
use Rattle.lr_causes.specs.declared.cause.Cause.TheVariants.{Done, DoneWith, Usage, Failed, NoMemory, Refused}
use Rattle.lr_causes.specs.Causes.{FaultCounts, IsEarlier}
use Rattle.lr_causes.specs.Outside.{outlet_counts, outlets, outlets_of}
use Rattle.lr_refusals.specs.Errors.{cause_of}
use Rattle.lr_causes.specs.Puts.{Puts, PutFails}
use Rattle.lr_cmd_shelf.specs.Adding.{Addition, AddsItem, AreSameOrOneMore, AdditionQuery, EndsWith}
use Rattle.lr_cmd_shelf.specs.Adding.{Fits, HasWayOrOneMore, IsAddingRefused, MayAdd, MayEndAdding}
use Rattle.lr_cmd_shelf.specs.Adding.{MayEndWith, RunsAdding, StandsForOneMore, way_added}
use Rattle.lr_causes.specs.Counts.{CountsTell, NoneBesides}
use Rattle.lr_cmd_shelf.proofs.Filing.{shelf_counted}
use Rattle.lr_cmd_shelf.proofs.Texts.{disk_counts, out_counts, quiet_counts, same_counts}
use Rattle.lr_shelf.proofs.Loaded.{IsReady, way_read}
use Rattle.lr_cmd_shelf.proofs.AddingRuns.{both, told_through, untold_through, only_read_still}
use Rattle.lr_cmd_shelf.proofs.AddingRuns.{count_still}
use Rattle.lr_cmd_shelf.proofs.AddingOnce.{one_way, over_none, over_once}

-- ---- runs

refused_is : (one other : Refusal) → Refused one ≡ Refused other → one ≡ other
refused_is one other same = cc (same)

module _ {D O : Type 0} (disk : DiskOf D) (out : SinkOf O) (query : AdditionQuery)
    (once : (bytes : List ℕ) (way : Way) (one other : Result Addition Refusal) → query.decides bytes way one
    → query.decides bytes way other → one ≡ other) where
  -- ---- nothing was written

  still : (capacity : ℕ) (items : List Item) (d d' : D) → IsUnwritten disk d d' → IsDurable disk capacity items d
      → EachImageSince disk d d' (StandsForOneMore query (disk.contents d) capacity items)
  still capacity items d d' unwritten is =
      weaker disk.moment disk.left_since d d' (disk.may_leave d)
      (StandsForOneMore query (disk.contents d) capacity items)
      (λ c image. inl (subst (λ (l : List ℕ). StandsForShelf l capacity items) (sym (is.durable c image)) is.stands))
      unwritten.any_moment

  way_still : (way : Way) (d d' : D) → IsUnwritten disk d d' → IsWay (disk.contents d) way
      → NothingPending disk d
      → EachImageSince disk d d' (HasWayOrOneMore query (disk.contents d) way)
  way_still way d d' unwritten is only =
      weaker disk.moment disk.left_since d d' (disk.may_leave d) (HasWayOrOneMore query (disk.contents d) way)
      (λ c image. inl (subst (λ (l : List ℕ). IsWay l way) (sym (only c image)) is)) unwritten.any_moment

  bytes_still : (way : Way) (d d' : D) → IsUnwritten disk d d' → NothingPending disk d
      → EachImageSince disk d d' (AreSameOrOneMore query (disk.contents d) way)
  bytes_still way d d' unwritten only =
      weaker disk.moment disk.left_since d d' (disk.may_leave d) (AreSameOrOneMore query (disk.contents d) way)
      (λ c image. inl (only c image)) unwritten.any_moment

  module _ (d d' : D) (o : O) (told : disk.tells d → disk.tells d') (untold : disk.tells d' → disk.tells d)
      (only_read : IsOnlyRead disk d d') where
    -- an event came first
    pub earlier_run : (cause : Cause) → IsEarlier cause
        → CountsTell NoneBesides cause (outlet_counts (outlets_of disk out) (outlets d o))
        (outlet_counts (outlets_of disk out) (outlets d' o))
        → RunsAdding (outlets_of disk out) query cause (outlets d o) (outlets d' o)
    earlier_run Done is counted = absurd is
    earlier_run (DoneWith note) is counted = absurd is
    earlier_run Usage is counted = absurd is
    earlier_run (Failed Source) is counted = absurd is
    earlier_run (Failed Output) is counted = absurd is
    earlier_run (Refused refusal) is counted = absurd is
    earlier_run (Failed Disk) is counted = record {
      may = tt;
      counted = counted;
      tell = record {
        by_disk = record { told = told; untold = untold };
        by_out = tells_still;
      };
      leaves = inl (record { silent = refl; only_read = only_read });
      refused = λ refusal same t. cc (same);
      refuses = λ refusal t refused. inr tt;
      adds = λ addition t may. inr tt;
      way_any_moment = λ way t is_way only. way_still way d d' (only_read.unwritten t) is_way only;
      bytes_any_moment = λ way t is_way only. bytes_still way d d' (only_read.unwritten t) only;
      any_moment = λ capacity items t durable. still capacity items d d' (only_read.unwritten t) durable;
    }
    earlier_run NoMemory is counted = record {
      may = tt;
      counted = counted;
      tell = record {
        by_disk = record { told = told; untold = untold };
        by_out = tells_still;
      };
      leaves = record { silent = refl; only_read = only_read };
      refused = λ refusal same t. cc (same);
      refuses = λ refusal t refused. inr tt;
      adds = λ addition t may. inr tt;
      way_any_moment = λ way t is_way only. way_still way d d' (only_read.unwritten t) is_way only;
      bytes_any_moment = λ way t is_way only. bytes_still way d d' (only_read.unwritten t) only;
      any_moment = λ capacity items t durable. still capacity items d d' (only_read.unwritten t) durable;
    }

    -- this is refused
    pub refused_run : (refusal : Refusal) → MayEndAdding query (Refused refusal) → disk.faults d' ≡ disk.faults d
        → (disk.tells d → IsAddingRefused query (disk.contents d) refusal)
        → RunsAdding (outlets_of disk out) query (Refused refusal) (outlets d o) (outlets d' o)
    refused_run refusal may count over = record {
      may = may;
      counted = quiet_counts disk out (Refused refusal) d d' o o tt count refl;
      tell = record {
        by_disk = record { told = told; untold = untold };
        by_out = tells_still;
      };
      leaves = record { silent = refl; only_read = only_read };
      refused = λ r same t.
          subst (IsAddingRefused query (disk.contents d)) (refused_is refusal r same) (over t);
      refuses = λ r t is. inl (ap Refused (over_once query once (disk.contents d) refusal r (over t) is));
      adds = λ addition t is. absurd (over_none query once (disk.contents d) refusal addition (over t) is);
      way_any_moment = λ way t is_way only. way_still way d d' (only_read.unwritten t) is_way only;
      bytes_any_moment = λ way t is_way only. bytes_still way d d' (only_read.unwritten t) only;
      any_moment = λ capacity items t durable. still capacity items d d' (only_read.unwritten t) durable;
    }

  -- no shelf was loaded
  pub not_loaded : (d d' : D) (o : O) (result : Result Shelf ShelfError) (error : ShelfError) → Loads disk d d' result
      → result ≡ Err error
      → RunsAdding (outlets_of disk out) query (cause_of error) (outlets d o) (outlets d' o)
  not_loaded d d' o result error loads is = by_error error is
      (subst (λ (r : Result Shelf ShelfError). IfErr r (IsLoadRefusal disk d)) is loads.refused) where
        counted : (e : ShelfError) → result ≡ Err e
            → IsFaultCounted {A = Shelf} (disk.faults d) (disk.faults d') (Err e)
        counted e same =
            subst (λ (r : Result Shelf ShelfError). IsFaultCounted (disk.faults d) (disk.faults d') r) same
            loads.calls.counted

        by_error : (e : ShelfError) → result ≡ Err e → IsLoadRefusal disk d e
            → RunsAdding (outlets_of disk out) query (cause_of e) (outlets d o) (outlets d' o)
        by_error Disk' same refusal =
            earlier_run d d' o loads.calls.tell.told loads.calls.tell.untold loads.only_read (Failed Disk) tt
            (disk_counts disk out d d' o o (counted Disk' same).1 refl)
        by_error (NotAShelf' at) same refusal =
            refused_run d d' o loads.calls.tell.told loads.calls.tell.untold loads.only_read (NotAShelf at) tt
            (counted (NotAShelf' at) same)
            (λ t. inl (at, refusal t, refl))
        by_error (NotEmpty' size) same refusal = absurd refusal
        by_error (Capacity' needed most) same refusal = absurd refusal
        by_error (NoSuchFile' count) same refusal = absurd refusal
        by_error (Crc' stored computed) same refusal = absurd refusal
        by_error NoMemory' same refusal =
            earlier_run d d' o loads.calls.tell.told loads.calls.tell.untold loads.only_read NoMemory tt
            (quiet_counts disk out NoMemory d d' o o tt (counted NoMemory' same) refl)
        by_error Failed' same refusal = absurd refusal
        by_error Discarded' same refusal = absurd refusal

  -- ---- the call that adds the item

  module _ {A : Type 0} (d d1 d2 : D) (o : O) (shelf shelf2 : Shelf) (addition : Addition)
      (made : query.makes addition)
      (ready : IsReady disk d d1 shelf) (answer : Result A ShelfError)
      (adding : Adds disk addition.item (shelf_on shelf d1) (shelf_on shelf2 d2) answer)
      (decided : disk.tells d → query.decides (disk.contents d) (kept_by shelf).way (Ok addition)) where
    abbrev there : Way
    there = (kept_by shelf).way

    way_is : disk.tells d → IsWay (disk.contents d) there
    way_is = way_read disk d d1 shelf ready

    told_both : disk.tells d → disk.tells d2
    told_both = told_through disk d d1 d2 shelf shelf2 addition.item ready answer adding

    untold_both : disk.tells d2 → disk.tells d
    untold_both = untold_through disk d d1 d2 shelf shelf2 addition.item ready answer adding

    refusal_only_read : (error : ShelfError) → answer ≡ Err error → (error ≡ Disk' → ⊥) → IsOnlyRead disk d d2
    refusal_only_read = only_read_still disk d d1 d2 shelf shelf2 addition.item ready answer adding

    refusal_counted : (error : ShelfError) → answer ≡ Err error → (error ≡ Disk' → ⊥)
        → disk.faults d2 ≡ disk.faults d
    refusal_counted = count_still disk d d1 d2 shelf shelf2 addition.item ready answer adding

    may_add : Fits addition.item there → disk.tells d → MayAdd query (disk.contents d) addition
    may_add fits t = record { way = there; is_way = way_is t; decided = decided t; fits = fits }

    both_moments : Fits addition.item there → (capacity : ℕ) (items : List Item) → disk.tells d
        → IsDurable disk capacity items d
        → EachImageSince disk d d2 (StandsForOneMore query (disk.contents d) capacity items)
    both_moments fits capacity items t durable =
        joined disk.moment disk.left_since d d1 d2 (StandsForOneMore query (disk.contents d) capacity items)
        (still capacity items d d1 (ready.only_read.unwritten t) durable)
        (weaker disk.moment disk.left_since d1 d2 (StandsForEither capacity items addition.item)
        (StandsForOneMore query (disk.contents d) capacity items) to
        (adding.on_items.any_moment capacity items (ready.settled capacity items t durable))) where
          to : (c : List ℕ) → StandsForEither capacity items addition.item c
              → StandsForOneMore query (disk.contents d) capacity items c
          to c (inl stands) = inl stands
          to c (inr stands) = inr (addition, may_add fits t, stands)

    both_ways : Fits addition.item there → (way : Way) → disk.tells d → IsWay (disk.contents d) way
        → NothingPending disk d
        → EachImageSince disk d d2 (HasWayOrOneMore query (disk.contents d) way)
    both_ways fits way t is_way only =
        joined disk.moment disk.left_since d d1 d2 (HasWayOrOneMore query (disk.contents d) way)
        (way_still way d d1 (ready.only_read.unwritten t) is_way only)
        (weaker disk.moment disk.left_since d1 d2 (HasEitherWay there addition.item)
        (HasWayOrOneMore query (disk.contents d) way) to
        (adding.on_way.any_moment (ready.tell.told t) (ready.keeps t) (ready.synced t))) where
          same : there ≡ way
          same = one_way query once (disk.contents d) there way (way_is t) is_way

          to : (c : List ℕ) → HasEitherWay there addition.item c → HasWayOrOneMore query (disk.contents d) way c
          to c (inl is) = inl (subst (IsWay c) same is)
          to c (inr is) =
              inr (addition, may_add fits t, subst (λ (w : Way). IsWay c (way_added addition.item w)) same is.0)

    -- the bytes before the last gate and after the new end, whatever the item
    outside_here : (c : List ℕ) → disk.tells d
        → StaysOutside (last_gate (kept_by shelf)) (new_end addition.item (kept_by shelf)) (disk.contents d1) c
        → StaysOutside (there.end - 1) (way_added addition.item there).end (disk.contents d) c
    outside_here c t is =
        subst (λ (l : List ℕ). StaysOutside (there.end - 1) (way_added addition.item there).end l c)
        (ready.only_read.unwritten t).contents is

    both_bytes : Fits addition.item there → (way : Way) → disk.tells d → IsWay (disk.contents d) way
        → NothingPending disk d
        → EachImageSince disk d d2 (AreSameOrOneMore query (disk.contents d) way)
    both_bytes fits way t is_way only =
        joined disk.moment disk.left_since d d1 d2 (AreSameOrOneMore query (disk.contents d) way)
        (bytes_still way d d1 (ready.only_read.unwritten t) only)
        (weaker disk.moment disk.left_since d1 d2 AreBoth (AreSameOrOneMore query (disk.contents d) way) to
        (both disk.moment disk.left_since d1 d2 Outside Within
        (adding.outside_any_moment (ready.tell.told t) (ready.synced t))
        (adding.on_way.bytes_any_moment (ready.tell.told t) (ready.keeps t) (ready.synced t)))) where
          same : there ≡ way
          same = one_way query once (disk.contents d) there way (way_is t) is_way

          Outside : List ℕ → Type 0
          Outside =
              StaysOutside (last_gate (kept_by shelf)) (new_end addition.item (kept_by shelf)) (disk.contents d1)

          Within : List ℕ → Type 0
          Within = WithOrWithout (take (last_gate (kept_by shelf)) (disk.contents d1)) (item_bytes addition.item)

          AreBoth : List ℕ → Type 0
          AreBoth c = Outside c × Within c

          within_here : (c : List ℕ) → Within c
              → WithOrWithout (take (there.end - 1) (disk.contents d)) (item_bytes addition.item) c
          within_here c is =
              subst (λ (l : List ℕ). WithOrWithout (take (there.end - 1) l) (item_bytes addition.item) c)
              (ready.only_read.unwritten t).contents is

          OneMore : List ℕ → Way → Type 0
          OneMore c w =
              StaysOutside (w.end - 1) (way_added addition.item w).end (disk.contents d) c
              × WithOrWithout (take (w.end - 1) (disk.contents d)) (item_bytes addition.item) c

          to : (c : List ℕ) → AreBoth c → AreSameOrOneMore query (disk.contents d) way c
          to c is =
              let one = subst (OneMore c) same (outside_here c t is.0, within_here c is.1) in
              inr (addition, may_add fits t, one.0, one.1)

    -- the shelf is full
    pub full_run : (needed : ℕ) → answer ≡ Err (Capacity' needed there.capacity)
        → there.capacity < (way_added addition.item there).end
        → needed ≡ min (way_added addition.item there).end most_u64
        → RunsAdding (outlets_of disk out) query (Refused (Capacity needed there.capacity)) (outlets d o)
        (outlets d2 o)
    full_run needed is over needs =
        refused_run d d2 o told_both untold_both
        (refusal_only_read (Capacity' needed there.capacity) is (λ same. cc (same)))
        (Capacity needed there.capacity) tt
        (refusal_counted (Capacity' needed there.capacity) is (λ same. cc (same)))
        (λ t. inr (
          there,
          way_is t,
          inr (
            addition,
            decided t,
            record { over = over; is = ap (λ (n : ℕ). Capacity n there.capacity) needs },
          ),
        ))

    -- memory was refused
    pub no_memory_run : answer ≡ Err NoMemory'
        → RunsAdding (outlets_of disk out) query NoMemory (outlets d o) (outlets d2 o)
    no_memory_run is =
        earlier_run d d2 o told_both untold_both (refusal_only_read NoMemory' is (λ same. cc (same))) NoMemory tt
        (quiet_counts disk out NoMemory d d2 o o tt (refusal_counted NoMemory' is (λ same. cc (same))) refl)

    -- the disk failed: with the item or without it
    pub failed_run : answer ≡ Err Disk' → Fits addition.item there
        → RunsAdding (outlets_of disk out) query (Failed Disk) (outlets d o) (outlets d2 o)
    failed_run is fits = record {
      may = tt;
      counted =
          subst
          (λ (c : FaultCounts). CountsTell NoneBesides (Failed Disk) c
          (outlet_counts (outlets_of disk out) (outlets d2 o)))
          (same_counts disk out d d1 o o ready.count refl)
          (shelf_counted disk out A d1 d2 o Disk' (λ same. cc (same))
          (subst (λ (r : Result A ShelfError). IsFaultCounted (disk.faults d1) (disk.faults d2) r) is
          adding.calls.counted));
      tell = record {
        by_disk = record { told = told_both; untold = untold_both };
        by_out = tells_still;
      };
      leaves = inr (
        refl,
        record {
          addition = addition;
          made = made;
          decided = may_add fits;
          way = λ way t is_way.
              subst (λ (w : Way). MayEndWith (outlets_of disk out).disk addition.item w d d2)
              (one_way query once (disk.contents d) there way (way_is t) is_way)
              (record {
                has = adding.on_way.either (ready.tell.told t) (ready.keeps t);
                outside = outside_here (disk.contents d2) t (adding.outside (ready.tell.told t));
              });
          stands = λ capacity items t durable.
              adding.on_items.either capacity items (ready.settled capacity items t durable);
        },
      );
      refused = λ r same t. cc (same);
      refuses = λ r t is_r. inr tt;
      adds = λ other t may. inr tt;
      way_any_moment = both_ways fits;
      bytes_any_moment = both_bytes fits;
      any_moment = both_moments fits;
    }

    -- ---- the item was added

    module _ (value : A) (added : answer ≡ Ok value) (fits : Fits addition.item there) where
      on_ok : (P : Type 0) → OnOk answer P → P
      on_ok P p = subst (λ (r : Result A ShelfError). OnOk r P) added p

      count_both : disk.faults d2 ≡ disk.faults d
      count_both =
          subst (λ (r : Result A ShelfError). IsFaultCounted (disk.faults d1) (disk.faults d2) r) added
          adding.calls.counted ∙ ready.count

      way_after : disk.tells d → IsWay (disk.contents d2) (way_added addition.item there)
      way_after t =
          subst (λ (k : KeptShelf). IsWay (disk.contents d2) k.way)
          (on_ok (kept_by shelf2 ≡ kept_with addition.item (kept_by shelf)) adding.kept)
          (on_ok (KeepsWay (disk.contents d2) shelf2) (adding.on_way.way (ready.tell.told t) (ready.keeps t)))

      abbrev ItemStands : List ℕ → Type 0
      ItemStands c =
          take (2 + extent_of (head_of_item addition.item)) (drop (there.end - 1) c)
          ≡ 1 ∷ (item_bytes addition.item ++ 0 ∷ [])

      adds_item : (IsPut : List ℕ → O → O → Type 0) (o2 : O) → IsPut addition.text o o2
          → AddsItem (outlets_of disk out) query IsPut (outlets d o) (outlets d2 o2)
      adds_item IsPut o2 put = record {
        addition = addition;
        made = made;
        decided = may_add fits;
        put = put;
        way = λ way t is_way.
            subst (λ (w : Way). EndsWith (outlets_of disk out).disk addition.item w d d2)
            (one_way query once (disk.contents d) there way (way_is t) is_way)
            (record {
              has = way_after t;
              outside = outside_here (disk.contents d2) t (adding.outside (ready.tell.told t));
              stands = on_ok (ItemStands (disk.contents d2)) (adding.stands (ready.tell.told t));
              durable = on_ok (NothingPending disk d2) (adding.durable (ready.tell.told t));
            });
        stands = λ capacity items t durable.
            (on_ok (IsSettled disk capacity (items ++ addition.item ∷ []) shelf2 d2)
            (adding.on_items.acknowledged capacity items (ready.settled capacity items t durable))).on_disk;
      }

      -- and the text was put
      pub done_run : (o2 : O) → Puts out addition.text o o2
          → RunsAdding (outlets_of disk out) query Done (outlets d o) (outlets d2 o2)
      done_run o2 puts = record {
        may = tt;
        counted = quiet_counts disk out Done d d2 o o2 tt count_both puts.kept;
        tell = record {
          by_disk = record { told = told_both; untold = untold_both };
          by_out = puts.tell;
        };
        leaves = adds_item (Puts out) o2 puts;
        refused = λ r same t. cc (same);
        refuses = λ r t is. absurd (over_none query once (disk.contents d) r addition is (may_add fits t));
        adds = λ other t may. inl tt;
        way_any_moment = both_ways fits;
        bytes_any_moment = both_bytes fits;
        any_moment = both_moments fits;
      }

      -- or it wasn't
      pub cut_run : (o2 : O) → PutFails out addition.text o o2
          → RunsAdding (outlets_of disk out) query (Failed Output) (outlets d o) (outlets d2 o2)
      cut_run o2 fails = record {
        may = tt;
        counted = out_counts disk out d d2 o o2 fails.rose count_both;
        tell = record {
          by_disk = record { told = told_both; untold = untold_both };
          by_out = fails.tell;
        };
        leaves = adds_item (PutFails out) o2 fails;
        refused = λ r same t. cc (same);
        refuses = λ r t is. absurd (over_none query once (disk.contents d) r addition is (may_add fits t));
        adds = λ other t may. inl tt;
        way_any_moment = both_ways fits;
        bytes_any_moment = both_bytes fits;
        any_moment = both_moments fits;
      }
