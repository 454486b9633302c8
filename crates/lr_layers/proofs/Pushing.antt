-- What stands of the outcomes when one more is pushed.
use Rattle.std.proofs.Common.{◌≡◌, ℕ, ◌+◌, ◌-◌, Bool, true, false, not, ◌&&◌, List, [], ◌∷◌, ◌++◌, length, map}
use Rattle.std.proofs.Common.{ap, ap₂, ◌∙◌, sym, refl, subst, arith, eqb, eqb-true}
use Rattle.std.proofs.Common.{append-nil, append_assoc, length-append, add-zero, Some, None}
use Rattle.std.specs.Prelude.{count_by, filter, if◌then◌else◌, sum}
use Rattle.std.specs.Option.{option_to_list}
use Rattle.std.specs.List.{filter_map}
use Rattle.std.specs.Result.{result_ok}
use Rattle.std.proofs.lemmas.List.{length-map, map-append}
use Rattle.std.proofs.lemmas.List.Elements.{filter_map-append}
use Rattle.std.proofs.lemmas.List.Sums.{fold-append, length-filter}
use Rattle.lr_bits.specs.declared.outcome.Outcome.{Outcome}
use Rattle.lr_bits.specs.declared.outcome.Outcome.TheVariants.{Restored, Lost}
use Rattle.lr_bits.specs.declared.outcome.Corrected.{Corrected}
use Rattle.lr_bits.specs.declared.placed.Placed.{Placed}
use Rattle.lr_mend.specs.declared.marks.MarkedFile.{MarkedFile}
use Rattle.lr_bits.specs.Packet.{Packet}
use Rattle.lr_vc.specs.Frame.{Fields, fields_of, frame_of, version_of}
use Rattle.lr_vc.specs.Packets.{packets_of, packets_at}
use Rattle.lr_vc.specs.Standing.{ChannelsStandFor}
use Rattle.lr_vc.proofs.History.{packets_of-more}
use Rattle.lr_packet.specs.Verdict.{Good, good_packets}
use Rattle.lr_packet.proofs.VerdictLemmas.{good_packets-append}
use Rattle.lr_bits.specs.declared.placed.Origin.{Origin}
use Rattle.lr_mend.specs.MendedFiles.{MendedStandFor, file_of_packet, files_of_gap, mended_files}
use Rattle.lr_mend.specs.Mending.{mended_packets}
use Rattle.lr_mend.proofs.PlainFiles.{files_more}
use Rattle.lr_layers.specs.declared.counts.AddedCounts.{AddedCounts}
use Rattle.lr_layers.specs.declared.starts.Now.{Now}
use Rattle.lr_layers.specs.Layers.{CountsView, mended_numbers_of, frame_in, frames_of_outcomes, good_of_outcomes}
use Rattle.lr_layers.specs.Layers.{is_bad_version, is_fill}
use Rattle.lr_bits.specs.Outcomes.{is_restored}
use Rattle.lr_bits.specs.declared.sizes.TheConstants.{FILL_CHANNEL}
use Rattle.lr_layers.specs.Origins.{PlacedPacket, packet_of, at_place, placed_packets}
use Rattle.lr_layers.specs.Origins.{MarkedPlaced, corrected_in, marked_of_outcomes, mended_of_outcomes}
use Rattle.lr_layers.specs.Origins.{origin_of, placed_files_after, placed_in, with_origin}
use Rattle.lr_layers.specs.Standing.{AddsFound, AddsMarked, AddsMended, KeptLayers, MendingLayersStandFor}
use Rattle.lr_layers.specs.Starts.{AtHand, Found, IsNow, Joins, JoinerStandsFor, StartsStandFor, corrected_before}
use Rattle.lr_layers.specs.Steps.{AddsFrame, CountsFrame, FrameGains}
use Rattle.lr_layers.specs.declared.frames.FrameLayers.{FrameLayers}
use Rattle.lr_layers.specs.declared.packets.Joiner.{Joiner}
use Rattle.lr_layers.proofs.Changes.{corrected_before-more, corrected_before-same}
use Rattle.lr_layers.proofs.Joining.{joins_none, placed_files-append}
use Rattle.lr_layers.proofs.Places.{placed_packets-more, packets_ending-are, all_below, packets_with_more}
use Rattle.lr_layers.proofs.Starting.{starts_stay}
use Rattle.lr_layers.proofs.Staying.{placed_files-stay}

-- ---- the packets of a frame were pushed

pub took : (at : AtHand) (frames : List Fields) (f : Fields) (layers : FrameLayers) (gains : FrameGains) →
    ChannelsStandFor layers.channels (frames ++ f ∷ []) → (cleared items listed : List Packet) → cleared ≡ [] →
    items ≡ cleared ++ packets_at (frames ++ f ∷ []) (length frames) → listed ≡ items →
    Joins at (good_packets listed) layers.joiner gains.old gains.new →
    gains.counts.packets ≡ length (good_packets listed) →
    gains.counts.files ≡ length gains.new.files - length gains.old.files → AddsFrame at frames f layers gains
took at frames f layers gains stands cleared items listed none read same joins good count =
    let P = packets_at (frames ++ f ∷ []) (length frames) in
    let listed_are : listed ≡ P = same ∙ read ∙ ap (λ l. l ++ P) none in
    record {
      stands = stands;
      ending = good_packets listed;
      good = ap good_packets (packets_of-more frames f stands.frames) ∙ good_packets-append (packets_of frames) P
          ∙ ap (λ l. good_packets (packets_of frames) ++ good_packets l) (sym listed_are);
      joins = joins;
      packets = good;
      files = omega (
        arith,
        count,
        ap (λ (f : Found). length f.files) joins.added,
        length-append gains.old.files (map placed_in joins.more),
        length-map joins.more placed_in,
      );
    }

-- ---- numbers

count_by-push : (p : Outcome → Bool) (outcomes : List Outcome) (outcome : Outcome) →
    count_by p (outcomes ++ outcome ∷ []) ≡ count_by p outcomes + (if p outcome then 1 else 0)
count_by-push p outcomes outcome =
    fold-append (λ (a : ℕ) (o : Outcome). a + (if p o then 1 else 0)) 0 outcomes (outcome ∷ [])

-- each outcome is restored or lost
each_kind : (outcomes : List Outcome) →
    length (filter is_restored outcomes) + length (filter (λ o. not (is_restored o)) outcomes) ≡ length outcomes
each_kind [] = refl
each_kind (Restored corrected frame ∷ outcomes) = let rest = each_kind outcomes in omega (arith, rest)
each_kind (Lost word ∷ outcomes) = let rest = each_kind outcomes in omega (arith, rest)

-- so the two kinds together are all outcomes
pub both_kinds : (outcomes : List Outcome) →
    count_by is_restored outcomes + count_by (λ o. not (is_restored o)) outcomes ≡ length outcomes
both_kinds outcomes =
    ap₂ (λ a b. a + b) (sym (length-filter is_restored outcomes))
    (sym (length-filter (λ o. not (is_restored o)) outcomes))
    ∙ each_kind outcomes

abbrev one_if : Bool → ℕ
one_if test = if test then 1 else 0

-- an outcome was counted, and this many good packets and files
pub record Counts (old : CountsView) (outcome : Outcome) (good placed : ℕ) (new : CountsView) : Type 0 where
  restored : new.restored ≡ old.restored + one_if (is_restored outcome)
  lost : new.lost ≡ old.lost + one_if (not (is_restored outcome))
  bad_versions : new.bad_versions ≡ old.bad_versions + one_if (is_bad_version outcome)
  fill : new.fill ≡ old.fill + one_if (is_fill outcome)
  packets : new.packets ≡ old.packets + good
  files : new.files ≡ old.files + placed

-- numbers that agree in each part are the same
same_numbers : (a b : CountsView) → a.restored ≡ b.restored → a.lost ≡ b.lost → a.bad_versions ≡ b.bad_versions →
    a.fill ≡ b.fill → a.packets ≡ b.packets → a.files ≡ b.files → a ≡ b
same_numbers a b restored lost bad_versions fill packets files =
    let mk : ℕ → ℕ → ℕ → ℕ → ℕ → ℕ → CountsView = λ r l v i p f.
    record { restored = r; lost = l; bad_versions = v; fill = i; packets = p; files = f } in
    ap (λ k. mk k a.lost a.bad_versions a.fill a.packets a.files) restored
    ∙ ap (λ k. mk b.restored k a.bad_versions a.fill a.packets a.files) lost
    ∙ ap (λ k. mk b.restored b.lost k a.fill a.packets a.files) bad_versions
    ∙ ap (λ k. mk b.restored b.lost b.bad_versions k a.packets a.files) fill
    ∙ ap (λ k. mk b.restored b.lost b.bad_versions b.fill k a.files) packets
    ∙ ap (λ k. mk b.restored b.lost b.bad_versions b.fill b.packets k) files

-- ---- the frames and the good packets of one outcome more

-- an outcome that is no frame of version 1 adds no frame
pub frames_same : (outcomes : List Outcome) (outcome : Outcome) → frame_in outcome ≡ None →
    frames_of_outcomes (outcomes ++ outcome ∷ []) ≡ frames_of_outcomes outcomes
unfolding frames_of_outcomes
frames_same outcomes outcome none =
    filter_map-append frame_in outcomes (outcome ∷ []) ∙ rw none (append-nil (filter_map frame_in outcomes))

-- one that is adds it
pub frames_more : (outcomes : List Outcome) (outcome : Outcome) (f : Fields) → frame_in outcome ≡ Some f →
    frames_of_outcomes (outcomes ++ outcome ∷ []) ≡ frames_of_outcomes outcomes ++ f ∷ []
unfolding frames_of_outcomes
frames_more outcomes outcome f some = filter_map-append frame_in outcomes (outcome ∷ []) ∙ rw some refl

pub good_is : (outcomes : List Outcome) (frames : List Fields) → frames_of_outcomes outcomes ≡ frames →
    good_of_outcomes outcomes ≡ good_packets (packets_of frames)
unfolding good_of_outcomes
good_is outcomes frames is = ap (λ l. good_packets (packets_of l)) is

-- ---- the files, without their origins

-- a file without its origin
abbrev file_in : MarkedPlaced → MarkedFile
file_in marked = record { file = marked.placed.file; fillers = marked.fillers }

parts : (origin : Origin) (files : List MarkedFile) → map file_in (map (with_origin origin) files) ≡ files
parts origin [] = refl
parts origin (f ∷ files) = ap (λ l. f ∷ l) (parts origin files)

files_without : (mend : ℕ) (outcomes : List Outcome) (before packets : List PlacedPacket) →
    mended_files mend (map packet_of before) ++ map file_in (placed_files_after mend outcomes before packets)
    ≡ mended_files mend (map packet_of (before ++ packets))
files_without mend outcomes before [] =
    append-nil (mended_files mend (map packet_of before))
    ∙ ap (λ (l : List PlacedPacket). mended_files mend (map packet_of l)) (sym (append-nil before))
files_without mend outcomes before (p ∷ packets) =
    let front = mended_files mend (map packet_of before) in
    let gap = files_of_gap mend (map packet_of before) p.packet in
    let own = option_to_list (file_of_packet mend (map packet_of before) p.packet) in
    let first = origin_of outcomes before p in
    let second = origin_of outcomes (before ++ p ∷ []) p in
    let rest = placed_files_after mend outcomes (before ++ p ∷ []) packets in
    ap (λ l. front ++ l) (map-append _ (map (with_origin first) gap ++ map (with_origin second) own) rest
    ∙ ap (λ l. l ++ map file_in rest) (map-append _ (map (with_origin first) gap)
    (map (with_origin second) own) ∙ ap₂ (λ a b. a ++ b) (parts first gap) (parts second own)))
    ∙ sym (append_assoc front (gap ++ own) (map file_in rest))
    ∙ ap (λ l. l ++ map file_in rest) (sym (files_more mend (map packet_of before) p.packet)
    ∙ ap (mended_files mend) (sym (map-append packet_of before (p ∷ []))))
    ∙ files_without mend outcomes (before ++ p ∷ []) packets
    ∙ ap (λ (l : List PlacedPacket). mended_files mend (map packet_of l)) (append_assoc before (p ∷ []) packets)

none_mended : (mend : ℕ) → mended_files mend [] ≡ []
unfolding mended_files mended_packets
none_mended mend = refl

-- where the placed packets are the good ones, the files with origins are the files
files_are : (mend : ℕ) (outcomes : List Outcome) →
    map packet_of (placed_packets outcomes) ≡ good_of_outcomes outcomes →
    map file_in (marked_of_outcomes mend outcomes) ≡ mended_files mend (good_of_outcomes outcomes)
unfolding marked_of_outcomes
files_are mend outcomes are =
    ap (λ l. l ++ map file_in (placed_files_after mend outcomes [] (placed_packets outcomes)))
    (sym (none_mended mend))
    ∙ files_without mend outcomes [] (placed_packets outcomes) ∙ ap (mended_files mend) are

files_in : (all : List MarkedPlaced) →
    map (λ (q : Placed). q.file) (map placed_in all) ≡ map (λ (m : MarkedFile). m.file) (map file_in all)
files_in [] = refl
files_in (q ∷ all) = ap (λ l. q.placed.file ∷ l) (files_in all)

-- the files with origins are the mended ones
pub files_with_origins : (mend : ℕ) (outcomes : List Outcome) →
    map packet_of (placed_packets outcomes) ≡ good_of_outcomes outcomes →
    map (λ (q : Placed). q.file) (mended_of_outcomes mend outcomes)
    ≡ map (λ (m : MarkedFile). m.file) (mended_files mend (good_of_outcomes outcomes))
files_with_origins mend outcomes are =
    files_in (marked_of_outcomes mend outcomes) ∙ ap (map (λ (m : MarkedFile). m.file)) (files_are mend outcomes are)

pub count_of_files : (mend : ℕ) (outcomes : List Outcome) →
    map packet_of (placed_packets outcomes) ≡ good_of_outcomes outcomes →
    length (marked_of_outcomes mend outcomes) ≡ length (mended_files mend (good_of_outcomes outcomes))
count_of_files mend outcomes are =
    sym (length-map (marked_of_outcomes mend outcomes) file_in) ∙ ap length (files_are mend outcomes are)

-- ---- nothing was pushed

pub stands_for_none : (mend : ℕ) (kept : KeptLayers) → kept.files.images.most ≡ mend → kept.spent ≡ false →
    ChannelsStandFor kept.channels [] →
    MendedStandFor kept.files [] →
    StartsStandFor [] kept.starts [] → kept.corrected ≡ 0 →
    kept.numbers ≡ record { restored = 0; lost = 0; bad_versions = 0; fill = 0; packets = 0; files = 0 } →
    MendingLayersStandFor mend kept []
unfolding frames_of_outcomes good_of_outcomes packets_of mended_files mended_packets
    placed_packets corrected_before
stands_for_none mend kept most unspent channels files starts corrected none = record {
  most = most;
  unspent = unspent;
  channels = channels;
  files = files;
  starts = starts;
  packets = refl;
  corrected = corrected;
  numbers = none;
}

-- ---- one outcome more, after which these good packets end

module _ (mend : ℕ) (outcomes : List Outcome) (outcome : Outcome) (ending : List Good)
    (good : good_of_outcomes (outcomes ++ outcome ∷ []) ≡ good_of_outcomes outcomes ++ ending) where
  pub placed_now : placed_packets (outcomes ++ outcome ∷ []) ≡ placed_packets outcomes
      ++ at_place (length outcomes) ending
  placed_now = placed_packets-more outcomes outcome
      ∙ ap (λ l. placed_packets outcomes ++ at_place (length outcomes) l)
      (packets_ending-are outcomes outcome ending good)

  pub packets_now : map packet_of (placed_packets outcomes) ≡ good_of_outcomes outcomes →
      map packet_of (placed_packets (outcomes ++ outcome ∷ [])) ≡ good_of_outcomes (outcomes ++ outcome ∷ [])
  packets_now are = ap (map packet_of) placed_now ∙ packets_with_more (placed_packets outcomes) (length outcomes) ending
      ∙ ap (λ l. l ++ ending) are ∙ sym good

  pub files_now : marked_of_outcomes mend (outcomes ++ outcome ∷ []) ≡ marked_of_outcomes mend outcomes
      ++ placed_files_after mend (outcomes ++ outcome ∷ []) (placed_packets outcomes)
      (at_place (length outcomes) ending)
  unfolding marked_of_outcomes
  files_now = ap (placed_files_after mend (outcomes ++ outcome ∷ []) []) placed_now
      ∙ placed_files-append mend (outcomes ++ outcome ∷ []) [] (placed_packets outcomes)
      (at_place (length outcomes) ending)
      ∙ ap (λ l. l ++ placed_files_after mend (outcomes ++ outcome ∷ []) (placed_packets outcomes)
      (at_place (length outcomes) ending))
      (placed_files-stay mend outcomes outcome (placed_packets outcomes) (all_below outcomes))

-- the outcome that comes after all of these
abbrev at_end : ℕ → Bool → List Outcome → Outcome → AtHand
at_end mend counted outcomes outcome = record {
  mend = mend;
  counted = counted;
  outcomes = outcomes ++ outcome ∷ [];
  place = length outcomes;
  before = placed_packets outcomes;
}

abbrev joiner_of : KeptLayers → Joiner
joiner_of kept = record { files = kept.files; starts = kept.starts }

-- what is kept after a frame
abbrev kept_after : KeptLayers → FrameLayers → Now → CountsView → KeptLayers
kept_after old layers now numbers = record {
  spent = old.spent;
  channels = layers.channels;
  files = layers.joiner.files;
  starts = layers.joiner.starts;
  corrected = now.corrected;
  numbers = numbers;
}

-- what is kept of the files and of their starts, for an outcome more
joined_before : {mend : ℕ} (outcomes : List Outcome) (outcome : Outcome) (kept : KeptLayers) →
    MendingLayersStandFor mend kept outcomes →
    JoinerStandsFor (joiner_of kept) (outcomes ++ outcome ∷ []) (placed_packets outcomes)
joined_before outcomes outcome kept stood = record {
  files = subst (λ (l : List Good). MendedStandFor kept.files l) (sym stood.packets) stood.files;
  starts = starts_stay outcomes outcome kept.starts (placed_packets outcomes) (all_below outcomes) stood.starts;
}

module _ (mend : ℕ) (outcomes : List Outcome) (outcome : Outcome) (old new : KeptLayers)
    (stood : MendingLayersStandFor mend old outcomes) (ending : List Good)
    (good : good_of_outcomes (outcomes ++ outcome ∷ []) ≡ good_of_outcomes outcomes ++ ending)
    (channels : ChannelsStandFor new.channels (frames_of_outcomes (outcomes ++ outcome ∷ [])))
    (counted : Bool) (before after : Found)
    (same : new.files.images.most ≡ old.files.images.most)
    (joins : Joins (at_end mend counted outcomes outcome) ending (joiner_of new) before after) where
  packets_are : map packet_of (placed_packets (outcomes ++ outcome ∷ [])) ≡ good_of_outcomes (outcomes ++ outcome ∷ [])
  packets_are = packets_now mend outcomes outcome ending good stood.packets

  added_files : marked_of_outcomes mend (outcomes ++ outcome ∷ []) ≡ marked_of_outcomes mend outcomes ++ joins.more
  added_files =
      files_now mend outcomes outcome ending good ∙ ap (λ l. marked_of_outcomes mend outcomes ++ l) joins.all

  pub adds : AddsFound mend counted outcomes outcome before after
  adds = record { more = joins.more; added = joins.added; all = added_files }

  count_now : length (mended_files mend (good_of_outcomes (outcomes ++ outcome ∷ []))) ≡
      length (mended_files mend (good_of_outcomes outcomes)) + length joins.more
  count_now = sym (count_of_files mend (outcomes ++ outcome ∷ []) packets_are) ∙ ap length added_files
      ∙ length-append (marked_of_outcomes mend outcomes) joins.more
      ∙ ap (λ n. n + length joins.more) (count_of_files mend outcomes stood.packets)

  pub pushed : new.spent ≡ false → new.corrected ≡ old.corrected + corrected_in outcome →
      Counts old.numbers outcome (length ending) (length joins.more) new.numbers →
      MendingLayersStandFor mend new (outcomes ++ outcome ∷ [])
  pushed unspent corrected counts = record {
    most = same ∙ stood.most;
    unspent = unspent;
    channels = channels;
    files = subst (λ (l : List Good). MendedStandFor new.files l) packets_are
        (subst (λ (l : List PlacedPacket). MendedStandFor new.files (map packet_of l))
        (sym (placed_now mend outcomes outcome ending good)) joins.stands.files);
    starts = subst (λ (l : List PlacedPacket). StartsStandFor (outcomes ++ outcome ∷ []) new.starts l)
        (sym (placed_now mend outcomes outcome ending good)) joins.stands.starts;
    packets = packets_are;
    corrected = corrected ∙ ap (λ n. n + corrected_in outcome) stood.corrected
        ∙ sym (ap (corrected_before (outcomes ++ outcome ∷ [])) (length-append outcomes (outcome ∷ []))
        ∙ corrected_before-more outcomes outcome);
    numbers = same_numbers new.numbers (mended_numbers_of mend (outcomes ++ outcome ∷ []))
        (counts.restored ∙ ap (λ (k : CountsView). k.restored + one_if (is_restored outcome)) stood.numbers
        ∙ sym (count_by-push is_restored outcomes outcome))
        (counts.lost ∙ ap (λ (k : CountsView). k.lost + one_if (not (is_restored outcome))) stood.numbers
        ∙ sym (count_by-push (λ o. not (is_restored o)) outcomes outcome))
        (counts.bad_versions ∙ ap (λ (k : CountsView). k.bad_versions + one_if (is_bad_version outcome)) stood.numbers
        ∙ sym (count_by-push is_bad_version outcomes outcome))
        (counts.fill ∙ ap (λ (k : CountsView). k.fill + one_if (is_fill outcome)) stood.numbers
        ∙ sym (count_by-push is_fill outcomes outcome))
        (counts.packets ∙ ap (λ (k : CountsView). k.packets + length ending) stood.numbers
        ∙ sym (ap length good ∙ length-append (good_of_outcomes outcomes) ending))
        (counts.files ∙ ap (λ (k : CountsView). k.files + length joins.more) stood.numbers ∙ sym count_now);
  }

pub good_same : (outcomes : List Outcome) (outcome : Outcome) → frame_in outcome ≡ None →
    good_of_outcomes (outcomes ++ outcome ∷ []) ≡ good_of_outcomes outcomes ++ []
good_same outcomes outcome none =
    good_is (outcomes ++ outcome ∷ []) (frames_of_outcomes outcomes) (frames_same outcomes outcome none)
    ∙ sym (good_is outcomes (frames_of_outcomes outcomes) refl) ∙ sym (append-nil (good_of_outcomes outcomes))

pub good_with : (outcomes : List Outcome) (outcome : Outcome) (f : Fields) (ending : List Good) →
    frame_in outcome ≡ Some f →
    good_packets (packets_of (frames_of_outcomes outcomes ++ f ∷ [])) ≡
    good_packets (packets_of (frames_of_outcomes outcomes)) ++ ending →
    good_of_outcomes (outcomes ++ outcome ∷ []) ≡ good_of_outcomes outcomes ++ ending
good_with outcomes outcome f ending some good =
    good_is (outcomes ++ outcome ∷ []) (frames_of_outcomes outcomes ++ f ∷ []) (frames_more outcomes outcome f some)
    ∙ good
    ∙ ap (λ l. l ++ ending) (sym (good_is outcomes (frames_of_outcomes outcomes) refl))

-- what was pushed adds no frame
pushed_none : (mend : ℕ) (outcomes : List Outcome) (outcome : Outcome) (old : KeptLayers) (corrected : ℕ)
    (numbers : CountsView)
    (counted : Bool) (files : Found) → MendingLayersStandFor mend old outcomes → frame_in outcome ≡ None →
    corrected ≡ old.corrected + corrected_in outcome → Counts old.numbers outcome 0 0 numbers →
    MendingLayersStandFor mend (record old { corrected = corrected; numbers = numbers }) (outcomes ++ outcome ∷ [])
    × AddsFound mend counted outcomes outcome files files
unfolding joins_none
pushed_none mend outcomes outcome old corrected numbers counted files stood none changed counts =
    let new : KeptLayers = record old { corrected = corrected; numbers = numbers } in
    let good = good_same outcomes outcome none in
    let stands : ChannelsStandFor old.channels (frames_of_outcomes (outcomes ++ outcome ∷ [])) =
    subst (λ (l : List Fields). ChannelsStandFor old.channels l) (sym (frames_same outcomes outcome none))
    stood.channels in
    let at = at_end mend counted outcomes outcome in
    let joins : Joins at [] (joiner_of new) files files =
    joins_none at (joiner_of old) files (joined_before outcomes outcome old stood) in (
      pushed mend outcomes outcome old new stood [] good stands counted files files refl joins stood.unspent changed
          counts,
      adds mend outcomes outcome old new stood [] good stands counted files files refl joins,
    )

-- the outcome at hand
pub now_is : {mend : ℕ} (outcomes : List Outcome) (outcome : Outcome) (old : KeptLayers) (now : Now) →
    MendingLayersStandFor mend old outcomes →
    now.start.place ≡ old.numbers.restored + old.numbers.lost → now.start.corrected ≡ old.corrected →
    now.corrected ≡ old.corrected + corrected_in outcome →
    IsNow (outcomes ++ outcome ∷ []) now × (now.start.place ≡ length outcomes)
now_is outcomes outcome old now stood place before after =
    let all = outcomes ++ outcome ∷ [] in
    let n = length outcomes in
    let at : now.start.place ≡ n =
    place ∙ ap (λ (k : CountsView). k.restored + k.lost) stood.numbers ∙ both_kinds outcomes in (
      record {
        before = before ∙ stood.corrected ∙ sym (corrected_before-same outcomes outcome n (omega arith))
            ∙ ap (corrected_before all) (sym at);
        after = after ∙ ap (λ k. k + corrected_in outcome) stood.corrected
            ∙ sym (corrected_before-more outcomes outcome)
            ∙ ap (λ k. corrected_before all (k + 1)) (sym at);
      },
      at,
    )

-- a frame was pushed
pushed_frame : (mend : ℕ) (outcomes : List Outcome) (outcome : Outcome) (old : KeptLayers) (layers : FrameLayers)
    (f : Fields)
    (now : Now) (numbers : CountsView) (counted : Bool) (gains : FrameGains) →
    MendingLayersStandFor mend old outcomes → frame_in outcome ≡ Some f →
    now.start.place ≡ length outcomes →
    layers.joiner.files.images.most ≡ old.files.images.most →
    AddsFrame (record (at_end mend counted outcomes outcome) { place = now.start.place })
    (frames_of_outcomes outcomes) f layers gains →
    now.corrected ≡ old.corrected + corrected_in outcome →
    Counts old.numbers outcome gains.counts.packets gains.counts.files numbers →
    MendingLayersStandFor mend (kept_after old layers now numbers) (outcomes ++ outcome ∷ [])
    × AddsFound mend counted outcomes outcome gains.old gains.new
pushed_frame mend outcomes outcome old layers f now numbers counted gains stood some at same takes changed counts =
    let new = kept_after old layers now numbers in
    let good = good_with outcomes outcome f takes.ending some takes.good in
    let stands : ChannelsStandFor layers.channels (frames_of_outcomes (outcomes ++ outcome ∷ [])) =
    subst (λ (l : List Fields). ChannelsStandFor layers.channels l)
    (sym (frames_more outcomes outcome f some)) takes.stands in
    let P : ℕ → Type 0 = λ n.
    (joins : Joins (record (at_end mend counted outcomes outcome) { place = n }) takes.ending
    layers.joiner gains.old gains.new)
    × (gains.counts.files ≡ length joins.more) in
    let here : P (length outcomes) = subst P at (takes.joins, takes.files) in
    let all : Counts old.numbers outcome (length takes.ending) (length here.0.more) numbers = record {
      restored = counts.restored;
      lost = counts.lost;
      bad_versions = counts.bad_versions;
      fill = counts.fill;
      packets = counts.packets ∙ ap (λ n. old.numbers.packets + n) takes.packets;
      files = counts.files ∙ ap (λ n. old.numbers.files + n) here.1;
    } in (
      pushed mend outcomes outcome old new stood takes.ending good stands counted gains.old gains.new same here.0
          stood.unspent changed all,
      adds mend outcomes outcome old new stood takes.ending good stands counted gains.old gains.new same here.0,
    )

-- ---- the ways of an outcome

module _ (mend : ℕ) (outcomes : List Outcome) (outcome : Outcome) (old kept : KeptLayers) (seen : old ≡ kept)
    (h : MendingLayersStandFor mend kept outcomes) (counted : Bool) (files : Found) where
  stood : MendingLayersStandFor mend old outcomes
  stood = subst (λ (k : KeptLayers). MendingLayersStandFor mend k outcomes) (sym seen) h

  -- a block was lost
  pub pushed_lost : (word : ℕ) → outcome ≡ Lost word →
      MendingLayersStandFor mend (record old { numbers = record (old.numbers) { lost = old.numbers.lost + 1 } })
      (outcomes ++ outcome ∷ []) × AddsFound mend counted outcomes outcome files files
  pushed_lost word is =
      let numbers = record (old.numbers) { lost = old.numbers.lost + 1 } in
      subst (λ (o : Outcome). MendingLayersStandFor mend (record old { numbers = numbers }) (outcomes ++ o ∷ [])
      × AddsFound mend counted outcomes o files files) (sym is)
      (pushed_none mend outcomes (Lost word) old old.corrected numbers counted files stood refl
      (sym (add-zero old.corrected))
      (record {
        restored = sym (add-zero old.numbers.restored);
        lost = refl;
        bad_versions = sym (add-zero old.numbers.bad_versions);
        fill = sym (add-zero old.numbers.fill);
        packets = sym (add-zero old.numbers.packets);
        files = sym (add-zero old.numbers.files);
      }))

  module _ (corrected : Corrected) (frame : List ℕ) (is : outcome ≡ Restored corrected frame) (now : Now)
      (changed : ℕ) (changes : changed ≡ sum corrected.0) (after : now.corrected ≡ kept.corrected + changed)
      (read : CountsView) (counts : CountsFrame frame old.numbers read) where
    after_all : now.corrected ≡ old.corrected + corrected_in (Restored corrected frame)
    after_all = after ∙ ap₂ (λ (k : KeptLayers) (n : ℕ). k.corrected + n) (sym seen) changes

    count_all : (packets files : ℕ) → Counts old.numbers (Restored corrected frame) packets files (record read {
      restored = read.restored + 1;
      packets = read.packets + packets;
      files = read.files + files;
    })
    count_all packets files = record {
      restored = ap (λ k. k + 1) counts.restored;
      lost = counts.lost ∙ sym (add-zero old.numbers.lost);
      bad_versions = counts.bad_versions;
      fill = counts.fill;
      packets = ap (λ k. k + packets) counts.packets;
      files = ap (λ k. k + files) counts.files;
    }

    -- it was restored to no frame of version 1
    pub pushed_unread : None ≡ result_ok (frame_of frame) →
        MendingLayersStandFor mend
        (record old { corrected = now.corrected; numbers = record read { restored = read.restored + 1 } })
        (outcomes ++ outcome ∷ []) × AddsFound mend counted outcomes outcome files files
    pushed_unread none =
        let numbers = record read { restored = read.restored + 1 } in
        subst (λ (o : Outcome). MendingLayersStandFor mend (record old { corrected = now.corrected; numbers = numbers })
        (outcomes ++ o ∷ []) × AddsFound mend counted outcomes o files files) (sym is)
        (pushed_none mend outcomes (Restored corrected frame) old now.corrected numbers counted files stood (sym none)
        after_all
        (record {
          restored = ap (λ k. k + 1) counts.restored;
          lost = counts.lost ∙ sym (add-zero old.numbers.lost);
          bad_versions = counts.bad_versions;
          fill = counts.fill;
          packets = counts.packets ∙ sym (add-zero old.numbers.packets);
          files = counts.files ∙ sym (add-zero old.numbers.files);
        }))

    -- it was restored to one
    pub pushed_read : (f : Fields) (layers : FrameLayers) (gained : AddedCounts) (new : Found) →
        Some f ≡ result_ok (frame_of frame) → now.start.place ≡ kept.numbers.restored + kept.numbers.lost →
        now.start.corrected ≡ kept.corrected →
        layers.joiner.files.images.most ≡ old.files.images.most →
        ((all : List Outcome) (before : List PlacedPacket) (frames : List Fields) →
        ChannelsStandFor old.channels frames → JoinerStandsFor (joiner_of old) all before → IsNow all now →
        AddsFrame (record {
          mend = old.files.images.most;
          counted = counted;
          outcomes = all;
          place = now.start.place;
          before = before;
        }) frames f layers
        (record { old = files; new = new; counts = gained })) →
        MendingLayersStandFor mend (kept_after old layers now (record read {
          restored = read.restored + 1;
          packets = read.packets + gained.packets;
          files = read.files + gained.files;
        })) (outcomes ++ outcome ∷ []) × AddsFound mend counted outcomes outcome files new
    pushed_read f layers gained new some place before same takes =
        let o = Restored corrected frame in
        let gains : FrameGains = record { old = files; new = new; counts = gained } in
        let numbers = record read {
          restored = read.restored + 1;
          packets = read.packets + gained.packets;
          files = read.files + gained.files;
        } in
        let at = now_is outcomes o old now stood
        (place ∙ ap (λ (k : KeptLayers). k.numbers.restored + k.numbers.lost) (sym seen))
        (before ∙ ap (λ (k : KeptLayers). k.corrected) (sym seen)) after_all in
        subst (λ (o : Outcome). MendingLayersStandFor mend (kept_after old layers now numbers) (outcomes ++ o ∷ [])
        × AddsFound mend counted outcomes o files new) (sym is)
        (pushed_frame mend outcomes o old layers f now numbers counted gains stood (sym some) at.1 same
        (subst (λ (n : ℕ). AddsFrame (record {
          mend = n;
          counted = counted;
          outcomes = outcomes ++ o ∷ [];
          place = now.start.place;
          before = placed_packets outcomes;
        }) (frames_of_outcomes outcomes) f layers gains) stood.most
        (takes (outcomes ++ o ∷ []) (placed_packets outcomes) (frames_of_outcomes outcomes)
        stood.channels (joined_before outcomes o old stood) at.0)) after_all (count_all gained.packets gained.files))

-- ---- what was appended, without the numbers of fillers, and with them

pub adds_files : {mend : ℕ} {outcomes : List Outcome} {outcome : Outcome} {old new : Found} →
    AddsFound mend false outcomes outcome old new → AddsMended mend outcomes outcome old.files new.files
adds_files {mend} {outcomes} {outcome} {old} {new} adds =
    record {
      more = map placed_in adds.more;
      added = ap (λ (f : Found). f.files) adds.added;
      files = ap (map placed_in) adds.all ∙ map-append placed_in (marked_of_outcomes mend outcomes) adds.more;
    }

pub adds_marked : {mend : ℕ} {outcomes : List Outcome} {outcome : Outcome} {old new : Found} →
    AddsFound mend true outcomes outcome old new → AddsMarked mend outcomes outcome old new
adds_marked {mend} {outcomes} {outcome} {old} {new} adds =
    record {
      more = adds.more;
      files = ap (λ (f : Found). f.files) adds.added;
      fillers = ap (λ (f : Found). f.fillers) adds.added;
      all = adds.all;
    }

by_version : (frame : List ℕ) (f : Fields) (first : Bool) → eqb (version_of frame) 1 ≡ first →
    Some f ≡ result_ok (frame_of frame) → (eqb (version_of frame) 1 && eqb (fields_of frame).vc FILL_CHANNEL) ≡ true →
    f.vc ≡ FILL_CHANNEL
by_version frame f true one is fill =
    let fields : Some f ≡ Some (fields_of frame) = rw one at is in
    let vc : eqb (fields_of frame).vc FILL_CHANNEL ≡ true = rw one at fill in
    let same : f ≡ fields_of frame = cc in
    ap (λ (g : Fields). g.vc) same ∙ eqb-true _ _ vc
by_version frame f false other is fill = absurd (cc (rw other at fill))

-- a frame that was read and is of fill has channel 63
pub fill_channel : (corrected : Corrected) (frame : List ℕ) (f : Fields) → Some f ≡ result_ok (frame_of frame) →
    is_fill (Restored corrected frame) ≡ true → f.vc ≡ FILL_CHANNEL
fill_channel corrected frame f is fill = by_version frame f (eqb (version_of frame) 1) refl is fill
