-- One frame more in a history: the packets that end in it, and what then stands of its channel.
use Rattle.std.proofs.Common.{◌≡◌, ℕ, ◌+◌, ◌<◌, ◌≤◌, Bool, true, false, cond, List, [], ◌∷◌, ◌++◌, length, filter}
use Rattle.std.proofs.Common.{flat_map, Some, refl, sym, ap, ap₂, ◌∙◌, subst, ⊎_elim, arith, append-nil, append_assoc}
use Rattle.std.proofs.Common.{zero-add, eqb, eq-eqb, ne_eqb, ltb}
use Rattle.std.proofs.lemmas.List.Concat.{flat_map-append}
use Rattle.std.proofs.lemmas.List.Elements.{filter-append, recursion_from_All, All-from_recursion}
use Rattle.std.proofs.lemmas.Bool.{cases_eq}
use Rattle.std.specs.List.{AllByRecursion as Each, enumerate_from}
use Rattle.lr_bits.specs.Packet.{Packet}
use Rattle.lr_bits.specs.declared.sizes.TheConstants.{FILL_CHANNEL, ZONE_BYTES}
use Rattle.lr_vc.specs.Frame.{Fields}
use Rattle.lr_vc.specs.Runs.{Run, AreChannelFrames, channel_frames, runs_of}
use Rattle.lr_vc.specs.Packets.{packets_ending, packets_in, packets_at, packets_of, place_of, starts_of}
use Rattle.lr_vc.specs.Standing.{open_packets, last_counter, last_run}
use Rattle.lr_vc.specs.Steps.{follows, completed_packet, continued_packet, packets_inside, opened_packets}
use Rattle.lr_vc.proofs.Lists.{Each_weaker, Each_left, Each-filter, filter_none, flat_map_same, enumerate_from-append}
use Rattle.lr_vc.proofs.Lists.{Each-enumerate_from, Each_right}
use Rattle.lr_vc.proofs.Grown.{AreZones}
use Rattle.lr_vc.proofs.Endings.{packets_ending-earlier, packets_ending-new, open_packets-more}
use Rattle.lr_vc.proofs.LastRun.{last_run-more, Each-runs_of, zones_of-last_run, places_of-last_run, flat_map-runs_same}
use Rattle.lr_vc.proofs.LastRun.{flat_map-runs_last, place_of_below, packets_ending_none}

-- every frame's zone has 884 bytes
abbrev HaveZones : List Fields → Type 0
HaveZones frames = Each (λ f. length f.zone ≡ ZONE_BYTES) frames

pub zones_each : (frames : List Fields) → AreChannelFrames frames → HaveZones frames
zones_each frames h = recursion_from_All (λ f. length f.zone ≡ ZONE_BYTES) frames h

enumerate_more : (history : List Fields) (f : Fields) →
    enumerate_from 0 (history ++ f ∷ []) ≡ enumerate_from 0 history ++ (length history, f) ∷ []
enumerate_more history f =
    enumerate_from-append 0 history (f ∷ []) ∙ ap (λ n. enumerate_from 0 history ++ (n, f) ∷ [])
    (zero-add (length history))

Each-enumerated : (P : Fields → Type 0) (n : ℕ) (frames : List Fields) → Each P frames →
    Each (λ f. P f.1) (enumerate_from n frames)
Each-enumerated P n [] _ = tt
Each-enumerated P n (f ∷ fs) h = (h.0, Each-enumerated P (n + 1) fs h.1)

places_enumerated : (frames : List Fields) → Each (λ f. f.0 < length frames) (enumerate_from 0 frames)
places_enumerated frames =
    let P : ℕ × Fields → Type 0 = λ f. (0 ≤ f.0) × (f.0 < 0 + length frames) in
    let Q : ℕ × Fields → Type 0 = λ f. f.0 < length frames in
    Each_weaker P Q (λ f h. omega (arith, h.1)) (enumerate_from 0 frames) (Each-enumerate_from 0 frames)

-- ---- the frames of a channel

pub channel_frames-more : (channel : ℕ) (history : List Fields) (f : Fields) →
    channel_frames channel (history ++ f ∷ []) ≡ channel_frames channel history
    ++ cond (eqb f.vc channel) ((length history, f) ∷ []) []
unfolding channel_frames
channel_frames-more channel history f =
    let test = λ (f : ℕ × Fields). eqb f.1.vc channel in
    ap (filter test) (enumerate_more history f) ∙ filter-append test (enumerate_from 0 history)
    ((length history, f) ∷ [])

pub channel_frames-own : (history : List Fields) (f : Fields) →
    channel_frames f.vc (history ++ f ∷ []) ≡ channel_frames f.vc history ++ (length history, f) ∷ []
channel_frames-own history f =
    channel_frames-more f.vc history f ∙ ap (λ b. channel_frames f.vc history ++ cond b ((length history, f) ∷ []) [])
    (eq-eqb f.vc f.vc refl)

pub channel_frames-other : (channel : ℕ) (history : List Fields) (f : Fields) → (f.vc ≡ channel → ⊥) →
    channel_frames channel (history ++ f ∷ []) ≡ channel_frames channel history
channel_frames-other channel history f ne =
    channel_frames-more channel history f ∙ ap (λ b. channel_frames channel history
    ++ cond b ((length history, f) ∷ []) []) (ne_eqb f.vc channel ne) ∙ append-nil (channel_frames channel history)

zones_of_channel : (channel : ℕ) (history : List Fields) → HaveZones history → AreZones (channel_frames channel history)
unfolding channel_frames
zones_of_channel channel history h =
    Each-filter (λ f. length f.1.zone ≡ ZONE_BYTES) (λ f. eqb f.1.vc channel) (enumerate_from 0 history)
    (Each-enumerated (λ f. length f.zone ≡ ZONE_BYTES) 0 history h)

places_of_channel : (channel : ℕ) (history : List Fields) →
    Each (λ f. f.0 < length history) (channel_frames channel history)
unfolding channel_frames
places_of_channel channel history =
    Each-filter (λ f. f.0 < length history) (λ f. eqb f.1.vc channel) (enumerate_from 0 history)
    (places_enumerated history)

pub last_counter-append : (fs : List (ℕ × Fields)) (g : ℕ × Fields) → last_counter (fs ++ g ∷ []) ≡ Some g.1.counter
last_counter-append [] g = refl
last_counter-append (f ∷ []) g = refl
last_counter-append (f ∷ f' ∷ fs) g = last_counter-append (f' ∷ fs) g

-- ---- what the last run of a channel becomes, with its next frame

-- the open packets that the next frame meets: those of the last run, if it joins that
abbrev pub met : List (ℕ × Fields) → ℕ → List (List ℕ)
met fs counter = cond (follows (last_counter fs) counter) (open_packets (last_run (runs_of fs))) []

pub open_none : open_packets [] ≡ []
unfolding open_packets starts_of
open_none = refl

ending_none : (channel place : ℕ) → packets_ending channel place [] ≡ []
unfolding packets_ending starts_of
ending_none channel place = refl

module _ (fs : List (ℕ × Fields)) (g : ℕ × Fields) (zones : AreZones fs) (long : length g.1.zone ≡ ZONE_BYTES) where
  last_run_zones : AreZones (last_run (runs_of fs))
  last_run_zones = zones_of-last_run fs zones

  pub open_packets-next :
      open_packets (last_run (runs_of (fs ++ g ∷ [])))
      ≡ flat_map (continued_packet g.1.zone g.1.pointer) (met fs g.1.counter)
      ++ cond (ltb g.1.pointer ZONE_BYTES) (opened_packets g.1) []
  open_packets-next =
      let last = last_run (runs_of fs) in
      let inside = cond (ltb g.1.pointer ZONE_BYTES) (opened_packets g.1) [] in
      let joins = follows (last_counter fs) g.1.counter in
      let G = continued_packet g.1.zone g.1.pointer in
      let Q : Bool → Type 0 =
      λ j. open_packets (cond j (last ++ g ∷ []) (g ∷ [])) ≡ flat_map G (cond j (open_packets last) []) ++ inside in
      ap open_packets (last_run-more fs g) ∙
      elim joins as Q [
        | true ↦ open_packets-more last g last_run_zones long
        | false ↦ open_packets-more [] g tt long ∙ ap (λ os. flat_map G os ++ inside) open_none
      ]

  pub packets_ending-next : (channel : ℕ) → Each (λ f. f.0 < g.0) fs →
      flat_map (packets_ending channel g.0) (runs_of (fs ++ g ∷ []))
      ≡ flat_map (completed_packet channel g.1.zone g.1.pointer) (met fs g.1.counter)
      ++ cond (ltb g.1.pointer ZONE_BYTES) (packets_inside channel g.1.zone g.1.pointer) []
  packets_ending-next channel below =
      let last = last_run (runs_of fs) in
      let inside = cond (ltb g.1.pointer ZONE_BYTES) (packets_inside channel g.1.zone g.1.pointer) [] in
      let joins = follows (last_counter fs) g.1.counter in
      let F = packets_ending channel g.0 in
      let G = completed_packet channel g.1.zone g.1.pointer in
      let Both : Run → Type 0 = λ run. AreZones run × Each (λ f. f.0 < g.0) run in
      let each : (fs' : List Run) → Each AreZones fs' → Each (λ run. Each (λ f. f.0 < g.0) run) fs' →
      Each (λ run. F run ≡ []) fs' = none_each channel in
      let none : Each (λ run. F run ≡ []) (runs_of fs) =
      each (runs_of fs) (Each-runs_of (λ f. length f.1.zone ≡ ZONE_BYTES) fs zones)
      (Each-runs_of (λ f. f.0 < g.0) fs below) in
      let places : Each (λ f. f.0 < g.0) last = places_of-last_run g.0 fs below in
      let apart : (u : ℕ) → u < length last → place_of last u ≡ g.0 → ⊥ =
      λ u k e. let lower = place_of_below g.0 last u places k in omega arith in
      let Q : Bool → Type 0 =
      λ j. F (cond j (last ++ g ∷ []) (g ∷ [])) ≡ flat_map G (cond j (open_packets last) []) ++ inside in
      flat_map-runs_last F fs g none ∙ ap F (last_run-more fs g) ∙
      elim joins as Q [
        | true ↦ packets_ending-new last g last_run_zones long channel apart
        | false ↦ packets_ending-new [] g tt long channel (λ u k _. absurd (omega arith))
            ∙ ap (λ os. flat_map G os ++ inside) open_none
      ]
    where
      none_each : (channel : ℕ) (runs : List Run) → Each AreZones runs → Each (λ run. Each (λ f. f.0 < g.0) run) runs →
          Each (λ run. packets_ending channel g.0 run ≡ []) runs
      none_each channel [] _ _ = tt
      none_each channel (run ∷ runs) h k = (packets_ending_none channel g.0 run h.0 k.0, none_each channel runs h.1 k.1)

  pub packets_ending-stay : (channel place : ℕ) → (g.0 ≡ place → ⊥) →
      flat_map (packets_ending channel place) (runs_of (fs ++ g ∷ [])) ≡
      flat_map (packets_ending channel place) (runs_of fs)
  packets_ending-stay channel place ne =
      flat_map-runs_same (packets_ending channel place) fs g zones
      (λ run z. packets_ending-earlier run g z long channel place ne)
      (packets_ending-earlier [] g tt long channel place ne ∙ ending_none channel place)

-- ---- the packets that end in a frame

pub packets_at-last : (history : List Fields) (f : Fields) →
    packets_at (history ++ f ∷ []) (length history) ≡ packets_in (history ++ f ∷ []) (length history, f)
unfolding packets_at
packets_at-last history f =
    let n = length history in
    let test = λ (f : ℕ × Fields). eqb f.0 n in
    let apart : Each (λ f. test f ≡ false) (enumerate_from 0 history) =
    Each_weaker (λ f. f.0 < n) (λ f. test f ≡ false) (λ f h. ne_eqb f.0 n (λ e. omega arith)) (enumerate_from 0 history)
    (places_enumerated history) in
    let only : filter test (enumerate_from 0 (history ++ f ∷ [])) ≡ (n, f) ∷ [] =
    ap (filter test) (enumerate_more history f) ∙ filter-append test (enumerate_from 0 history) ((n, f) ∷ [])
    ∙ ap₂ (λ xs b. xs ++ cond b ((n, f) ∷ []) []) (filter_none test (enumerate_from 0 history) apart)
    (eq-eqb n n refl) in
    ap (flat_map (packets_in (history ++ f ∷ []))) only ∙ append-nil (packets_in (history ++ f ∷ []) (n, f))

-- channel 63 is fill
pub packets_at-fill : (history : List Fields) (f : Fields) → f.vc ≡ FILL_CHANNEL →
    packets_at (history ++ f ∷ []) (length history) ≡ []
unfolding packets_in
packets_at-fill history f e = packets_at-last history f ∙ rw (eq-eqb f.vc FILL_CHANNEL e) refl

pub packets_at-next : (history : List Fields) (f : Fields) → AreChannelFrames history → length f.zone ≡ ZONE_BYTES →
    (f.vc ≡ FILL_CHANNEL → ⊥) →
    packets_at (history ++ f ∷ []) (length history)
    ≡ flat_map (completed_packet f.vc f.zone f.pointer) (met (channel_frames f.vc history) f.counter)
    ++ cond (ltb f.pointer ZONE_BYTES) (packets_inside f.vc f.zone f.pointer) []
unfolding packets_in
packets_at-next history f frames long ne =
    let fs = channel_frames f.vc history in
    let g : ℕ × Fields = (length history, f) in
    let zones = zones_of_channel f.vc history (zones_each history frames) in
    packets_at-last history f ∙ rw (ne_eqb f.vc FILL_CHANNEL ne)
    (ap (λ cs. flat_map (packets_ending f.vc (length history)) (runs_of cs)) (channel_frames-own history f)
    ∙ packets_ending-next fs g zones long f.vc (places_of_channel f.vc history))

-- ---- the kept parts

pub last_counter-own : (history : List Fields) (f : Fields) →
    last_counter (channel_frames f.vc (history ++ f ∷ [])) ≡ Some f.counter
last_counter-own history f =
    ap last_counter (channel_frames-own history f) ∙ last_counter-append (channel_frames f.vc history)
    (length history, f)

pub open_packets-own : (history : List Fields) (f : Fields) → AreChannelFrames history → length f.zone ≡ ZONE_BYTES →
    open_packets (last_run (runs_of (channel_frames f.vc (history ++ f ∷ []))))
    ≡ flat_map (continued_packet f.zone f.pointer) (met (channel_frames f.vc history) f.counter)
    ++ cond (ltb f.pointer ZONE_BYTES) (opened_packets f) []
open_packets-own history f frames long =
    ap (λ cs. open_packets (last_run (runs_of cs))) (channel_frames-own history f)
    ∙ open_packets-next (channel_frames f.vc history) (length history, f)
    (zones_of_channel f.vc history (zones_each history frames)) long

-- ---- laws

packets_in-stay : (history : List Fields) (f : Fields) → HaveZones history → length f.zone ≡ ZONE_BYTES →
    (x : ℕ × Fields) →
    x.0 < length history →
    packets_in (history ++ f ∷ []) x ≡ packets_in history x
unfolding packets_in
packets_in-stay history f zones long x h =
    let c = x.1.vc in
    let fs = channel_frames c history in
    let F = packets_ending c x.0 in
    let same : flat_map F (runs_of (channel_frames c (history ++ f ∷ []))) ≡ flat_map F (runs_of fs) =
    ⊎_elim (λ own.
    ap (λ cs. flat_map F (runs_of cs)) (channel_frames-more c history f
    ∙ ap (λ b. fs ++ cond b ((length history, f) ∷ []) []) (eq-eqb f.vc c own))
    ∙ packets_ending-stay fs (length history, f) (zones_of_channel c history zones) long c x.0 (λ e. omega arith))
    (λ other. ap (λ cs. flat_map F (runs_of cs)) (channel_frames-other c history f other))
    (cases_eq f.vc c) in
    ap (λ ps. cond (eqb c FILL_CHANNEL) [] ps) same

-- one frame more adds the packets that end in it
pub packets_of-more : (history : List Fields) (f : Fields) → AreChannelFrames (history ++ f ∷ []) →
    packets_of (history ++ f ∷ []) ≡ packets_of history ++ packets_at (history ++ f ∷ []) (length history)
unfolding packets_of
packets_of-more history f frames =
    let all = zones_each (history ++ f ∷ []) frames in
    let P : Fields → Type 0 = λ f. length f.zone ≡ ZONE_BYTES in
    let zones : HaveZones history = Each_left P history (f ∷ []) all in
    let long : length f.zone ≡ ZONE_BYTES = (Each_right P history (f ∷ []) all).0 in
    let I = packets_in (history ++ f ∷ []) in
    let same : flat_map I (enumerate_from 0 history) ≡ flat_map (packets_in history) (enumerate_from 0 history) =
    flat_map_same I (packets_in history) (enumerate_from 0 history)
    (Each_weaker (λ x. x.0 < length history) (λ x. I x ≡ packets_in history x)
    (λ x h. packets_in-stay history f zones long x h) (enumerate_from 0 history) (places_enumerated history)) in
    ap (flat_map I) (enumerate_more history f) ∙ flat_map-append I (enumerate_from 0 history) ((length history, f) ∷ [])
    ∙ ap₂ (λ xs ys. xs ++ ys) same (append-nil (I (length history, f)) ∙ sym (packets_at-last history f))

-- the packets of the first frames come first
pub packets_of-append : (history more : List Fields) → AreChannelFrames (history ++ more) →
    (later : List Packet) × (packets_of (history ++ more) ≡ packets_of history ++ later)
packets_of-append history [] _ = ([], ap packets_of (append-nil history) ∙ sym (append-nil (packets_of history)))
packets_of-append history (f ∷ fs) frames =
    let split : history ++ f ∷ fs ≡ (history ++ f ∷ []) ++ fs = sym (append_assoc history (f ∷ []) fs) in
    let all : AreChannelFrames ((history ++ f ∷ []) ++ fs) = subst AreChannelFrames split frames in
    let P : Fields → Type 0 = λ f. length f.zone ≡ ZONE_BYTES in
    let first : AreChannelFrames (history ++ f ∷ []) =
    All-from_recursion P (history ++ f ∷ []) (Each_left P (history ++ f ∷ []) fs
    (zones_each ((history ++ f ∷ []) ++ fs) all)) in
    let rest = packets_of-append (history ++ f ∷ []) fs all in (
      packets_at (history ++ f ∷ []) (length history) ++ rest.0,
      ap packets_of split ∙ rest.1 ∙ ap (λ ps. ps ++ rest.0) (packets_of-more history f first)
          ∙ append_assoc (packets_of history) (packets_at (history ++ f ∷ []) (length history)) rest.0,
    )
