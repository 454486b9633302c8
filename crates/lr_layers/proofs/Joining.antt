-- Packets that are joined to files one after another, with the origins of the files.
use Rattle.std.proofs.Common.{◌≡◌, ℕ, ◌+◌, ◌-◌, ◌≤◌, ◌<◌, Option, Some, None, List, [], ◌∷◌, ◌++◌, length, take}
use Rattle.std.proofs.Common.{drop, map}
use Rattle.std.proofs.Common.{refl, sym, ap, ap₂, ◌∙◌, subst, arith, append-nil, append_assoc, length-take, get_or}
use Rattle.std.specs.Option.{option_map, option_to_list}
use Rattle.std.specs.List.{cons_option}
use Rattle.std.specs.Result.{result_ok}
use Rattle.std.specs.Prelude.{Result, Ok, Bool, true, false, if◌then◌else◌, unwrap_or}
use Rattle.std.proofs.Math.Seq.{take-length}
use Rattle.std.proofs.lemmas.List.{map-append, take-append-drop, take-take, take_more}
use Rattle.lr_bits.specs.declared.outcome.Outcome.{Outcome}
use Rattle.lr_bits.specs.declared.placed.Origin.{Origin}
use Rattle.lr_mend.specs.declared.marks.MarkedFile.{MarkedFile}
use Rattle.lr_bits.specs.Packet.{Packet}
use Rattle.lr_packet.specs.declared.packet.PacketFault.{PacketFault}
use Rattle.lr_packet.specs.Verdict.{Good, good_packets, verdict_of}
use Rattle.lr_packet.proofs.VerdictLemmas.{good_packets-append}
use Rattle.lr_vc.proofs.ZoneStarts.{back_none, front_none}
use Rattle.lr_file.specs.Standing.{kept_of_key}
use Rattle.lr_mend.specs.MendedFiles.{MendedStandFor, file_of_packet, files_of_gap}
use Rattle.lr_layers.specs.declared.starts.Start.{Start}
use Rattle.lr_layers.specs.declared.starts.Now.{Now}
use Rattle.lr_layers.specs.declared.packets.Joiner.{Joiner}
use Rattle.lr_layers.specs.Origins.{PlacedPacket, packet_of, at_place, latest_start, origin_of, placed_files_after}
use Rattle.lr_layers.specs.Origins.{MarkedPlaced, corrected_between, fillers_in, placed_files_with, placed_in}
use Rattle.lr_layers.specs.Origins.{placed_of_key, with_origin}
use Rattle.lr_layers.specs.Starts.{corrected_before, NotesStart, StartsStandFor, IsNow, start_in}
use Rattle.lr_layers.specs.Starts.{AtHand, Found, JoinerStandsFor, Joins, found, found_and}
use Rattle.lr_layers.specs.Steps.{KeepsFilesBefore}
use Rattle.lr_layers.proofs.Changes.{corrected_between-is}
use Rattle.lr_layers.proofs.Places.{packets_with_more}
use Rattle.lr_layers.proofs.Starting.{starts_more}

-- ---- files that are found one after another

numbers_none : (counted : Bool) → ◌≡◌ {A = List ℕ} (if counted then [] else []) []
numbers_none true = refl
numbers_none false = refl

pub found_none : (counted : Bool) (old : Found) → found_and counted old [] ≡ old
found_none counted old =
    (λ i. found (old.files ++ []) (old.fillers ++ numbers_none counted i))
    ∙ ap₂ found (append-nil old.files) (append-nil old.fillers)

abbrev numbers_if : Bool → List MarkedPlaced → List ℕ
numbers_if counted more = if counted then map fillers_in more else []

numbers_more : (counted : Bool) (old : List ℕ) (first second : List MarkedPlaced) →
    (old ++ numbers_if counted first) ++ numbers_if counted second ≡ old ++ numbers_if counted (first ++ second)
numbers_more true old first second =
    append_assoc old (map fillers_in first) (map fillers_in second)
    ∙ ap (λ l. old ++ l) (sym (map-append fillers_in first second))
numbers_more false old first second = append-nil (old ++ [])

pub found_more : (counted : Bool) (old : Found) (first second : List MarkedPlaced) →
    found_and counted (found_and counted old first) second ≡ found_and counted old (first ++ second)
found_more counted old first second =
    ap₂ found (append_assoc old.files (map placed_in first) (map placed_in second)
    ∙ ap (λ l. old.files ++ l) (sym (map-append placed_in first second)))
    (numbers_more counted old.fillers first second)

-- no packet, no file
unfoldable pub joins_none : (at : AtHand) (joiner : Joiner) (old : Found) →
    JoinerStandsFor joiner at.outcomes at.before → Joins at [] joiner old old
joins_none at joiner old stand = record {
  stands = subst (λ (l : List PlacedPacket). JoinerStandsFor joiner at.outcomes l) (sym (append-nil at.before)) stand;
  more = [];
  added = sym (found_none at.counted old);
  all = refl;
}

pub placed_files-append : (mend : ℕ) (outcomes : List Outcome) (before first second : List PlacedPacket) →
    placed_files_after mend outcomes before (first ++ second)
    ≡ placed_files_after mend outcomes before first ++ placed_files_after mend outcomes (before ++ first) second
placed_files-append mend outcomes before [] second =
    ap (λ (l : List PlacedPacket). placed_files_after mend outcomes l second) (sym (append-nil before))
placed_files-append mend outcomes before (p ∷ first) second =
    let here = placed_files_with mend outcomes before p in
    ap (λ l. here ++ l) (placed_files-append mend outcomes (before ++ p ∷ []) first second)
    ∙ ap (λ (l : List PlacedPacket). here ++ (placed_files_after mend outcomes (before ++ p ∷ []) first
    ++ placed_files_after mend outcomes l second))
    (append_assoc before (p ∷ []) first)
    ∙ sym (append_assoc here (placed_files_after mend outcomes (before ++ p ∷ []) first)
    (placed_files_after mend outcomes (before ++ p ∷ first) second))

-- packets after others
pub joins_more : (at : AtHand) (first second : List Good) {joiner later : Joiner} {old between new : Found} →
    Joins at first joiner old between →
    Joins (record at { before = at.before ++ at_place at.place first }) second later between new →
    Joins at (first ++ second) later old new
joins_more at first second {joiner} {later} {old} {between} {new} a b =
    let one = at_place at.place first in
    let other = at_place at.place second in
    let both : one ++ other ≡ at_place at.place (first ++ second) = sym (map-append _ first second) in
    record {
      stands = subst (λ (l : List PlacedPacket). JoinerStandsFor later at.outcomes l)
          (append_assoc at.before one other ∙ ap (λ l. at.before ++ l) both) b.stands;
      more = a.more ++ b.more;
      added = b.added ∙ ap (λ (f : Found). found_and at.counted f b.more) a.added
          ∙ found_more at.counted old a.more b.more;
      all = ap (placed_files_after at.mend at.outcomes at.before) (sym both)
          ∙ placed_files-append at.mend at.outcomes at.before one other ∙ ap₂ (λ x y. x ++ y) a.all b.all;
    }

-- ---- one packet

abbrev pub here : Now → Good → PlacedPacket
here now g = record { place = now.start.place; packet = g }

-- the origin that is told of a kept start
origin_is : (outcomes : List Outcome) (g : Good) (now : Now) → IsNow outcomes now → (kept : Option Start)
    (latest : Option PlacedPacket) → kept ≡ option_map (start_in outcomes) latest → (origin : Origin) →
    (let from = unwrap_or kept now.start in origin ≡ record {
      first = from.place;
      last = now.start.place;
      corrected = now.corrected - from.corrected;
    }) →
    (let first = (unwrap_or latest (here now g)).place in origin ≡ record {
      first = first;
      last = now.start.place;
      corrected = corrected_between outcomes first now.start.place;
    })
origin_is outcomes g now is kept None same origin told =
    let mk : ℕ → Origin = λ corrected.
    record { first = now.start.place; last = now.start.place; corrected = corrected } in
    let from : unwrap_or kept now.start ≡ now.start = ap (λ (o : Option Start). unwrap_or o now.start) same in
    told ∙ ap (λ (s : Start). let o : Origin = record {
      first = s.place;
      last = now.start.place;
      corrected = now.corrected - s.corrected;
    } in o) from
    ∙ ap mk (ap₂ (λ a b. a - b) is.after is.before
    ∙ sym (corrected_between-is outcomes now.start.place now.start.place))
origin_is outcomes g now is kept (Some p) same origin told =
    let mk : ℕ → Origin = λ corrected.
    record { first = p.place; last = now.start.place; corrected = corrected } in
    let from : unwrap_or kept now.start ≡ start_in outcomes p =
    ap (λ (o : Option Start). unwrap_or o now.start) same in
    told ∙ ap (λ (s : Start). let o : Origin = record {
      first = s.place;
      last = now.start.place;
      corrected = now.corrected - s.corrected;
    } in o) from
    ∙ ap mk (ap (λ a. a - corrected_before outcomes p.place) is.after
    ∙ sym (corrected_between-is outcomes p.place now.start.place))

-- the origin that is told of what is kept of a packet's channel and application
pub origin_told : (outcomes : List Outcome) (placed : List PlacedPacket) (g : Good) (now : Now) → IsNow outcomes now →
    (starts : List ((ℕ × ℕ) × Start)) → StartsStandFor outcomes starts placed → (kept : Option Start) →
    kept ≡ kept_of_key starts g.vc g.apid → (origin : Origin) →
    (let from = unwrap_or kept now.start in origin ≡ record {
      first = from.place;
      last = now.start.place;
      corrected = now.corrected - from.corrected;
    }) → origin ≡ origin_of outcomes placed (here now g)
origin_told outcomes placed g now is starts stand kept same origin told =
    origin_is outcomes g now is kept (latest_start (placed_of_key g.vc g.apid placed))
    (same ∙ stand.starts g.vc g.apid) origin told

module _ (mend : ℕ) (counted : Bool) (outcomes : List Outcome) (before : List PlacedPacket) (g : Good) (now : Now)
    (is : IsNow outcomes now) (starts : List ((ℕ × ℕ) × Start)) (begun : StartsStandFor outcomes starts before)
    (joiner : Joiner) (notes : NotesStart starts joiner.starts g now.start)
    (stands : MendedStandFor joiner.files (map packet_of before ++ g ∷ [])) where
  abbrev at : AtHand
  at = record { mend = mend; counted = counted; outcomes = outcomes; place = now.start.place; before = before }

  pub one_stands : JoinerStandsFor joiner outcomes (before ++ here now g ∷ [])
  one_stands = record {
    files = subst (λ (l : List Good). MendedStandFor joiner.files l)
        (sym (packets_with_more before now.start.place (g ∷ []))) stands;
    starts = starts_more outcomes starts joiner.starts before g now is begun notes;
  }

  -- the files that end with it, and with its fillers
  pub joins_packet : (old between new : Found) (gap own : Option MarkedFile) (first second : Origin) →
      option_to_list gap ≡ files_of_gap mend (map packet_of before) g →
      own ≡ file_of_packet mend (map packet_of before) g →
      first ≡ origin_of outcomes before (here now g) →
      second ≡ origin_of outcomes (before ++ here now g ∷ []) (here now g) →
      between ≡ found_and counted old (map (with_origin first) (option_to_list gap)) →
      new ≡ found_and counted between (map (with_origin second) (option_to_list own)) → Joins at (g ∷ []) joiner old new
  joins_packet old between new gap own first second gap_is own_is first_is second_is some more =
      let all = map (with_origin first) (option_to_list gap) ++ map (with_origin second) (option_to_list own) in
      record {
        stands = one_stands;
        more = all;
        added = more ∙ ap (λ (f : Found). found_and counted f (map (with_origin second) (option_to_list own))) some
            ∙ found_more counted old (map (with_origin first) (option_to_list gap))
            (map (with_origin second) (option_to_list own));
        all = append-nil (placed_files_with mend outcomes before (here now g))
            ∙ (λ i. map (with_origin (sym first_is i)) (sym gap_is i)
            ++ map (with_origin (sym second_is i)) (option_to_list (sym own_is i)));
      }

-- ---- lists that keep their fronts

pub keeps_all : (old : Found) → KeepsFilesBefore old old
keeps_all old = record { files = take-length old.files; fillers = take-length old.fillers }

-- a good packet is the good ones of itself
pub good_one : (packet : Packet) (g : Good) → verdict_of packet ≡ Ok g → good_packets (packet ∷ []) ≡ g ∷ []
good_one packet g is = ap (λ (r : Result Good PacketFault). cons_option (result_ok r) []) is

-- what was kept twice is kept
front_kept : {T : Type 0} (old between new : List T) → take (length old) between ≡ old →
    take (length between) new ≡ between → take (length old) new ≡ old
front_kept old between new a b =
    let short : length old ≤ length between = omega (arith, ap length a, length-take (length old) between) in
    sym (take-take (length old) (length between) new short) ∙ ap (take (length old)) b ∙ a

pub keeps_on : (old between new : Found) → KeepsFilesBefore old between → KeepsFilesBefore between new
    → KeepsFilesBefore old new
keeps_on old between new a b =
    record {
      files = front_kept old.files between.files new.files a.files b.files;
      fillers = front_kept old.fillers between.fillers new.fillers a.fillers b.fillers;
    }

-- the good ones of one packet more
pub good_more : (packets : List Packet) (place : ℕ) (packet : Packet) → place < length packets →
    packet ≡ get_or packets place packet →
    good_packets (take (place + 1) packets) ≡ good_packets (take place packets) ++ good_packets (packet ∷ [])
good_more packets place packet inside is =
    ap good_packets (take_more packets place packet inside ∙ ap (λ p. take place packets ++ p ∷ []) (sym is))
    ∙ good_packets-append (take place packets) (packet ∷ [])

-- where none is good, each of them isn't
pub none_good : (packets : List Packet) (place : ℕ) (packet : Packet) → place < length packets →
    packet ≡ get_or packets place packet → good_packets packets ≡ [] → good_packets (packet ∷ []) ≡ []
none_good packets place packet inside is none =
    let front = take (place + 1) packets in
    let all : good_packets packets ≡ good_packets front ++ good_packets (drop (place + 1) packets) =
    ap good_packets (sym (take-append-drop (place + 1) packets))
    ∙ good_packets-append front (drop (place + 1) packets) in
    let no_front : good_packets front ≡ [] = front_none _ _ (sym all ∙ none) in
    back_none (good_packets (take place packets)) _ (sym (good_more packets place packet inside is) ∙ no_front)
