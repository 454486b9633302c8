-- The files of the first outcomes keep their origins, however many outcomes come later.
use Rattle.std.proofs.Common.{◌≡◌, ℕ, ◌+◌, ◌-◌, ◌<◌, ◌≤◌, List, [], ◌∷◌, ◌++◌}
use Rattle.std.proofs.Common.{length, map, ap, ap₂, ◌∙◌, sym, refl, subst, arith, append_assoc}
use Rattle.std.specs.Option.{option_to_list}
use Rattle.lr_bits.specs.declared.outcome.Outcome.{Outcome}
use Rattle.lr_vc.proofs.Lists.{Each_left, Each_right}
use Rattle.std.specs.Prelude.{unwrap_or}
use Rattle.std.proofs.Common.{Option, Some, None}
use Rattle.lr_bits.specs.declared.placed.Origin.{Origin}
use Rattle.lr_mend.specs.MendedFiles.{file_of_packet, files_of_gap}
use Rattle.lr_layers.specs.Origins.{PlacedPacket, packet_of, latest_start, origin_of, placed_of_key, placed_files_after}
use Rattle.lr_layers.specs.Origins.{corrected_between, with_origin}
use Rattle.lr_layers.proofs.Changes.{corrected_before-same, corrected_between-is}
use Rattle.lr_layers.proofs.Places.{AreBelow}
use Rattle.lr_layers.proofs.Starting.{IsBelow, filter_below, latest_below}

first_within : (n : ℕ) (latest : Option PlacedPacket) (last : PlacedPacket) → IsBelow n latest → last.place < n →
    (unwrap_or latest last).place ≤ n
first_within n None last h less = omega (arith, less)
first_within n (Some p) last h less = omega (arith, h)

origin_stays : (outcomes : List Outcome) (o : Outcome) (placed : List PlacedPacket) (p : PlacedPacket) →
    AreBelow (length outcomes) placed → p.place < length outcomes →
    origin_of (outcomes ++ o ∷ []) placed p ≡ origin_of outcomes placed p
origin_stays outcomes o placed p below last =
    let n = length outcomes in
    let own = placed_of_key p.packet.vc p.packet.apid placed in
    let first = (unwrap_or (latest_start own) p).place in
    let early : first ≤ n =
    first_within n (latest_start own) p (latest_below n own (filter_below n _ placed below)) last in
    let changed : corrected_between (outcomes ++ o ∷ []) first p.place ≡ corrected_between outcomes first p.place =
    corrected_between-is (outcomes ++ o ∷ []) first p.place
    ∙ ap₂ (λ a b. a - b) (corrected_before-same outcomes o (p.place + 1) (omega arith))
    (corrected_before-same outcomes o first early)
    ∙ sym (corrected_between-is outcomes first p.place) in
    let mk : ℕ → Origin = λ corrected. record { first = first; last = p.place; corrected = corrected } in
    ap mk changed

stay : (mend : ℕ) (outcomes : List Outcome) (o : Outcome) (before packets : List PlacedPacket) →
    AreBelow (length outcomes) (before ++ packets) →
    placed_files_after mend (outcomes ++ o ∷ []) before packets ≡ placed_files_after mend outcomes before packets
stay mend outcomes o before [] below = refl
stay mend outcomes o before (p ∷ packets) below =
    let moved = sym (append_assoc before (p ∷ []) packets) in
    let all : AreBelow (length outcomes) ((before ++ p ∷ []) ++ packets) =
    subst (λ (l : List PlacedPacket). AreBelow (length outcomes) l) moved below in
    let here = Each_left _ (before ++ p ∷ []) packets all in
    let last : p.place < length outcomes = (Each_right _ before (p ∷ []) here).0 in
    let front = origin_stays outcomes o before p (Each_left _ before (p ∷ []) here) last in
    let own = origin_stays outcomes o (before ++ p ∷ []) p here last in
    (λ i. (map (with_origin (front i)) (files_of_gap mend (map packet_of before) p.packet)
    ++ map (with_origin (own i)) (option_to_list (file_of_packet mend (map packet_of before) p.packet)))
    ++ stay mend outcomes o (before ++ p ∷ []) packets all i)

pub placed_files-stay : (mend : ℕ) (outcomes : List Outcome) (o : Outcome) (packets : List PlacedPacket) →
    AreBelow (length outcomes) packets →
    placed_files_after mend (outcomes ++ o ∷ []) [] packets ≡ placed_files_after mend outcomes [] packets
placed_files-stay mend outcomes o packets below = stay mend outcomes o [] packets below
