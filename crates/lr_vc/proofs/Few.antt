-- A frame ends few packets.
use Rattle.std.proofs.Common.{zero, suc, ◌≤◌, ◌∷◌, ◌++◌, ℕ, Bool, true, false, Option, Some, None, List, [], length}
use Rattle.std.proofs.Common.{arith, length-append}
use Rattle.std.proofs.lemmas.List.{length-map}
use Rattle.std.specs.Prelude.{if◌then◌else◌, nat_lt}
use Rattle.std.specs.Option.{option_to_list}
use Rattle.std.specs.List.{filter}
use Rattle.lr_bits.specs.declared.sizes.TheConstants.{ZONE_BYTES}
use Rattle.lr_vc.specs.Frame.{Fields}
use Rattle.lr_vc.specs.Packets.{starts_from, packet_at, is_whole, has_header, packet_end}
use Rattle.lr_vc.specs.Standing.{KeptChannel}
use Rattle.lr_vc.specs.Steps.{packets_with, met_by, completed_packets, completed_packet, ends_with, packets_inside}
use Rattle.lr_vc.specs.Steps.{starts_after, follows}
use Rattle.lr_vc.specs.declared.channels.TheConstants.{MOST_ENDING_PACKETS}

few_of_two : {A : Type 0} (b : Bool) (xs ys : List A) (n : ℕ) → length xs ≤ n → length ys ≤ n →
    length (if b then xs else ys) ≤ n
few_of_two true xs ys n h k = h
few_of_two false xs ys n h k = k

few_filtered : {A : Type 0} (p : A → Bool) (xs : List A) → length (filter p xs) ≤ length xs
few_filtered p [] = omega arith
few_filtered p (x ∷ xs) =
    let rest = few_filtered p xs in
    few_of_two (p x) (x ∷ filter p xs) (filter p xs) (suc (length xs)) (omega (arith, rest)) (omega (arith, rest))

few_starts : (zones : List ℕ) (edge steps start : ℕ) → length (starts_from zones edge steps start) ≤ steps
unfolding starts_from
few_starts zones edge zero start = omega arith
few_starts zones edge (suc steps) start =
    let later : length (if has_header zones start then starts_from zones edge steps
    (packet_end zones start) else []) ≤ steps =
    few_of_two (has_header zones start) _ [] steps (few_starts zones edge steps (packet_end zones start))
    (omega arith) in
    few_of_two (nat_lt start edge) _ [] (suc steps) (omega (arith, later)) (omega arith)

few_ended : (frame : Fields) (met : List (List ℕ)) → length (completed_packets frame met) ≤ length met
unfolding completed_packet
few_ended frame [] = omega arith
few_ended frame (open_bytes ∷ met) =
    let one =
    few_of_two (ends_with open_bytes frame.zone frame.pointer)
    (packet_at frame.vc (open_bytes ++ frame.zone) 0 ∷ []) [] 1 (omega arith) (omega arith) in
    omega (
      arith,
      one,
      few_ended frame met,
      length-append
          (completed_packet frame.vc frame.zone frame.pointer open_bytes) (completed_packets frame met),
    )

few_met : (channel : KeptChannel) (counter : ℕ) → length (met_by channel counter) ≤ 1
unfolding met_by
few_met channel counter =
    few_of_two (follows channel.counter counter) (option_to_list channel.open_packet) [] 1 (one channel.open_packet)
    (omega arith) where
      one : (o : Option (List ℕ)) → length (option_to_list o) ≤ 1
      one None = omega arith
      one (Some bytes) = omega arith

few_inside : (channel : ℕ) (zone : List ℕ) (first : ℕ) → length (packets_inside channel zone first) ≤ ZONE_BYTES
unfolding packets_inside starts_after
few_inside channel zone first =
    omega (
      arith,
      length-map (filter (is_whole zone) (starts_from zone ZONE_BYTES ZONE_BYTES first)) (packet_at channel zone),
      few_filtered (is_whole zone) (starts_from zone ZONE_BYTES ZONE_BYTES first),
      few_starts zone ZONE_BYTES ZONE_BYTES first,
    )

-- at most the open one and one for each byte of the zone
pub few_packets : (frame : Fields) (channel : KeptChannel) (counter : ℕ) →
    length (packets_with frame (met_by channel counter)) ≤ MOST_ENDING_PACKETS
unfolding packets_with
few_packets frame channel counter =
    let inside =
    few_of_two (nat_lt frame.pointer ZONE_BYTES) (packets_inside frame.vc frame.zone frame.pointer) [] ZONE_BYTES
    (few_inside frame.vc frame.zone frame.pointer) (omega arith) in
    omega (
      arith,
      inside,
      few_met channel counter,
      few_ended frame (met_by channel counter),
      length-append (completed_packets frame (met_by channel counter))
          (if nat_lt frame.pointer ZONE_BYTES then packets_inside frame.vc frame.zone frame.pointer else []),
    )
