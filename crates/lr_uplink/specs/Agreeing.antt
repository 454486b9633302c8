-- Zones and pointers are defined of packets without an end, which a generator makes, and of a list of packets. Both say
-- the same.
use Rattle.std.specs.Prelude.{◌≡◌, ◌+◌, ◌*◌, ◌<◌, ◌≤◌, ℕ, List, length, map}
use Rattle.std.specs.List.{concat, range_with_len}
use Rattle.lr_bits.specs.declared.sizes.TheConstants.{ZONE_BYTES}
use Rattle.lr_make.specs.Zones.{pointer_at, zone_at}
use Rattle.lr_uplink.specs.Sent.{sent_pointer_at, sent_zone_at}

-- the first n of these packets
abbrev pub first_packets : (ℕ → List ℕ) → ℕ → List (List ℕ)
first_packets packets n = map packets (range_with_len 0 n)

-- the law: where each packet has some byte, and the first n of them fill the zones up to zone t, that zone and its
-- pointer are the same of these n packets as of them all
abbrev pub ZonesAgree : Type 0
ZonesAgree =
    (packets : ℕ → List ℕ) (n t : ℕ) → ((k : ℕ) → 0 < length (packets k)) →
    ZONE_BYTES * (t + 1) ≤ length (concat (first_packets packets n)) →
    (sent_zone_at (first_packets packets n) t ≡ zone_at packets t)
    × (sent_pointer_at (first_packets packets n) t ≡ pointer_at packets t)
