-- The fields of the frames of the test stream.
use Rattle.std.proofs.Common.{◌≡◌, ℕ, ◌+◌, ◌-◌, ◌*◌, ◌/◌, ◌%◌, ◌^◌, ◌<◌, ◌≤◌, List, [], ◌∷◌, ◌++◌, length, drop}
use Rattle.std.proofs.Common.{get_or, inl, inr, sym, ap, ap₂, ◌∙◌, refl, zero, suc, arith, replicate, unwrap_or, Bool}
use Rattle.std.proofs.Math.Nat.{div-div-eq-div-mul, div-one, mul_assoc, pow-suc}
use Rattle.std.proofs.lemmas.Nat.{mod-pow-add, pow-add}
use Rattle.lr_bits.specs.Bits.{field_of}
use Rattle.lr_bits.specs.declared.sizes.TheConstants.{CHANNELS, FILL_CHANNEL, FRAME_COUNTS, ZONE_BYTES}
use Rattle.lr_bits.proofs.BitsLemmas.{field_of-none, field_of-more}
use Rattle.lr_block.proofs.Searching.{cases_first}
use Rattle.lr_vc.specs.Frame.{fields_of, version_of}
use Rattle.lr_make.specs.Frames.{frame_for_zone, packet_frame, fill_frame}
use Rattle.lr_make.specs.Zones.{is_start, pointer_at, zone_at}
use Rattle.lr_make.proofs.Heads.{frame_of-bytes}

-- ---- fields in bytes

doubled : (n m x y b w d : ℕ) → n ≡ m * 2 + b → m ≡ x + y → w ≡ x * 2 → d ≡ y * 2 + b → n ≡ w + d
doubled n m x y b w d e f g h = omega arith

-- k bits more, those of one byte after which `low` of its bits are left
pub bits_more : (bytes : List ℕ) (bit width j low k : ℕ) → bit + width + k + low ≡ 8 * j + 8 → k + low ≤ 8 →
    j < length bytes →
    field_of bytes bit (width + k) ≡ field_of bytes bit width * 2 ^ k + get_or bytes j 0 / 2 ^ low % 2 ^ k
bits_more bytes bit width j low zero e few inside =
    let none : width + 0 ≡ width = omega arith in ap (field_of bytes bit) none ∙ omega arith
bits_more bytes bit width j low (suc k) e few inside =
    let byte = get_or bytes j 0 / 2 ^ low in
    let place : (bit + (width + k)) / 8 ≡ j = omega arith in
    let left : 7 - (bit + (width + k)) % 8 ≡ low = omega arith in
    let half : get_or bytes j 0 / 2 ^ (low + 1) ≡ byte / 2 =
    ap (λ n. get_or bytes j 0 / n) (pow-add 2 low 1) ∙ sym (div-div-eq-div-mul (get_or bytes j 0) (2 ^ low) 2) in
    let before : field_of bytes bit (width + k) ≡ field_of bytes bit width * 2 ^ k + byte / 2 % 2 ^ k =
    bits_more bytes bit width j (low + 1) k (omega arith) (omega arith) inside
    ∙ ap (λ n. field_of bytes bit width * 2 ^ k + n % 2 ^ k) half in
    let one : field_of bytes bit (width + k + 1) ≡ field_of bytes bit (width + k) * 2 + byte % 2 =
    field_of-more bytes bit (width + k) (omega arith)
    ∙ ap₂ (λ n m. field_of bytes bit (width + k) * 2 + get_or bytes n 0 / 2 ^ m % 2) place left in
    let more : width + suc k ≡ width + k + 1 = omega arith in
    let double : field_of bytes bit width * 2 ^ suc k ≡ field_of bytes bit width * 2 ^ k * 2 =
    ap (λ n. field_of bytes bit width * n) (pow-suc 2 k) ∙ sym (mul_assoc (field_of bytes bit width) (2 ^ k) 2) in
    let digits : byte % 2 ^ suc k ≡ byte / 2 % 2 ^ k * 2 + byte % 2 =
    ap (λ n. byte % n) (pow-suc 2 k ∙ sym (pow-add 2 k 1)) ∙ mod-pow-add byte k 1 in
    ap (field_of bytes bit) more ∙ doubled _ _ _ _ _ _ _ one before double digits

-- a field of which k bits end a byte and the other eight are the byte after it
pub bits_of_two : (bytes : List ℕ) (bit j k : ℕ) → bit + k ≡ 8 * j + 8 → k ≤ 8 → j + 1 < length bytes →
    field_of bytes bit (k + 8) ≡ get_or bytes j 0 % 2 ^ k * 256 + get_or bytes (j + 1) 0 % 256
bits_of_two bytes bit j k e few inside =
    let all : k ≡ 0 + k = omega arith in
    let front : field_of bytes bit k ≡ get_or bytes j 0 % 2 ^ k =
    ap (field_of bytes bit) all ∙ bits_more bytes bit 0 j 0 k (omega arith) (omega arith) (omega arith)
    ∙ ap₂ (λ n m. n * 2 ^ k + m % 2 ^ k) (field_of-none bytes bit) (div-one (get_or bytes j 0)) ∙ omega arith in
    omega (arith, bits_more bytes bit k (j + 1) 0 8 (omega arith) (omega arith) inside, front)

module _ (bytes : List ℕ) (long : 8 ≤ length bytes) where
  version_bits : field_of bytes 0 2 ≡ get_or bytes 0 0 / 64 % 4
  version_bits = omega (arith, field_of-none bytes 0, bits_more bytes 0 0 0 6 2 refl (omega arith) (omega arith))

  channel_bits : field_of bytes 10 6 ≡ get_or bytes 1 0 % 64
  channel_bits = omega (arith, field_of-none bytes 10, bits_more bytes 10 0 1 0 6 refl (omega arith) (omega arith))

  counter_bits : field_of bytes 16 24 ≡ (get_or bytes 2 0 % 256 * 256 + get_or bytes 3 0 % 256) * 256
      + get_or bytes 4 0 % 256
  counter_bits =
      omega (
        arith,
        bits_of_two bytes 16 2 8 refl (omega arith) (omega arith),
        bits_more bytes 16 16 4 0 8 refl (omega arith) (omega arith),
      )

  pointer_bits : field_of bytes 53 11 ≡ get_or bytes 6 0 % 8 * 256 + get_or bytes 7 0 % 256
  pointer_bits = bits_of_two bytes 53 6 3 refl (omega arith) (omega arith)

-- a frame is read as these
pub record Reads (frame : List ℕ) (vc counter pointer : ℕ) (zone : List ℕ) : Type 0 where
  pub version : version_of frame ≡ 1
  pub channel : (fields_of frame).vc ≡ vc
  pub counter_is : (fields_of frame).counter ≡ counter
  pub pointer_is : (fields_of frame).pointer ≡ pointer
  pub zone_is : (fields_of frame).zone ≡ zone

pub frame_reads : (vc counter pointer : ℕ) (zone : List ℕ) → vc < CHANNELS → counter < FRAME_COUNTS → pointer < 2048 →
    Reads (frame_for_zone vc counter pointer zone) vc counter pointer zone
frame_reads vc counter pointer zone v c p =
    let bytes = frame_for_zone vc counter pointer zone in
    let front = (0x41 ∷ (0xC0 + vc) ∷ (counter / 65536) ∷ (counter / 256 % 256) ∷ (counter % 256) ∷ 0
    ∷ (pointer / 256) ∷ (pointer % 256) ∷ []) ++ zone in
    let same : bytes ≡ front = sym (frame_of-bytes vc counter pointer zone v c p) in
    let long : 8 ≤ length bytes = omega (arith, ap length same) in
    record {
      version = version_bits bytes long ∙ ap (λ z. get_or z 0 0 / 64 % 4) same;
      channel = channel_bits bytes long ∙ ap (λ z. get_or z 1 0 % 64) same ∙ omega arith;
      counter_is = counter_bits bytes long
          ∙ ap (λ z. (get_or z 2 0 % 256 * 256 + get_or z 3 0 % 256) * 256 + get_or z 4 0 % 256) same ∙ omega arith;
      pointer_is = pointer_bits bytes long ∙ ap (λ z. get_or z 6 0 % 8 * 256 + get_or z 7 0 % 256) same ∙ omega arith;
      zone_is = ap (drop 8) same;
    }

pointer_small : (packets : ℕ → List ℕ) (t : ℕ) → pointer_at packets t < 2048
unfolding pointer_at
pointer_small packets t =
    let starts : ℕ → Bool = λ place. is_start packets (ZONE_BYTES * t + place) in
    elim (cases_first starts 0 ZONE_BYTES) [
      | inl none ↦ omega (arith, ap (λ z. unwrap_or z 2047) none.0)
      | inr some ↦ omega (arith, ap (λ z. unwrap_or z 2047) some.1, some.2)
    ]

pub packet_frame_reads : (vc : ℕ) (packets : ℕ → List ℕ) (t : ℕ) → vc < CHANNELS →
    Reads (packet_frame vc packets t) vc (t % FRAME_COUNTS) (pointer_at packets t) (zone_at packets t)
unfolding packet_frame
packet_frame_reads vc packets t v =
    frame_reads vc (t % FRAME_COUNTS) (pointer_at packets t) (zone_at packets t) v (omega arith)
    (pointer_small packets t)

pub fill_frame_reads : (t : ℕ) → Reads (fill_frame t) FILL_CHANNEL (t % FRAME_COUNTS) 2046 (replicate ZONE_BYTES 0)
unfolding fill_frame
fill_frame_reads t = frame_reads FILL_CHANNEL (t % FRAME_COUNTS) 2046 (replicate ZONE_BYTES 0) (omega arith)
    (omega arith) (omega arith)
