-- An open file stays within the limits, and the file that is built of it.
use Rattle.std.proofs.Common.{◌≡◌, ℕ, ◌+◌, ◌<◌, ◌≤◌, true, false, IsTrue, leb, ltb, eqb, Option, Some, None, [], ◌∷◌}
use Rattle.std.proofs.Common.{◌++◌, length, sum, refl, ◌%◌, sym, ap, ◌∙◌, arith, length-append}
use Rattle.std.specs.Prelude.{SomeIff}
use Rattle.std.specs.List.{concat}
use Rattle.std.proofs.lemmas.Bool.{ltb-true, leb-true}
use Rattle.std.proofs.lemmas.Bool.Decides.{nat_tests}
use Rattle.std.proofs.lemmas.List.{length-map}
use Rattle.std.proofs.lemmas.List.Elements.{All-push}
use Rattle.lr_bits.specs.File.{File, MakeFile, file_of, pieces_of}
use Rattle.lr_bits.specs.declared.sizes.TheConstants.{CHANNELS, IDLE_APPLICATION, SEQUENCE_COUNTS}
use Rattle.lr_bits.specs.Sizes.{most_body_bytes, most_file_bodies, most_file_bytes}
use Rattle.lr_bits.proofs.FileLemmas.{pieces_of-concat, sum-map-length}
use Rattle.lr_packet.specs.Verdict.{Good}
use Rattle.lr_file.specs.Standing.{Open, IsWithinLimits}
use Rattle.lr_file.specs.Steps.{is_next, open_file_with, IsBuilt}
use Rattle.lr_file.proofs.Stretches.{and_left, and_right}
use Rattle.std.proofs.Math.Bool.{and-false}

pub is_next-few : (file : Open) (p : Good) → IsTrue (is_next file p) → length file.lengths < most_file_bodies
unfolding is_next
is_next-few file p h = ltb-true _ _ (and_right _ _ (and_left _ _ h))

pub is_next-most : (file : Open) (p : Good) → IsTrue (is_next file p) →
    length file.bytes + length p.body ≤ most_file_bytes
unfolding is_next
is_next-most file p h = leb-true _ _ (and_right _ _ h)

-- an open file with one length more, before its bytes are there
pub limits-lengths : (file : Open) (p : Good) → length p.body ≤ most_body_bytes → IsTrue (is_next file p) →
    IsWithinLimits file →
    IsWithinLimits (record { lengths = file.lengths ++ length p.body ∷ []; bytes = file.bytes; count = file.count })
limits-lengths file p short next is =
    record {
      short = All-push (λ one. one ≤ most_body_bytes) file.lengths (length p.body) is.short short;
      few = omega (arith, length-append file.lengths (length p.body ∷ []), is_next-few file p next);
      most = is.most;
      counted = is.counted;
    }

pub limits-file_with : (file : Open) (p : Good) → length p.body ≤ most_body_bytes → p.count < SEQUENCE_COUNTS →
    IsTrue (is_next file p) →
    IsWithinLimits file → IsWithinLimits (open_file_with file p)
limits-file_with file p short counted next is =
    let longer = limits-lengths file p short next is in
    record {
      short = longer.short;
      few = longer.few;
      most = omega (arith, length-append file.bytes p.body, is_next-most file p next);
      counted = counted;
    }

-- what `build` answers at an open file
pub built_from : (vc apid : ℕ) (file : Open) (result : Option File) → vc < CHANNELS → apid < IDLE_APPLICATION →
    IsWithinLimits file →
    SomeIff result (MakeFile vc apid file.lengths file.bytes) (file_of vc apid file.lengths file.bytes) →
    IsBuilt vc apid file result
built_from vc apid file None channel application is h bodies some lengths bytes =
    λ ten.
    let all : length file.bytes ≡ length (concat bodies) = ap length bytes in
    let count : length file.lengths ≡ length bodies = ap length lengths ∙ length-map bodies length in
    h (record {
      channel = channel;
      application = application;
      some = omega (arith, count);
      few = is.few;
      short = is.short;
      whole = ap sum lengths ∙ sum-map-length bodies ∙ sym all;
      least = ten;
      most = is.most;
    })
built_from vc apid file (Some x) channel application is h bodies some lengths bytes = (
  h.0.least,
  h.1 ∙ ap (λ pieces. record { vc = vc; apid = apid; bodies = pieces })
      ((λ i. pieces_of (lengths i) (bytes i)) ∙ pieces_of-concat bodies),
)

-- which packet follows, test by test
pub is_next-all : (file : Open) (p : Good) → p.count ≡ (file.count + 1) % SEQUENCE_COUNTS →
    length file.lengths + 1 ≤ most_file_bodies →
    leb (length file.bytes + length p.body) most_file_bytes ≡ is_next file p
unfolding is_next
is_next-all file p counted few =
    let same : eqb p.count ((file.count + 1) % SEQUENCE_COUNTS) ≡ true = grind (arith, nat_tests) in
    let room : ltb (length file.lengths) most_file_bodies ≡ true = grind (arith, nat_tests) in
    rw (same, room) refl

pub is_next-miscounted : (file : Open) (p : Good) → (p.count ≡ (file.count + 1) % SEQUENCE_COUNTS → ⊥)
    → false ≡ is_next file p
unfolding is_next
is_next-miscounted file p other =
    let apart : eqb p.count ((file.count + 1) % SEQUENCE_COUNTS) ≡ false = grind (arith, nat_tests, other) in
    rw apart refl

pub is_next-full : (file : Open) (p : Good) → most_file_bodies < length file.lengths + 1 → false ≡ is_next file p
unfolding is_next
is_next-full file p full =
    let none : ltb (length file.lengths) most_file_bodies ≡ false = grind (arith, nat_tests) in
    rw (none, and-false (eqb p.count ((file.count + 1) % SEQUENCE_COUNTS))) refl
