use Rattle.std.proofs.Common.{◌≡◌, ℕ, ◌+◌, ◌<◌, ◌≤◌, false, eqb, leb, List, length, ap, ◌∙◌, ⊎_elim, arith}
use Rattle.std.proofs.lemmas.Bool.Decides.{nat_tests}
use Rattle.lr_bits.specs.Sizes.{most_file_bodies, most_file_bytes}
use Rattle.lr_packet.specs.Reading.{good}
use Rattle.lr_file.specs.Standing.{Open}
use Rattle.lr_file.specs.Steps.{is_next}
use Rattle.lr_file.proofs.OpenLemmas.{is_next-all, is_next-miscounted, is_next-full}
use Rattle.lr_file.proofs.open_file.OpenFile.is_followed_by.Goals as goal
use Rattle.lr_file.proofs.open_file.OpenFile.is_followed_by.Goals.{then-packet-next, else-packet-next}

no_room : (n : ℕ) → most_file_bodies < n → leb n most_file_bodies ≡ false
no_room n h = grind (arith, nat_tests)

miscounted : (n m : ℕ) → (n ≡ m → ⊥) → eqb n m ≡ false
miscounted n m h = grind (arith, nat_tests, h)

pub returns-then-bodies-le-MOST_FILE_BODIES : goal.returns-then-bodies-le-MOST_FILE_BODIES
returns-then-bodies-le-MOST_FILE_BODIES c =
    let p = good c.args.packet.now in
    let parts = c.self.inside in
    let file : Open = record { lengths = parts.lengths; bytes = parts.bytes; count = parts.count } in
    let few : length parts.lengths + 1 ≤ most_file_bodies =
    omega (arith, ap length c.as_slice.ensures, c.if-bodies-le-MOST_FILE_BODIES.true.1) in
    ap (λ (bytes : List ℕ). leb (length bytes + length p.body) most_file_bytes) c.as_slice-2.ensures
    ∙ is_next-all file p c.if-bodies-le-MOST_FILE_BODIES.true.0 few
    ∙ ap (λ (file : Open). is_next file p) c.self.view_is

pub returns-else-bodies-le-MOST_FILE_BODIES : goal.returns-else-bodies-le-MOST_FILE_BODIES
returns-else-bodies-le-MOST_FILE_BODIES c =
    let p = good c.args.packet.now in
    let parts = c.self.inside in
    let file : Open = record { lengths = parts.lengths; bytes = parts.bytes; count = parts.count } in
    let seen = ap (λ (file : Open). is_next file p) c.self.view_is in
    elim c.if-packet-next.branch [
      | then-packet-next w ↦
          ⊎_elim
          (λ full.
          let many : most_file_bodies < length parts.lengths + 1 =
          omega (arith, ap length c.as_slice.ensures, full.1) in
          w.t-15-is ∙ no_room _ full.1 ∙ is_next-full file p many ∙ seen)
          (λ other. absurd (other w.if-packet-next.true))
          c.if-bodies-le-MOST_FILE_BODIES.either
      | else-packet-next w ↦ w.t-15-is ∙ miscounted _ _ w.if-packet-next.false
          ∙ is_next-miscounted file p w.if-packet-next.false ∙ seen
    ]
