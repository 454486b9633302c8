-- Lines of pieces, piece after piece.
use Rattle.std.proofs.Common.{◌≡◌, ◌⊎◌, ◌<◌, ◌≤◌, ◌+◌, ◌-◌, ◌*◌, min, ℕ, List, [], ◌∷◌, ◌++◌, inl, inr, refl, sym, ap}
use Rattle.std.proofs.Common.{◌∙◌, subst, arith}
use Rattle.std.proofs.lemmas.List.{append_assoc, append-nil}
use Rattle.std.proofs.Math.Nat.{min-zero, sub-zero, zero-sub}
use Rattle.lr_bits.specs.Bits.{bits_of}
use Rattle.lr_rice.specs.CodedLines.{Form, BeginsWithLines, GrowsByLines}
use Rattle.lr_image.specs.declared.fault.ImageFault.{ImageFault}
use Rattle.lr_image.specs.declared.fault.ImageFault.TheVariants.{NoMemory, Short}
use Rattle.lr_image.specs.Pieces.{GiveLines, LackLines, LinesLack, PieceFails, PieceSite, PiecesFail, next_site}

-- after this many pieces and lines of all
abbrev pub site_in : ℕ → ℕ → ℕ → PieceSite
site_in all number done = record { number = number; done = done; wanted = all - done }

-- The first pieces were read: `number` of them, with `done` lines and these pixels. What the others give or lack, all
-- give or lack.
pub record Partway (form : Form) (each all number done : ℕ) (pixels : List ℕ)
    (left pieces : List (List ℕ)) : Type 0 where
  pub within : done ≤ all
  pub few : number ≤ done
  pub gives : (back : List ℕ) → GiveLines form each (all - done) left back
      → GiveLines form each all pieces (pixels ++ back)
  pub lacks : (fault : ImageFault) → PiecesFail form each (site_in all number done) left fault
      → LackLines form each all pieces fault

pub starts : (form : Form) (each all : ℕ) (pieces : List (List ℕ)) → Partway form each all 0 0 [] pieces pieces
starts form each all pieces = record {
  within = omega arith;
  few = omega arith;
  gives = λ back give. subst (λ (n : ℕ). GiveLines form each n pieces back) (sub-zero all) give;
  lacks = λ fault fail. subst (λ (n : ℕ). LackLines form each n pieces fault) (sub-zero all) fail;
}

-- the next piece gives its lines
pub reads : (form : Form) (each all number done lines : ℕ) (piece pixels longer : List ℕ)
    (left others pieces : List (List ℕ))
    → 1 ≤ each → done < all → lines ≡ min each (all - done) → left ≡ piece ∷ others
    → GrowsByLines form lines (bits_of piece) pixels longer → Partway form each all number done pixels left pieces
    → Partway form each all (number + 1) (done + lines) longer others pieces
reads form each all number done lines piece pixels longer left others pieces one before count first grows part =
    let front = grows.samples in
    let within = part.within in
    let few = part.few in
    let begins : BeginsWithLines form (min each (all - done)) front (bits_of piece) =
    subst (λ (n : ℕ). BeginsWithLines form n front (bits_of piece)) count grows.begins in
    let wanted : all - (done + lines) ≡ all - done - each = omega arith in
    let read : done + lines ≡ done + min each (all - done) = ap (λ (n : ℕ). done + n) count in
    record {
      within = omega arith;
      few = omega arith;
      gives = λ back give.
          let rest = subst (λ (n : ℕ). GiveLines form each n others back) wanted give in
          let all_of : GiveLines form each (all - done) (piece ∷ others) (front ++ back) =
          record { front = front; begins = begins; back = back; others = rest; are_samples = refl } in
          let joined : pixels ++ (front ++ back) ≡ longer ++ back =
          sym (append_assoc pixels front back) ∙ ap (λ l. l ++ back) (sym grows.grown) in
          subst (λ (l : List ℕ). GiveLines form each all pieces l) joined
          (part.gives (front ++ back)
          (subst (λ (ps : List (List ℕ)). GiveLines form each (all - done) ps (front ++ back)) (sym first) all_of));
      lacks = λ fault fail.
          let site : ℕ → ℕ → PieceSite = λ d w. record { number = number + 1; done = d; wanted = w } in
          let later : PiecesFail form each (next_site each (site_in all number done)) others fault =
          subst (λ (s : PieceSite). PiecesFail form each s others fault)
          (ap (site (done + lines)) wanted ∙ ap (λ d. site d (all - done - each)) read) fail in
          part.lacks fault
          (subst (λ (ps : List (List ℕ)). PiecesFail form each (site_in all number done) ps fault) (sym first)
          (inr (record { front = front; begins = begins; later = later })));
    }

-- the next piece fails
pub fails : (form : Form) (each all number done lines : ℕ) (piece pixels : List ℕ)
    (left others pieces : List (List ℕ)) (fault : ImageFault)
    → lines ≡ min each (all - done) → left ≡ piece ∷ others → Partway form each all number done pixels left pieces
    → (fault ≡ NoMemory) ⊎ PieceFails form lines number piece fault → (fault ≡ NoMemory)
    ⊎ LackLines form each all pieces fault
fails form each all number done lines piece pixels left others pieces fault count first part (inl memory) = inl memory
fails form each all number done lines piece pixels left others pieces fault count first part (inr fail) =
    let here : PieceFails form (min each (all - done)) number piece fault =
    subst (λ (n : ℕ). PieceFails form n number piece fault) count fail in
    inr (part.lacks fault
    (subst (λ (ps : List (List ℕ)). PiecesFail form each (site_in all number done) ps fault) (sym first) (inl here)))

pub no_lines : (form : Form) (each : ℕ) (pieces : List (List ℕ)) → GiveLines form each 0 pieces []
no_lines form each [] = (refl, refl)
no_lines form each (piece ∷ pieces) =
    let none : BeginsWithLines form 0 [] (bits_of piece) =
    record { coding = []; rest = bits_of piece; lines = (refl, refl); is_string = refl } in
    record {
      front = [];
      begins = subst (λ (n : ℕ). BeginsWithLines form n [] (bits_of piece)) (sym (min-zero each)) none;
      back = [];
      others = subst (λ (n : ℕ). GiveLines form each n pieces []) (sym (zero-sub each)) (no_lines form each pieces);
      are_samples = refl;
    }

-- all lines are there
pub finished : (form : Form) (each all number done : ℕ) (pixels : List ℕ) (left pieces : List (List ℕ))
    → all ≤ done → Partway form each all number done pixels left pieces → GiveLines form each all pieces pixels
finished form each all number done pixels left pieces enough part =
    let none : 0 ≡ all - done = omega arith in
    subst (λ (l : List ℕ). GiveLines form each all pieces l) (append-nil pixels)
    (part.gives [] (subst (λ (n : ℕ). GiveLines form each n left []) none (no_lines form each left)))

-- no piece is left, and lines are still wanted
pub lacking : (form : Form) (each all number done : ℕ) (pixels : List ℕ) (left pieces : List (List ℕ))
    (fault : ImageFault)
    → left ≡ [] → done < all → fault ≡ Short (done * form.columns)
    → Partway form each all number done pixels left pieces
    → LackLines form each all pieces fault
lacking form each all number done pixels left pieces fault none before is part =
    let lack : LinesLack form done (all - done) fault = record { some = omega arith; is_fault = is } in
    part.lacks fault (subst (λ (ps : List (List ℕ)). PiecesFail form each (site_in all number done) ps fault)
    (sym none) lack)
