-- Which pieces give the lines of an image: each has the lines that are wanted of it, and there are enough of them.
use Rattle.std.proofs.Common.{◌≡◌, ℕ, zero, suc, ◌-◌, ◌*◌, ◌<◌, ◌≤◌, List, [], ◌∷◌, ◌++◌, length, drop, refl, sym}
use Rattle.std.proofs.Common.{ap, ◌∙◌, subst, arith, append_assoc, inl, inr, min, Some}
use Rattle.std.proofs.Math.Nat.{suc-mul, zero-mul}
use Rattle.lr_headers.specs.declared.fields.Structure.{Structure}
use Rattle.lr_headers.specs.declared.fields.Lossless.{Lossless}
use Rattle.lr_image.specs.Images.{line_form}
use Rattle.lr_image.specs.Pieces.{GiveLines, piece_with, pieces_after}
use Rattle.lr_rice.specs.CodedLines.{AreLines, BeginsWithLines, Form}
use Rattle.lr_laws.specs.SentImages.{HasLines, StandFor}

-- ---- lines

-- of some lines the first ones are lines too
fewer : (form : Form) (n m : ℕ) (samples string : List ℕ) → m ≤ n → AreLines form n samples string →
    (front : List ℕ) × BeginsWithLines form m front string
fewer form n zero samples string less are =
    ([], record { coding = []; rest = string; lines = (refl, refl); is_string = refl })
fewer form zero (suc m) samples string less are = absurd (omega (arith, less))
fewer form (suc n) (suc m) samples string less are =
    let it = fewer form n m are.others are.back (omega (arith, less)) are.are_others in (
      are.line ++ it.0,
      record {
        coding = are.front ++ it.1.coding;
        rest = it.1.rest;
        lines = record {
          line = are.line;
          front = are.front;
          is_line = are.is_line;
          others = it.0;
          back = it.1.coding;
          are_others = it.1.lines;
          are_samples = refl;
          is_string = refl;
        };
        is_string = are.is_string ∙ ap (λ l. are.front ++ l) it.1.is_string
            ∙ sym (append_assoc are.front it.1.coding it.1.rest);
      },
    )

pub has_fewer : (form : Form) (n m : ℕ) (piece : List ℕ) → m ≤ n → HasLines form n piece → HasLines form m piece
has_fewer form n m piece less has =
    let it = fewer form n m has.0 has.1.coding less has.1.lines in (
      it.0,
      record {
        coding = it.1.coding;
        rest = it.1.rest ++ has.1.rest;
        lines = it.1.lines;
        is_string = has.1.is_string ∙ ap (λ l. l ++ has.1.rest) it.1.is_string
            ∙ append_assoc it.1.coding it.1.rest has.1.rest;
      },
    )

-- ---- pieces

-- each piece has as many lines as a packet has, or those that are still wanted
abbrev pub HaveLines : Form → ℕ → ℕ → List (List ℕ) → Type 0
HaveLines form each wanted [] = Unit {0}
HaveLines form each wanted (piece ∷ pieces) =
    HasLines form (min each wanted) piece × HaveLines form each (wanted - each) pieces

pub given : (form : Form) (each wanted : ℕ) (pieces : List (List ℕ)) (samples : List ℕ) →
    GiveLines form each wanted pieces samples → HaveLines form each wanted pieces
given form each wanted [] samples give = tt
given form each wanted (piece ∷ pieces) samples give =
    ((give.front, give.begins), given form each (wanted - each) pieces give.back give.others)

pub enough : (form : Form) (each wanted : ℕ) (pieces : List (List ℕ)) (samples : List ℕ) →
    GiveLines form each wanted pieces samples → wanted ≤ length pieces * each
enough form each wanted [] samples give = omega (arith, give.0)
enough form each wanted (piece ∷ pieces) samples give =
    let later = enough form each (wanted - each) pieces give.back give.others in
    omega (arith, later, suc-mul (length pieces) each)

pub gives : (form : Form) (each wanted : ℕ) (pieces : List (List ℕ)) → HaveLines form each wanted pieces →
    wanted ≤ length pieces * each → (samples : List ℕ) × GiveLines form each wanted pieces samples
gives form each wanted [] have all =
    let none : wanted ≡ 0 = omega (arith, all, zero-mul each) in ([], (none, refl))
gives form each wanted (piece ∷ pieces) have all =
    let it = gives form each (wanted - each) pieces have.1 (omega (arith, all, suc-mul (length pieces) each)) in (
      have.0.0 ++ it.0,
      record { front = have.0.0; begins = have.0.1; back = it.0; others = it.1; are_samples = refl },
    )

-- ---- the pieces of bodies

-- bodies that have bytes
abbrev pub some_of : List (List ℕ) → List (List ℕ)
some_of [] = []
some_of (body ∷ bodies) = piece_with body (some_of bodies)

all_after : (skipped : ℕ) (bodies : List (List ℕ)) → skipped ≡ 0 → pieces_after skipped bodies ≡ some_of bodies
all_after skipped [] none = refl
all_after skipped (body ∷ bodies) none =
    let less : skipped - length body ≡ 0 = omega (arith, none) in
    ap (λ (n : ℕ). piece_with (drop n body) (pieces_after (skipped - length body) bodies)) none
    ∙ ap (piece_with body) (all_after (skipped - length body) bodies less)

-- what is skipped lies in the first body
pub after_first : (skipped : ℕ) (first : List ℕ) (bodies : List (List ℕ)) → skipped ≤ length first →
    pieces_after skipped (first ∷ bodies) ≡ some_of (drop skipped first ∷ bodies)
after_first skipped first bodies inside =
    ap (piece_with (drop skipped first)) (all_after (skipped - length first) bodies (omega (arith, inside)))

with_append : (body : List ℕ) (front back : List (List ℕ)) →
    piece_with body (front ++ back) ≡ piece_with body front ++ back
with_append [] front back = refl
with_append (byte ∷ bytes) front back = refl

pub some_of-append : (front back : List (List ℕ)) → some_of (front ++ back) ≡ some_of front ++ some_of back
some_of-append [] back = refl
some_of-append (body ∷ front) back =
    ap (piece_with body) (some_of-append front back) ∙ with_append body (some_of front) (some_of back)

pub length-one : (body : List ℕ) → length (some_of (body ∷ [])) ≡ min 1 (length body)
length-one [] = refl
length-one (byte ∷ bytes) = omega arith

-- ---- bodies that stand for others

module _ (s : Structure) (l : Lossless) where
  abbrev form : Form
  form = line_form s l

  -- a body before others
  before_same : (wanted less : ℕ) (body : List ℕ) (old new : List (List ℕ)) → less ≤ wanted →
      ((wanted less : ℕ) → less ≤ wanted → HaveLines form l.lines wanted old → HaveLines form l.lines less new) →
      HaveLines form l.lines wanted (piece_with body old) → HaveLines form l.lines less (piece_with body new)
  before_same wanted less [] old new few later have = later wanted less few have
  before_same wanted less (byte ∷ bytes) old new few later have = (
    has_fewer form (min l.lines wanted) (min l.lines less) (byte ∷ bytes) (omega (arith, few)) have.0,
    later (wanted - l.lines) (less - l.lines) (omega (arith, few)) have.1,
  )

  -- a filler before others, in the place of a body
  before_filler : (wanted less : ℕ) (body filler : List ℕ) (old new : List (List ℕ)) → less ≤ wanted →
      0 < length filler → HasLines form l.lines filler →
      ((wanted less : ℕ) → less ≤ wanted → HaveLines form l.lines wanted old → HaveLines form l.lines less new) →
      HaveLines form l.lines wanted (piece_with body old) → HaveLines form l.lines less (piece_with filler new)
  before_filler wanted less body [] old new few some has later have = absurd (omega (arith, some))
  before_filler wanted less [] (byte ∷ bytes) old new few some has later have = (
    has_fewer form l.lines (min l.lines less) (byte ∷ bytes) (omega arith) has,
    later wanted (less - l.lines) (omega (arith, few)) have,
  )
  before_filler wanted less (other ∷ others) (byte ∷ bytes) old new few some has later have = (
    has_fewer form l.lines (min l.lines less) (byte ∷ bytes) (omega arith) has,
    later (wanted - l.lines) (less - l.lines) (omega (arith, few)) have.1,
  )

  pub standing_have : (bodies others : List (List ℕ)) → StandFor s (Some l) bodies others → (wanted less : ℕ) →
      less ≤ wanted → HaveLines form l.lines wanted (some_of bodies) → HaveLines form l.lines less (some_of others)
  standing_have [] [] stand wanted less few have = tt
  standing_have (body ∷ bodies) [] stand wanted less few have = absurd stand
  standing_have [] (other ∷ others) stand wanted less few have = absurd stand
  standing_have (body ∷ bodies) (other ∷ others) stand wanted less few have =
      elim stand.0 as (λ _. HaveLines form l.lines less (piece_with other (some_of others))) [
        | inl same ↦
            subst (λ (b : List ℕ). HaveLines form l.lines less (piece_with b (some_of others))) (sym same)
            (before_same wanted less body (some_of bodies) (some_of others) few
            (standing_have bodies others stand.1) have)
        | inr can ↦
            before_filler wanted less body other (some_of bodies) (some_of others) few can.0 can.1
            (standing_have bodies others stand.1) have
      ]

  more_pieces : (body other : List ℕ) (old new : List (List ℕ)) → min 1 (length body) ≤ min 1 (length other) →
      length old ≤ length new → length (piece_with body old) ≤ length (piece_with other new)
  more_pieces [] [] old new some less = less
  more_pieces [] (byte ∷ bytes) old new some less = omega (arith, less)
  more_pieces (byte ∷ bytes) [] old new some less = absurd (omega (arith, some))
  more_pieces (byte ∷ bytes) (other ∷ others) old new some less = omega (arith, less)

  -- there are as many pieces, or more
  pub standing_are_many : (bodies others : List (List ℕ)) → StandFor s (Some l) bodies others →
      length (some_of bodies) ≤ length (some_of others)
  standing_are_many [] [] stand = omega arith
  standing_are_many (body ∷ bodies) [] stand = absurd stand
  standing_are_many [] (other ∷ others) stand = absurd stand
  standing_are_many (body ∷ bodies) (other ∷ others) stand =
      more_pieces body other (some_of bodies) (some_of others)
      (elim stand.0 as (λ _. min 1 (length body) ≤ min 1 (length other)) [
        | inl same ↦ omega (arith, ap length same)
        | inr can ↦ omega (arith, can.0)
      ])
      (standing_are_many bodies others stand.1)
