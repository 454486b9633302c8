-- Bodies cut into pieces.
use Rattle.std.proofs.Common.{◌≡◌, ◌<◌, ◌≤◌, ◌-◌, ◌+◌, ℕ, List, [], ◌∷◌, ◌++◌, length, get_or, map, take, drop, refl}
use Rattle.std.proofs.Common.{sym, ap, ◌∙◌, arith, length-append}
use Rattle.std.specs.List.{concat}
use Rattle.std.proofs.lemmas.List.{drop_all, drop_at, drop_more, get_or-map, length-map}
use Rattle.std.proofs.lemmas.List.{take-append-drop, take_at, take_more}
use Rattle.std.proofs.lemmas.List.Folds.{concat-append}
use Rattle.lr_bits.specs.File.{File, bytes_of}
use Rattle.lr_image.specs.Pieces.{piece_with, pieces_after}
use Rattle.lr_image.specs.Places.{IsPlaceIn, pieces_at}
use Rattle.lr_image.specs.declared.pieces.PiecePlace.{PiecePlace}

-- the body at a place
abbrev pub body_at : File → PiecePlace → List ℕ
body_at file place = get_or file.bodies place.bodies []

-- the place after it, where it has this many bytes
abbrev pub place_after : PiecePlace → ℕ → PiecePlace
place_after place size =
    record { bodies = place.bodies + 1; bytes = place.bytes + size; skipped = place.skipped - size }

piece_with-some : (piece : List ℕ) (pieces : List (List ℕ)) → 0 < length piece
    → piece_with piece pieces ≡ piece ∷ pieces
piece_with-some [] pieces some = absurd (omega arith)
piece_with-some (byte ∷ bytes) pieces some = refl

piece_with-none : (piece : List ℕ) (pieces : List (List ℕ)) → length piece ≡ 0 → piece_with piece pieces ≡ pieces
piece_with-none [] pieces none = refl
piece_with-none (byte ∷ bytes) pieces none = absurd (omega arith)

-- the length that stands for the body is its own
pub is_body : (file : File) (place : PiecePlace) (size : ℕ) (lengths : List ℕ) → lengths ≡ map length file.bodies
    → place.bodies < length lengths → size ≡ get_or lengths place.bodies 0
    → (place.bodies < length file.bodies) × (size ≡ length (body_at file place))
is_body file place size lengths are inside is =
    let within : place.bodies < length file.bodies = omega (arith, ap length are, length-map file.bodies length) in (
      within,
      is ∙ ap (λ (l : List ℕ). get_or l place.bodies 0) are ∙ get_or-map length file.bodies place.bodies [] 0 within,
    )

module _ (file : File) (place : PiecePlace) (size : ℕ) (is : IsPlaceIn file place)
    (inside : place.bodies < length file.bodies) (size_is : size ≡ length (body_at file place)) where
  -- all bytes are those before the body, its own, and those after it
  bytes_are : bytes_of file ≡ concat (take place.bodies file.bodies)
      ++ (body_at file place ++ concat (drop (place.bodies + 1) file.bodies))
  bytes_are =
      ap (λ (l : List (List ℕ)). concat l) (sym (take-append-drop place.bodies file.bodies))
      ∙ concat-append (take place.bodies file.bodies) (drop place.bodies file.bodies)
      ∙ ap (λ (l : List (List ℕ)). concat (take place.bodies file.bodies) ++ concat l)
      (drop_more file.bodies place.bodies [] inside)

  pub body_inside : place.bytes + size ≤ length (bytes_of file)
  body_inside =
      let front = concat (take place.bodies file.bodies) in
      let rest = concat (drop (place.bodies + 1) file.bodies) in
      omega (
        arith,
        is.bytes,
        size_is,
        ap length bytes_are,
        length-append front (body_at file place ++ rest),
        length-append (body_at file place) rest,
      )

  pub body_is : take (place.bytes + size - place.bytes) (drop place.bytes (bytes_of file)) ≡ body_at file place
  body_is =
      let front = concat (take place.bodies file.bodies) in
      let rest = concat (drop (place.bodies + 1) file.bodies) in
      let many : place.bytes + size - place.bytes ≡ size = omega arith in
      ap (λ (n : ℕ). take n (drop place.bytes (bytes_of file))) many
      ∙ ap (λ (l : List ℕ). take size (drop place.bytes l)) bytes_are
      ∙ ap (λ (l : List ℕ). take size l) (drop_at front (body_at file place ++ rest) place.bytes (sym is.bytes))
      ∙ take_at (body_at file place) rest size (sym size_is)

  -- the next place lies in the file
  pub passed : IsPlaceIn file (place_after place size)
  passed =
      let front = concat (take place.bodies file.bodies) in
      let body = body_at file place in
      let more : concat (take (place.bodies + 1) file.bodies) ≡ front ++ (body ++ []) =
      ap (λ (l : List (List ℕ)). concat l) (take_more file.bodies place.bodies [] inside)
      ∙ concat-append (take place.bodies file.bodies) (body ∷ []) in
      record {
        bodies = omega (arith, inside);
        bytes = omega (
          arith,
          is.bytes,
          size_is,
          ap length more,
          length-append front (body ++ []),
          length-append body [],
        );
      }

  -- the pieces are that of the body, if it has one, and those from the next place on
  pieces_are : pieces_at file place
      ≡ piece_with (drop place.skipped (body_at file place)) (pieces_at file (place_after place size))
  pieces_are =
      ap (λ (l : List (List ℕ)). pieces_after place.skipped l) (drop_more file.bodies place.bodies [] inside)
      ∙ ap (λ (n : ℕ). piece_with (drop place.skipped (body_at file place))
      (pieces_after (place.skipped - n) (drop (place.bodies + 1) file.bodies))) (sym size_is)

  module _ (piece : List ℕ) (is_part : piece ≡ drop place.skipped (body_at file place)) where
    pieces_with : pieces_at file place ≡ piece_with piece (pieces_at file (place_after place size))
    pieces_with = pieces_are
        ∙ ap (λ (l : List ℕ). piece_with l (pieces_at file (place_after place size))) (sym is_part)

    pub piece_comes : 0 < length piece → pieces_at file place ≡ piece ∷ pieces_at file (place_after place size)
    piece_comes some = pieces_with ∙ piece_with-some piece (pieces_at file (place_after place size)) some

    pub none_comes : length piece ≡ 0 → pieces_at file place ≡ pieces_at file (place_after place size)
    none_comes none = pieces_with ∙ piece_with-none piece (pieces_at file (place_after place size)) none

-- no body is left
pub no_pieces : (file : File) (place : PiecePlace) → length file.bodies ≤ place.bodies → pieces_at file place ≡ []
no_pieces file place all =
    ap (λ (l : List (List ℕ)). pieces_after place.skipped l) (drop_all place.bodies file.bodies all)

-- at the first place
pub first_in : (file : File) (skipped : ℕ)
    → IsPlaceIn file (record { bodies = 0; bytes = 0; skipped = skipped })
first_in file skipped = record { bodies = omega arith; bytes = refl }
