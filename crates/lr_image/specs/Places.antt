-- How far the pieces of a file were taken.
use Rattle.std.specs.Prelude.{◌≡◌, ◌≤◌, ℕ, List, length, take, drop}
use Rattle.std.specs.List.{concat}
use Rattle.lr_bits.specs.File.{File}
use Rattle.lr_image.specs.Pieces.{pieces_after}
use Rattle.lr_image.specs.declared.pieces.PiecePlace.{PiecePlace}

-- the pieces from a place on
abbrev pub pieces_at : File → PiecePlace → List (List ℕ)
pieces_at file place = pieces_after place.skipped (drop place.bodies file.bodies)

-- the place of the first piece, where this many bytes come before the data field
abbrev pub first_piece_place : ℕ → PiecePlace
first_piece_place skipped = record { bodies = 0; bytes = 0; skipped = skipped }

-- the place lies in the file: its bytes are those of the bodies that were passed
pub record IsPlaceIn (file : File) (place : PiecePlace) : Type 0 where
  pub bodies : place.bodies ≤ length file.bodies
  pub bytes : place.bytes ≡ length (concat (take place.bodies file.bodies))
