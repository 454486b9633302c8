-- Pixels that are coded without loss: the bodies are cut into pieces, and each piece gives lines (the pieces are a rule
-- of this project's own).
use Rattle.std.specs.Prelude.{◌≡◌, ◌<◌, ◌⊎◌, ◌+◌, ◌-◌, ◌*◌, min, ℕ, List, [], ◌∷◌, ◌++◌, length, drop}
use Rattle.lr_bits.specs.Bits.{bits_of}
use Rattle.lr_rice.specs.declared.fault.RiceFault.{RiceFault}
use Rattle.lr_rice.specs.CodedLines.{Form, BeginsWithLines}
use Rattle.lr_rice.specs.LineFaults.{LinesFail}
use Rattle.lr_image.specs.declared.fault.ImageFault.{ImageFault}
use Rattle.lr_image.specs.declared.fault.ImageFault.TheVariants.{Rice, Short}

-- a piece is the part of a body that stands after the first `skipped` bytes of all bodies, if there is such a part
abbrev pub piece_with : List ℕ → List (List ℕ) → List (List ℕ)
piece_with [] pieces = pieces
piece_with (byte ∷ bytes) pieces = (byte ∷ bytes) ∷ pieces

abbrev pub pieces_after : ℕ → List (List ℕ) → List (List ℕ)
pieces_after skipped [] = []
pieces_after skipped (body ∷ bodies) =
    piece_with (drop skipped body) (pieces_after (skipped - length body) bodies)

-- the piece begins with this many lines, and the others give the rest of the samples
pub record PieceThen (form : Form) (lines : ℕ) (Others : List ℕ → Type 0) (piece samples : List ℕ) : Type 0 where
  pub front : List ℕ
  pub begins : BeginsWithLines form lines front (bits_of piece)
  pub back : List ℕ
  pub others : Others back
  pub are_samples : samples ≡ front ++ back

-- The pieces give the samples of the lines that are wanted: each piece as many lines as a packet has, and the last one
-- those that are still wanted. Pieces after it give no line.
abbrev pub GiveLines : Form → ℕ → ℕ → List (List ℕ) → List ℕ → Type 0
GiveLines form each wanted [] samples = (wanted ≡ 0) × (samples ≡ [])
GiveLines form each wanted (piece ∷ pieces) samples =
    PieceThen form (min each wanted) (GiveLines form each (wanted - each) pieces) piece samples

-- the piece of this number has a fault in the lines that it is to give
pub record PieceFails (form : Form) (lines number : ℕ) (piece : List ℕ) (fault : ImageFault) : Type 0 where
  pub rice : RiceFault
  pub fails : LinesFail form lines (bits_of piece) rice
  pub is_fault : fault ≡ Rice number rice

-- the piece gives its lines, and those after it fail
pub record FailsLater (form : Form) (lines : ℕ) (piece : List ℕ) (Later : Type 0) : Type 0 where
  pub front : List ℕ
  pub begins : BeginsWithLines form lines front (bits_of piece)
  pub later : Later

-- after the last piece lines are still wanted
pub record LinesLack (form : Form) (done wanted : ℕ) (fault : ImageFault) : Type 0 where
  pub some : 0 < wanted
  pub is_fault : fault ≡ Short (done * form.columns)

-- where a piece stands: how many pieces and how many lines come before it, and how many lines are still wanted
pub record PieceSite : Type 0 where
  pub number : ℕ
  pub done : ℕ
  pub wanted : ℕ

-- where the first piece stands
abbrev pub first_site : ℕ → PieceSite
first_site wanted = record { number = 0; done = 0; wanted = wanted }

-- where the next piece stands, if a piece gives this many lines
abbrev pub next_site : ℕ → PieceSite → PieceSite
next_site each at = record {
  number = at.number + 1;
  done = at.done + min each at.wanted;
  wanted = at.wanted - each;
}

-- A piece of these has a fault in the lines that it is to give, or lines are still wanted after the last one. The first
-- of them stands there.
abbrev pub PiecesFail : Form → ℕ → PieceSite → List (List ℕ) → ImageFault → Type 0
PiecesFail form each at [] fault = LinesLack form at.done at.wanted fault
PiecesFail form each at (piece ∷ pieces) fault =
    PieceFails form (min each at.wanted) at.number piece fault
    ⊎ FailsLater form (min each at.wanted) piece (PiecesFail form each (next_site each at) pieces fault)

-- the pieces, from the first one on, lack lines
abbrev pub LackLines : Form → ℕ → ℕ → List (List ℕ) → ImageFault → Type 0
LackLines form each wanted pieces fault = PiecesFail form each (first_site wanted) pieces fault
