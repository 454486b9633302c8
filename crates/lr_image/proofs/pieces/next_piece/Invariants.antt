use Rattle.std.proofs.Common.{◌≡◌, ◌-◌, length}
use Rattle.lr_image.specs.Places.{IsPlaceIn, pieces_at}
use Rattle.lr_image.proofs.pieces.next_piece.Given as goal

-- the bodies that were passed have no pieces
abbrev pub invariant-loop-place : goal.invariant-loop-place
invariant-loop-place l = record {
  inside : IsPlaceIn l.file l.place;
  same : pieces_at l.file l.initial.place ≡ pieces_at l.file l.place;
}

abbrev pub decreases-loop-place : goal.decreases-loop-place
decreases-loop-place l = length l.lengths - l.place.bodies
