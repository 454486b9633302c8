use Rattle.std.proofs.Common.{◌≡◌, ◌+◌, ◌≤◌, length}
use Rattle.std.specs.Prelude.{min, sum_by}
use Rattle.lr_image.specs.Places.{IsPlaceIn, pieces_at}
use Rattle.lr_image.specs.Room.{most_piece_lines}
use Rattle.lr_image.proofs.room.most_lines.Given as goal

-- the lines so far and those of the pieces to come are those of all pieces
abbrev pub invariant-loop-piece : goal.invariant-loop-piece
invariant-loop-piece l = record {
  inside : IsPlaceIn l.file l.place;
  few : l.lines ≤ l.all;
  all : min l.all (l.lines + sum_by (most_piece_lines l.fn.structure l.fn.lossless) (pieces_at l.file l.place))
      ≡ min l.all (sum_by (most_piece_lines l.fn.structure l.fn.lossless) (pieces_at l.file l.fn.first));
}

-- how many pieces are left
abbrev pub decreases-loop-piece : goal.decreases-loop-piece
decreases-loop-piece l = length (pieces_at l.file l.place)
