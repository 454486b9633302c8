-- How a text goes out piece by piece.
use Rattle.std.proofs.Common.{◌≡◌, List, ℕ, ◌++◌}

-- a prefix of the bytes was put, and rest is left of them
pub record PutSoFar (old new bytes rest : List ℕ) : Type 0 where
  pub front : List ℕ
  pub split : bytes ≡ front ++ rest
  pub put : new ≡ old ++ front
