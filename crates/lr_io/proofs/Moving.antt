-- A copy of the next bytes to the front of a buffer.
use Rattle.std.proofs.Common.{◌≡◌, ℕ, ◌+◌, take, drop, length, sym, List, ◌++◌, subst, drop-drop, take-append-drop}
use Rattle.std.proofs.Math.Seq.{take-append_seam}

-- the bytes that were copied, and those after them, are the ones that were left
pub moved_on : (bytes : List ℕ) (at n : ℕ) (copied into : List ℕ) → copied ≡ take n (drop at bytes)
    → length copied ≡ n → drop at bytes ≡ take n (copied ++ drop n into) ++ drop (at + n) bytes
moved_on bytes at n copied into is long =
    let front : take n (copied ++ drop n into) ≡ copied =
    subst (λ k. take k (copied ++ drop n into) ≡ copied) long (take-append_seam copied (drop n into)) in
    sym (rw (front, is, ← drop-drop n at bytes) (take-append-drop n (drop at bytes)))
