use Rattle.std.proofs.Common.{◌≡◌, ℕ, ◌<◌, List, length, drop, get_or}
use Rattle.lr_bits.specs.File.{File}
use Rattle.lr_bits.specs.declared.sizes.TheConstants.{ZONE_BYTES}
use Rattle.lr_uplink.specs.Progress.{IsSending}
use Rattle.lr_uplink.proofs.sending.Sending.fill.Given as goal

abbrev pub invariant-loop-place : goal.invariant-loop-place
invariant-loop-place l = record {
  long : length l.zone ≡ ZONE_BYTES;
  stands : (file : File) (count : ℕ) (rest : List ℕ) → IsSending l.initial.self file count rest →
      IsSending l.self file count (drop l.place rest);
  bytes : (file : File) (count : ℕ) (rest : List ℕ) → IsSending l.initial.self file count rest →
      (i : ℕ) → i < l.place → get_or l.zone i 0 ≡ get_or rest i 0;
}
