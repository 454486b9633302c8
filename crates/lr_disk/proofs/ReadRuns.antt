-- Runs of calls that read a disk alone.
use Rattle.std.proofs.Common.{◌≡◌, ℕ, List, Result, Ok, refl, subst, arith}
use Rattle.lr_bits.specs.Faults.{HasCause}
use Rattle.lr_bits.specs.declared.refusals.Failed.{Failed}
use Rattle.lr_bits.proofs.Telling.{tells_both, tells_still}
use Rattle.lr_disk.specs.Disk.{Elapses, SameImages}
use Rattle.lr_disk.specs.Reads.{IsCall, OnlyReads}
use Rattle.lr_disk.specs.declared.disk.Disk.{Ghosts as DiskOf}
use Rattle.lr_disk.proofs.Moments.{only_read_call, only_read_joined, only_read_yet}

-- the cause of a run is that of its last call
pub cause_joined : {T : Type 0} (before mid now : ℕ) (r : Result T Failed) → mid ≡ before → HasCause mid now r
    → HasCause before now r
cause_joined before mid now r same cause = subst (λ (n : ℕ). HasCause n now r) same cause

module _ {D : Type 0} (disk : DiskOf D)
    (only_now : (d : D) (c : List ℕ) → disk.tells d → disk.left_since d (disk.moment d) c → disk.may_leave d c) where
  -- no call
  pub no_call : {T : Type 0} (d : D) (answer : T) → disk.only_read d d → OnlyReads disk d d (Ok answer)
  no_call d answer none = record {
    cause = record { later = omega arith; kept = refl; rose = tt };
    tell = tells_still;
    only_read = only_read_yet disk only_now d none;
    kept = λ told c image. image;
  }

  -- one call
  pub reads_call : {T : Type 0} (d d' : D) (r : Result T Failed) → HasCause (disk.faults d) (disk.faults d') r
      → disk.only_read d d' → (disk.tells d → disk.tells d') → (disk.tells d' → disk.tells d)
      → (disk.tells d → disk.contents d' ≡ disk.contents d)
      → (disk.tells d → SameImages (disk.may_leave d) (disk.may_leave d'))
      → (disk.tells d → Elapses (disk.moment d) (disk.moment d') (disk.left_since d) (disk.left_since d')
      (disk.may_leave d'))
      → OnlyReads disk d d' r
  reads_call d d' r cause reads told untold contents crash time = record {
    cause = cause;
    tell = record { told = told; untold = untold };
    only_read = only_read_call disk only_now d d' reads contents crash time;
    kept = λ t c image. (crash t c).1 image;
  }

module _ {D : Type 0} (disk : DiskOf D)
    (reads_on : (d mid d' : D) → disk.only_read d mid → disk.only_read mid d' → disk.only_read d d') where
  -- one run after another
  pub reads_joined : {S T : Type 0} (d mid d' : D) (first : S) (r : Result T Failed)
      → OnlyReads disk d mid (Ok first) → OnlyReads disk mid d' r → OnlyReads disk d d' r
  reads_joined d mid d' first r one two = record {
    cause = cause_joined (disk.faults d) (disk.faults mid) (disk.faults d') r one.cause.kept two.cause;
    tell = tells_both one.tell two.tell;
    only_read = only_read_joined disk reads_on d mid d' one.tell.told one.only_read two.only_read;
    kept = λ t c image. two.kept (one.tell.told t) c (one.kept t c image);
  }

module _ {D : Type 0} (disk : DiskOf D) where
  -- the same run with another answer
  pub reads_answer : {S T : Type 0} (d d' : D) (first : S) (other : T) → OnlyReads disk d d' (Ok first)
      → OnlyReads disk d d' (Ok other)
  reads_answer d d' first other one = record {
    cause = record { later = one.cause.later; kept = one.cause.kept; rose = tt };
    tell = one.tell;
    only_read = one.only_read;
    kept = one.kept;
  }

  -- one call after another, whatever they do
  pub calls_joined : {S T : Type 0} (d mid d' : D) (first : S) (r : Result T Failed)
      → IsCall disk d mid (Ok first) → IsCall disk mid d' r → IsCall disk d d' r
  calls_joined d mid d' first r one two = record {
    cause = cause_joined (disk.faults d) (disk.faults mid) (disk.faults d') r one.cause.kept two.cause;
    tell = tells_both one.tell two.tell;
  }
