-- How a run of calls goes on.
use Rattle.std.proofs.Common.{◌≡◌, inl, inr, ⊎_elim, ℕ, ◌+◌, List, length, refl, sym, ◌∙◌, subst, arith}
use Rattle.std.proofs.lemmas.List.{take_all}
use Rattle.lr_disk.specs.Disk.{Cut, Elapses, FollowsWrite, LeavesOnly, NoOther, SameImages}
use Rattle.lr_disk.specs.Reads.{IsOnlyRead, IsUnwritten}
use Rattle.lr_disk.specs.declared.disk.Disk.{Ghosts as DiskOf}
use Rattle.lr_disk.specs.Pending.{EachImageSince, NothingPending}

module _ {D : Type 0} (moment : D → ℕ) (left_since : D → ℕ → List ℕ → Type 0) where
  -- what is left has a weaker property too
  pub weaker : (old new : D) (P Q : List ℕ → Type 0) → ((c : List ℕ) → P c → Q c)
      → LeavesOnly moment left_since old new P
      → LeavesOnly moment left_since old new Q
  weaker old new P Q to run = record {
    later = run.later;
    each = λ c left. to c (run.each c left);
    before = λ t c le left. ⊎_elim (λ was. inl was) (λ now. inr (to c now)) (run.before t c le left);
    keeps = run.keeps;
  }

  -- one run after another
  pub joined : (old mid new : D) (P : List ℕ → Type 0) → LeavesOnly moment left_since old mid P
      → LeavesOnly moment left_since mid new P → LeavesOnly moment left_since old new P
  joined old mid new P first second = record {
    later = omega (arith, first.later, second.later);
    each = λ c left. ⊎_elim (first.each c) (λ now. now) (second.before (moment old) c first.later left);
    before = λ t c le left.
        ⊎_elim (first.before t c le) (λ now. inr now) (second.before t c (omega (arith, le, first.later)) left);
    keeps = λ t c le left. second.keeps t c (omega (arith, le, first.later)) (first.keeps t c le left);
  }

module _ {D : Type 0} (disk : DiskOf D)
    (only_now : (d : D) (c : List ℕ) → disk.tells d → disk.left_since d (disk.moment d) c → disk.may_leave d c) where
  -- no call: what a crash may leave now
  pub stays : (d : D) (P : List ℕ → Type 0) → disk.tells d → ((c : List ℕ) → disk.may_leave d c → P c)
      → EachImageSince disk d d P
  stays d P told is = record {
    later = omega arith;
    each = λ c left. is c (only_now d c told left);
    before = λ t c le left. inl left;
    keeps = λ t c le left. left;
  }

  -- one call: what a crash may leave as it begins, and as it returns
  pub one_call : (old new : D) (P : List ℕ → Type 0) → disk.tells old → ((c : List ℕ) → disk.may_leave old c → P c)
      → ((c : List ℕ) → disk.may_leave new c → P c)
      → Elapses (disk.moment old) (disk.moment new) (disk.left_since old) (disk.left_since new) (disk.may_leave new)
      → EachImageSince disk old new P
  one_call old new P told first then time = record {
    later = time.later;
    each = λ c left.
        ⊎_elim (λ past. first c (only_now old c told past)) (λ image. then c image)
        (time.nothing_else (disk.moment old) c (omega arith) left);
    before = λ t c le left. ⊎_elim (λ past. inl past) (λ image. inr (then c image)) (time.nothing_else t c le left);
    keeps = time.keeps;
  }

  -- before the first call nothing was written
  pub unwritten_yet : (d : D) → disk.tells d → IsUnwritten disk d d
  unwritten_yet d told = record {
    contents = refl;
    images = λ c image. image;
    any_moment = stays d (disk.may_leave d) told (λ c image. image);
  }

  pub unwritten_call : (d d' : D) → disk.tells d → disk.contents d' ≡ disk.contents d
      → SameImages (disk.may_leave d) (disk.may_leave d')
      → Elapses (disk.moment d) (disk.moment d') (disk.left_since d) (disk.left_since d') (disk.may_leave d')
      → IsUnwritten disk d d'
  unwritten_call d d' told contents images time = record {
    contents = contents;
    images = λ c image. (images c).0 image;
    any_moment = one_call d d' (disk.may_leave d) told (λ c image. image) (λ c image. (images c).0 image) time;
  }

  -- no call: the disk was only read
  pub only_read_yet : (d : D) → disk.only_read d d → IsOnlyRead disk d d
  only_read_yet d none = record { calls = none; unwritten = λ told. unwritten_yet d told }

  -- one call that only reads
  pub only_read_call : (d d' : D) → disk.only_read d d' → (disk.tells d → disk.contents d' ≡ disk.contents d)
      → (disk.tells d → SameImages (disk.may_leave d) (disk.may_leave d'))
      → (disk.tells d → Elapses (disk.moment d) (disk.moment d') (disk.left_since d) (disk.left_since d')
      (disk.may_leave d'))
      → IsOnlyRead disk d d'
  only_read_call d d' reads contents images time = record {
    calls = reads;
    unwritten = λ told. unwritten_call d d' told (contents told) (images told) (time told);
  }

module _ {D : Type 0} (disk : DiskOf D) where
  -- one call after another
  pub unwritten_joined : (d mid d' : D) → IsUnwritten disk d mid → IsUnwritten disk mid d' → IsUnwritten disk d d'
  unwritten_joined d mid d' first second = record {
    contents = second.contents ∙ first.contents;
    images = λ c image. first.images c (second.images c image);
    any_moment = joined disk.moment disk.left_since d mid d' (disk.may_leave d) first.any_moment
        (
        weaker disk.moment disk.left_since mid d' (disk.may_leave mid) (disk.may_leave d)
        (λ c image. first.images c image)
        second.any_moment
        );
  }

module _ {D : Type 0} (disk : DiskOf D)
    (reads_on : (d mid d' : D) → disk.only_read d mid → disk.only_read mid d' → disk.only_read d d') where
  -- one run that only reads after another
  pub only_read_joined : (d mid d' : D) → (disk.tells d → disk.tells mid) → IsOnlyRead disk d mid
      → IsOnlyRead disk mid d' → IsOnlyRead disk d d'
  only_read_joined d mid d' told first second = record {
    calls = reads_on d mid d' first.calls second.calls;
    unwritten = λ t. unwritten_joined disk d mid d' (first.unwritten t) (second.unwritten (told t));
  }

-- ---- a cut

-- bytes of which nothing was cut off
pub Cut-refl : (n : ℕ) (bytes : List ℕ) → Cut n bytes bytes
Cut-refl n bytes = record {
  kept = n + length bytes;
  enough = omega arith;
  front =
      sym (take_all (n + length bytes) bytes (omega arith));
}

module _ {D : Type 0} (disk : DiskOf D)
    (only_now : (d : D) (c : List ℕ) → disk.tells d → disk.left_since d (disk.moment d) c → disk.may_leave d c)
    {n : ℕ} {old mid : D} (told : disk.tells old) (durable : NothingPending disk old)
    (crash : FollowsWrite (Cut n) (disk.may_leave old) (disk.may_leave mid))
    (time : Elapses (disk.moment old) (disk.moment mid) (disk.left_since old) (disk.left_since mid)
    (disk.may_leave mid)) where
  images_are_cuts : (c : List ℕ) → disk.may_leave mid c → Cut n (disk.contents old) c
  images_are_cuts c image =
      let step = crash c image in subst (λ l. Cut n l c) (durable step.0 step.1) step.2

  -- where nothing was pending, a cut leaves only cuts of the contents at any moment
  pub cut_moments : EachImageSince disk old mid (Cut n (disk.contents old))
  cut_moments =
      one_call disk only_now old mid _ told
      (λ c image. subst (Cut n (disk.contents old)) (sym (durable c image)) (Cut-refl n (disk.contents old)))
      images_are_cuts time

  -- and so does a sync after it
  pub cut_sync_moments : {new : D} → disk.tells mid → NoOther (disk.may_leave mid) (disk.may_leave new)
      → Elapses (disk.moment mid) (disk.moment new) (disk.left_since mid) (disk.left_since new) (disk.may_leave new)
      → EachImageSince disk old new (Cut n (disk.contents old))
  cut_sync_moments {new} told_then kept time_then =
      joined disk.moment disk.left_since old mid new _ cut_moments
      (one_call disk only_now mid new _ told_then images_are_cuts (λ c image. images_are_cuts c (kept c image))
      time_then)
