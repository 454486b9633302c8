-- Ranges that are read or written piece by piece.
use Rattle.std.proofs.Common.{◌≡◌, ℕ, ◌+◌, ◌-◌, ◌<◌, ◌≤◌, min, List, ◌++◌, length, take, drop, refl, sym, ◌∙◌, ap}
use Rattle.std.proofs.Common.{inl, inr, ⊎_elim, subst, arith, length-append, length-take, length-drop}
use Rattle.std.proofs.lemmas.Bool.{cases_lt}
use Rattle.std.proofs.Math.Seq.{take-add, take-append-add}
use Rattle.std.proofs.lemmas.List.{drop-drop, drop-take, take-take}
use Rattle.std.proofs.lemmas.Slice.{take-put_mid}
use borrow.Rule.Slice.PartMut.{put_mid}
use Rattle.lr_disk.specs.Disk.{Cut, Elapses, FollowsWrite, KeepsImages, SameImages, Torn, Written}
use Rattle.lr_disk.specs.Mem.{written_torn}
use Rattle.lr_disk.proofs.Moments.{Cut-refl}

-- what was read, and one piece more
pub read_on : (at filled count size : ℕ) (into piece contents : List ℕ) → filled ≤ length into
    → length piece ≡ size → count ≤ length piece → take filled into ≡ take filled (drop at contents)
    → take count piece ≡ take count (drop (at + filled) contents)
    → take (filled + count) (put_mid filled size into piece) ≡ take (filled + count) (drop at contents)
read_on at filled count size into piece contents within size_is few so_far now =
    let front : length (take filled into) ≡ filled = omega (arith, length-take filled into) in
    let whole = put_mid filled size into piece in
    let long : take (filled + count) whole ≡ take (filled + count) (take filled into ++ piece) =
    sym (take-take (filled + count) (filled + length piece) whole (omega arith))
    ∙ ap (take (filled + count)) (take-put_mid filled size into piece (filled + length piece) refl within) in
    let split : take (filled + count) (take filled into ++ piece) ≡ take filled into ++ take count piece =
    ap (λ (n : ℕ). take (n + count) (take filled into ++ piece)) (sym front)
    ∙ take-append-add (take filled into) piece count in
    let stands : take (filled + count) (drop at contents)
    ≡ take filled (drop at contents) ++ take count (drop (at + filled) contents) =
    take-add filled count (drop at contents)
    ∙ ap (λ (l : List ℕ). take filled (drop at contents) ++ take count l) (drop-drop filled at contents) in
    long ∙ split ∙ ap (λ (l : List ℕ). l ++ take count piece) so_far
    ∙ ap (λ (l : List ℕ). take filled (drop at contents) ++ l) now ∙ sym stands

-- what was written, and one piece more after it
written_joined : (at : ℕ) (a b old mid new : List ℕ) → Written at a old mid → Written (at + length a) b mid new
    → Written at (a ++ b) old new
written_joined at a b old mid new first second =
    let n = at + length a in
    let m = min at (length old) in
    let all : length (a ++ b) ≡ length a + length b = length-append a b in
    let inside : min n (length mid) ≡ n = omega (arith, first.size) in
    let same : take n new ≡ take n mid =
    ap (λ (k : ℕ). take k new) (sym inside) ∙ second.before ∙ ap (λ (k : ℕ). take k mid) inside in
    let front : take (length a) (drop at new) ≡ a =
    sym (drop-take at (length a) new) ∙ ap (drop at) same ∙ drop-take at (length a) mid ∙ first.here in
    let back : take (length b) (drop (length a) (drop at new)) ≡ b =
    ap (take (length b)) (drop-drop (length a) at new) ∙ second.here in
    let rest : drop (n + length b) mid ≡ drop (n + length b) old =
    sym (drop-drop (length b) n mid) ∙ ap (drop (length b)) first.after ∙ drop-drop (length b) n old in
    let end : at + length (a ++ b) ≡ n + length b = omega (arith, all) in
    record {
      before = sym (take-take m n new (omega arith)) ∙ ap (take m) same ∙ take-take m n mid (omega arith)
          ∙ first.before;
      here = ap (λ (k : ℕ). take k (drop at new)) all ∙ take-add (length a) (length b) (drop at new)
          ∙ ap (λ (l : List ℕ). l ++ take (length b) (drop (length a) (drop at new))) front
          ∙ ap (λ (l : List ℕ). a ++ l) back;
      after = ap (λ (k : ℕ). drop k new) end ∙ second.after ∙ rest ∙ ap (λ (k : ℕ). drop k old) (sym end);
      size = omega (arith, first.size, second.size, all);
    }

-- a range that is torn is torn as a part of a wider one
pub torn_wider : (from to to' : ℕ) (old new : List ℕ) → to ≤ to' → Torn from to old new → Torn from to' old new
torn_wider from to to' old new wider torn =
    let place : to + (to' - to) ≡ to' = omega arith in
    let beyond : (l : List ℕ) → drop to' l ≡ drop (to' - to) (drop to l) =
    λ l. ap (λ (k : ℕ). drop k l) (sym place) ∙ sym (drop-drop (to' - to) to l) in
    record {
      before = torn.before;
      after = beyond new ∙ ap (drop (to' - to)) torn.after ∙ sym (beyond old);
      no_shorter = torn.no_shorter;
      no_longer = omega (arith, torn.no_longer);
    }

pub follows_wider : (from to to' : ℕ) (images images' : List ℕ → Type 0) → to ≤ to'
    → FollowsWrite (Torn from to) images images'
    → FollowsWrite (Torn from to') images images'
follows_wider from to to' images images' wider follows c image =
    let was = follows c image in
    (was.0, was.1, torn_wider from to to' was.0 c wider was.2)

-- a range is torn, and then a part of it again
torn_joined : (from from' to : ℕ) (old mid new : List ℕ) → from ≤ from' → Torn from to old mid → Torn from' to mid new
    → Torn from to old new
torn_joined from from' to old mid new later first second = record {
  before = sym (take-take from from' new later) ∙ ap (take from) second.before ∙ take-take from from' mid later
      ∙ first.before;
  after = second.after ∙ first.after;
  no_shorter = omega (arith, first.no_shorter, second.no_shorter);
  no_longer = omega (arith, first.no_longer, second.no_longer);
}

torn_not : (from to : ℕ) (old : List ℕ) → Torn from to old old
torn_not from to old = record { before = refl; after = refl; no_shorter = omega arith; no_longer = omega arith }

-- the first bytes are written, and none yet where there are none
pub record WrittenSoFar (at done : ℕ) (bytes old now : List ℕ) : Type 0 where
  pub none : done ≡ 0 → now ≡ old
  pub some : 0 < done → Written at (take done bytes) old now

module _ (at done : ℕ) (bytes rest old mid : List ℕ) (within : done ≤ length bytes) (rest_is : rest ≡ drop done bytes)
    (so_far : WrittenSoFar at done bytes old mid) where
  torn_so_far : Torn (min at (length old)) (at + length bytes) old mid
  torn_so_far = elim (cases_lt 0 done) [
    | inl some ↦
        torn_wider (min at (length old)) (at + length (take done bytes)) (at + length bytes) old mid
        (omega (arith, length-take done bytes)) (written_torn at (take done bytes) old mid (so_far.some some))
    | inr none ↦
        subst (Torn (min at (length old)) (at + length bytes) old) (sym (so_far.none (omega arith)))
        (torn_not (min at (length old)) (at + length bytes) old)
  ]

  starts_before : min at (length old) ≤ min (at + done) (length mid)
  starts_before = omega (arith, torn_so_far.no_shorter)

  ends_there : at + done + length rest ≡ at + length bytes
  ends_there = omega (arith, ap length rest_is, length-drop done bytes)

  -- the next piece is torn, whatever came before it
  pub torn_on : (c d : List ℕ) → Torn (min at (length old)) (at + length bytes) c d → (e : List ℕ)
      → Torn (min (at + done) (length mid)) (at + done + length rest) d e
      → Torn (min at (length old)) (at + length bytes) c e
  torn_on c d first e second =
      torn_joined (min at (length old)) (min (at + done) (length mid)) (at + length bytes) c d e starts_before first
      (subst (λ (k : ℕ). Torn (min (at + done) (length mid)) k d e) ends_there second)

  pub torn_now : (new : List ℕ) → Torn (min (at + done) (length mid)) (at + done + length rest) mid new
      → Torn (min at (length old)) (at + length bytes) old new
  torn_now = torn_on old mid torn_so_far

  pub follows_on : (images images' images'' : List ℕ → Type 0)
      → FollowsWrite (Torn (min at (length old)) (at + length bytes)) images images'
      → FollowsWrite (Torn (min (at + done) (length mid)) (at + done + length rest)) images' images''
      → FollowsWrite (Torn (min at (length old)) (at + length bytes)) images images''
  follows_on images images' images'' first second c image =
      let mid_is = second c image in
      let old_is = first mid_is.0 mid_is.1 in
      (old_is.0, old_is.1, torn_on old_is.0 mid_is.0 old_is.2 c mid_is.2)

  pub written_on : (count : ℕ) (new : List ℕ) → Written (at + done) (take count rest) mid new
      → Written at (take (done + count) bytes) old new
  written_on count new written' =
      let written : Written (at + done) (take count (drop done bytes)) mid new =
      subst (λ (l : List ℕ). Written (at + done) (take count l) mid new) rest_is written' in
      elim (cases_lt 0 done) [
        | inl some ↦
            let size : length (take done bytes) ≡ done = omega (arith, length-take done bytes) in
            subst (λ (l : List ℕ). Written at l old new) (sym (take-add done count bytes))
            (
            written_joined at (take done bytes) (take count (drop done bytes)) old mid new (so_far.some some)
            (subst (λ (k : ℕ). Written (at + k) (take count (drop done bytes)) mid new) (sym size) written)
            )
        | inr none ↦
            let is : done ≡ 0 = omega arith in
            let piece : take count (drop done bytes) ≡ take (done + count) bytes =
            ap (λ (k : ℕ). take count (drop k bytes)) is ∙ ap (λ (k : ℕ). take k bytes) (omega arith) in
            let place : at + done ≡ at = omega arith in
            subst (λ (l : List ℕ). Written at l old new) piece
            (
            subst (λ (k : ℕ). Written k (take count (drop done bytes)) old new) place
            (subst (λ (l : List ℕ). Written (at + done) (take count (drop done bytes)) l new) (so_far.none is) written)
            )
      ]

-- nothing is cut off
pub uncut : (n : ℕ) (old new : List ℕ → Type 0) → SameImages old new → FollowsWrite (Cut n) old new
uncut n old new same c image = (c, (same c).0 image, Cut-refl n c)

-- one call after another, where the second leaves what the first might have left
pub elapsed_on : {before mid now : ℕ} (past between since : ℕ → List ℕ → Type 0) (image image' : List ℕ → Type 0)
    → Elapses before mid past between image → Elapses mid now between since image' → KeepsImages image image'
    → Elapses before now past since image'
elapsed_on past between since image image' first second kept = record {
  later = omega (arith, first.later, second.later);
  nothing_else = λ t c le left.
      ⊎_elim (λ was. ⊎_elim (λ past. inl past) (λ then. inr (kept c then)) (first.nothing_else t c le was))
      (λ now. inr now)
      (second.nothing_else t c (omega (arith, le, first.later)) left);
  keeps = λ t c le left. second.keeps t c (omega (arith, le, first.later)) (first.keeps t c le left);
}
