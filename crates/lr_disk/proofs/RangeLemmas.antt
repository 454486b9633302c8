-- Each crash image keeps what the pending writes and cuts don't leave open.
use Rattle.std.proofs.Common.{◌≡◌, ◌⊎◌, inl, inr, ℕ, ◌+◌, ◌-◌, ◌<◌, ◌≤◌, min, List, [], ◌∷◌, length}
use Rattle.std.proofs.Common.{get_or, sym, ◌∙◌, ap, arith, length-take}
use Rattle.std.proofs.lemmas.List.{get_or-take, get_or-drop}
use Rattle.lr_disk.specs.Disk.{Torn}
use Rattle.lr_disk.specs.Mem.{Pending, torn, cut, IsCrashImageOf}
use Rattle.lr_disk.specs.Ranges.{IsOutside, least, greatest_end, ImagesKeepTheRest}

no_shorter_than : (durable : List ℕ) (pending : List Pending) (c : List ℕ) → IsCrashImageOf durable pending c
    → least (length durable) pending ≤ length c
no_shorter_than durable [] c image = omega (arith, ap length image)
no_shorter_than durable (torn from to ∷ pending) c image =
    omega (arith, no_shorter_than durable pending image.0 image.1, image.2.no_shorter)
no_shorter_than durable (cut n ∷ pending) c image =
    omega (
      arith,
      no_shorter_than durable pending image.0 image.1,
      ap length image.2.front,
      length-take image.2.kept image.0,
      image.2.enough,
    )

pub no_longer_than : (durable : List ℕ) (pending : List Pending) (c : List ℕ) → IsCrashImageOf durable pending c
    → length c ≤ greatest_end (length durable) pending
no_longer_than durable [] c image = omega (arith, ap length image)
no_longer_than durable (torn from to ∷ pending) c image =
    omega (arith, no_longer_than durable pending image.0 image.1, image.2.no_longer)
no_longer_than durable (cut n ∷ pending) c image =
    omega (
      arith,
      no_longer_than durable pending image.0 image.1,
      ap length image.2.front,
      length-take image.2.kept image.0,
    )

-- a torn write leaves the places outside
kept_by_torn : (from to : ℕ) (d c : List ℕ) (k : ℕ) → Torn from to d c → k < length c → (k < from) ⊎ (to ≤ k)
    → (k < length d) × (get_or c k 0 ≡ get_or d k 0)
kept_by_torn from to d c k step inside (inl below) = (
  omega (arith, ap length step.before, length-take from c, length-take from d),
  sym (get_or-take from c k 0 below) ∙ ap (λ (l : List ℕ). get_or l k 0) step.before ∙ get_or-take from d k 0 below,
)
kept_by_torn from to d c k step inside (inr beyond) =
    let place : to + (k - to) ≡ k = omega arith in (
      omega (arith, step.no_longer),
      ap (λ (j : ℕ). get_or c j 0) (sym place) ∙ sym (get_or-drop to c (k - to) 0)
          ∙ ap (λ (l : List ℕ). get_or l (k - to) 0) step.after
          ∙ get_or-drop to d (k - to) 0 ∙ ap (λ (j : ℕ). get_or d j 0) place,
    )

-- the durable bytes stand outside the pending ranges
same_outside : (durable : List ℕ) (pending : List Pending) (c : List ℕ) (k : ℕ) → IsCrashImageOf durable pending c
    → k < length c → IsOutside pending k → get_or c k 0 ≡ get_or durable k 0
same_outside durable [] c k image inside outside = ap (λ (l : List ℕ). get_or l k 0) image
same_outside durable (torn from to ∷ pending) c k image inside outside =
    let kept = kept_by_torn from to image.0 c k image.2 inside outside.0 in
    kept.1 ∙ same_outside durable pending image.0 k image.1 kept.0 outside.1
same_outside durable (cut n ∷ pending) c k image inside outside =
    let size : length c ≡ min image.2.kept (length image.0) = ap length image.2.front
    ∙ length-take image.2.kept image.0 in
    ap (λ (l : List ℕ). get_or l k 0) image.2.front ∙ get_or-take image.2.kept image.0 k 0 (omega (arith, size))
    ∙ same_outside durable pending image.0 k image.1 (omega (arith, size)) outside

pub images_keep_the_rest : ImagesKeepTheRest
images_keep_the_rest durable pending c image = record {
  no_shorter = no_shorter_than durable pending c image;
  no_longer = no_longer_than durable pending c image;
  outside = λ k inside outside. same_outside durable pending c k image inside outside;
}
