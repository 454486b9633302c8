-- What stays outside of writes.
use Rattle.std.proofs.Common.{◌≡◌, ◌≤◌, ◌+◌, ◌-◌, ℕ, min, List, length, take, drop, sym, ap, ◌∙◌, arith, length-take}
use Rattle.std.proofs.lemmas.List.{drop-drop, take-take}
use Rattle.lr_shelf.specs.Adding.{StaysOutside}

outside_less : (gate gate' to : ℕ) (file mid c : List ℕ) → gate ≤ gate' → min gate (length file) ≤ length mid
    → StaysOutside gate' to mid c → take (min gate (length file)) c ≡ take (min gate (length file)) mid
outside_less gate gate' to file mid c later longer second =
    let k = min gate (length file) in
    let m = min gate' (length mid) in
    let below : k ≤ m = omega (arith, later, longer) in
    sym (take-take k m c below) ∙ ap (take k) second.before ∙ take-take k m mid below

drop_more : (to to' : ℕ) (file c : List ℕ) → to ≤ to' → drop to c ≡ drop to file → drop to' c ≡ drop to' file
drop_more to to' file c further same =
    let size : to + (to' - to) ≡ to' = omega (arith, further) in
    ap (λ (k : ℕ). drop k c) (sym size) ∙ sym (drop-drop (to' - to) to c) ∙ ap (drop (to' - to)) same
    ∙ drop-drop (to' - to) to file ∙ ap (λ (k : ℕ). drop k file) size

pub outside_further : (gate to to' : ℕ) (file c : List ℕ) → to ≤ to' → StaysOutside gate to file c
    → StaysOutside gate to' file c
outside_further gate to to' file c further stays = record {
  before = stays.before;
  after = drop_more to to' file c further stays.after;
}

-- one write after another, each further on
pub outside_on : (gate gate' to to' : ℕ) (file mid c : List ℕ) → gate ≤ gate' → to ≤ to'
    → StaysOutside gate to file mid → StaysOutside gate' to' mid c → StaysOutside gate to' file c
outside_on gate gate' to to' file mid c later further first second =
    let k = min gate (length file) in
    let longer : k ≤ length mid =
    omega (arith, ap (λ (l : List ℕ). length l) first.before, length-take k mid, length-take k file) in
    record {
      before = outside_less gate gate' to' file mid c later longer second ∙ first.before;
      after = second.after ∙ drop_more to to' file mid further first.after;
    }

-- nothing was written
pub outside_same : (gate to : ℕ) (file c : List ℕ) → c ≡ file → StaysOutside gate to file c
outside_same gate to file c same = record { before = ap (take _) same; after = ap (drop to) same }
