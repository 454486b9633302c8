-- Ways from gate to gate: how they go on, and that there is one.
use Rattle.std.proofs.Common.{◌≡◌, ◌<◌, ◌≤◌, ◌+◌, ◌-◌, ℕ, List, [], ◌∷◌, ◌++◌, length, slice_index, take, drop, refl}
use Rattle.std.proofs.Common.{sym, ap, ◌∙◌, subst, arith, append_assoc}
use Rattle.std.proofs.lemmas.List.{append-nil, drop-take, get_or-take, map_push}
use Rattle.lr_shelf_format.specs.Items.{AreProper, Begins, IsProper, MayFollow}
use Rattle.lr_shelf_format.specs.Walk.{IsBrokenAt, IsOpen, IsPath, IsWalk, LeadsToNextGate, Step, heads_of, next_gate}
use Rattle.lr_shelf_format.specs.declared.item.ItemHead.{ItemHead}
use Rattle.lr_shelf_format.proofs.ItemLemmas.{Begins-same, head_is}

-- ---- proper lists

pub AreProper-push : (before heads : List ItemHead) (head : ItemHead) → AreProper before heads
    → MayFollow (before ++ heads) head → AreProper before (heads ++ head ∷ [])
AreProper-push before [] head proper may = (subst (λ hs. MayFollow hs head) (append-nil before) may, tt)
AreProper-push before (first ∷ heads) head proper may = (
  proper.0,
  AreProper-push (before ++ first ∷ []) heads head proper.1
      (subst (λ hs. MayFollow hs head) (sym (append_assoc before (first ∷ []) heads)) may),
)

pub IsProper-push : (heads : List ItemHead) (head : ItemHead) → IsProper heads → MayFollow heads head
    → IsProper (heads ++ head ∷ [])
IsProper-push heads head proper may = AreProper-push [] heads head proper may

-- ---- paths

pub IsPath-push : (bytes : List ℕ) (from : ℕ) (steps : List Step) (step : Step) → IsPath bytes from steps step.gate
    → LeadsToNextGate bytes step → IsPath bytes from (steps ++ step ∷ []) (next_gate step)
IsPath-push bytes from [] step path leads = (sym path, leads, refl)
IsPath-push bytes from (first ∷ steps) step path leads =
    (path.0, path.1, IsPath-push bytes (next_gate first) steps step path.2 leads)

pub heads_of-push : (steps : List Step) (step : Step) → heads_of (steps ++ step ∷ []) ≡ heads_of steps ++ step.head ∷ []
heads_of-push steps step = map_push (λ (s : Step). s.head) steps step

step_is : (step : Step) (gate : ℕ) (head : ItemHead) → step.gate ≡ gate → step.head ≡ head
    → step ≡ record { gate = gate; head = head }
step_is step gate head gates heads = ap (λ g. record { gate = g; head = step.head }) gates
    ∙ ap (λ h. record { gate = gate; head = h }) heads

-- no step goes on from this place, after these heads
abbrev pub IsEnd : List ℕ → List ItemHead → ℕ → Type 0
IsEnd bytes heads at = (head : ItemHead) → LeadsToNextGate bytes (record { gate = at; head = head })
    → MayFollow heads head → ⊥

-- two ways that can't go on are the same
pub same_ends : (bytes : List ℕ) (before : List ItemHead) (from to to' : ℕ) (steps steps' : List Step)
    → IsPath bytes from steps to → IsPath bytes from steps' to'
    → AreProper before (heads_of steps) → AreProper before (heads_of steps')
    → IsEnd bytes (before ++ heads_of steps) to → IsEnd bytes (before ++ heads_of steps') to' → (steps ≡ steps')
    × (to ≡ to')
same_ends bytes before from to to' [] [] path path' proper proper' ends ends' = (refl, sym path ∙ path')
same_ends bytes before from to to' [] (step' ∷ steps') path path' proper proper' ends ends' =
    absurd (ends step'.head
    (subst (λ n. LeadsToNextGate bytes (record { gate = n; head = step'.head })) (path'.0 ∙ path) path'.1)
    (subst (λ hs. MayFollow hs step'.head) (sym (append-nil before)) proper'.0))
same_ends bytes before from to to' (step ∷ steps) [] path path' proper proper' ends ends' =
    absurd (ends' step.head
    (subst (λ n. LeadsToNextGate bytes (record { gate = n; head = step.head })) (path.0 ∙ path') path.1)
    (subst (λ hs. MayFollow hs step.head) (sym (append-nil before)) proper.0))
same_ends bytes before from to to' (step ∷ steps) (step' ∷ steps') path path' proper proper' ends ends' =
    let gates : step.gate ≡ step'.gate = path.0 ∙ sym path'.0 in
    let heads : step.head ≡ step'.head =
    head_is (drop (step'.gate + 1) bytes) step.head step'.head
    (subst (λ g. Begins (drop (g + 1) bytes) step.head) gates path.1.begins) path'.1.begins in
    let same : step ≡ step' = step_is step step'.gate step'.head gates heads in
    let first = before ++ step'.head ∷ [] in
    let path2 : IsPath bytes (next_gate step') steps to =
    subst (λ s. IsPath bytes (next_gate s) steps to) same path.2 in
    let proper2 : AreProper first (heads_of steps) =
    subst (λ h. AreProper (before ++ h ∷ []) (heads_of steps)) heads proper.1 in
    let ends2 : IsEnd bytes (first ++ heads_of steps) to =
    subst (λ hs. IsEnd bytes hs to)
    (ap (λ h. before ++ (h ∷ heads_of steps)) heads
    ∙ sym (append_assoc before (step'.head ∷ []) (heads_of steps))) ends in
    let ends2' : IsEnd bytes (first ++ heads_of steps') to' =
    subst (λ hs. IsEnd bytes hs to') (sym (append_assoc before (step'.head ∷ []) (heads_of steps'))) ends' in
    let others = same_ends bytes first
    (next_gate step') to to' steps steps' path2 path'.2 proper2 proper'.1 ends2 ends2' in
    (ap (λ s. s ∷ steps) same ∙ ap (λ ss. step' ∷ ss) others.0, others.1)

-- ---- no walk where one is broken

module _ (bytes : List ℕ) where
  walk_ends : (steps : List Step) (last : ℕ) → IsWalk bytes steps last → IsEnd bytes (heads_of steps) last
  walk_ends steps last walk head leads may = walk.closed leads.is_open

  pub not_both : (steps : List Step) (last at : ℕ) → IsWalk bytes steps last → IsBrokenAt bytes at → ⊥
  not_both steps last at walk broken =
      let same = same_ends bytes [] 19 last at steps broken.steps walk.path broken.path walk.proper broken.proper
      (walk_ends steps last walk) broken.broken in
      walk.closed (subst (λ n. IsOpen bytes n) (sym same.1) broken.is_open)

-- ---- bytes that begin alike

-- a byte, and some bytes in a row, of a front that is the same
byte_same : (n k : ℕ) (xs ys : List ℕ) → k < n → take n xs ≡ take n ys → slice_index xs k ≡ slice_index ys k
byte_same n k xs ys inside same = sym (get_or-take n xs k 0 inside) ∙ ap (λ (l : List ℕ). slice_index l k) same
    ∙ get_or-take n ys k 0 inside

row_same : (n k : ℕ) (xs ys : List ℕ) → k ≤ n → take n xs ≡ take n ys
    → take (n - k) (drop k xs) ≡ take (n - k) (drop k ys)
row_same n k xs ys inside same =
    let size : k + (n - k) ≡ n = omega arith in
    sym (drop-take k (n - k) xs) ∙ ap (λ m. drop k (take m xs)) size ∙ ap (drop k) same
    ∙ ap (λ m. drop k (take m ys)) (sym size) ∙ drop-take k (n - k) ys

pub Leads-same : (n : ℕ) (xs ys : List ℕ) (step : Step) → next_gate step ≤ n → n < length ys → take n xs ≡ take n ys
    → LeadsToNextGate xs step → LeadsToNextGate ys step
Leads-same n xs ys step within inside same leads = record {
  is_open = sym (byte_same n step.gate xs ys (omega arith) same) ∙ leads.is_open;
  begins = Begins-same (n - (step.gate + 1)) (drop (step.gate + 1) xs) (drop (step.gate + 1) ys) step.head
      (omega arith) (row_same n (step.gate + 1) xs ys (omega arith) same) leads.begins;
  inside = omega arith;
}

-- a path goes forward
pub path_forward : (bytes : List ℕ) (from to : ℕ) (steps : List Step) → IsPath bytes from steps to → from ≤ to
path_forward bytes from to [] path = omega (arith, path)
path_forward bytes from to (step ∷ steps) path =
    omega (arith, path.0, path_forward bytes (next_gate step) to steps path.2)

pub IsPath-same : (xs ys : List ℕ) (from to : ℕ) (steps : List Step) → to < length ys → take to xs ≡ take to ys
    → IsPath xs from steps to → IsPath ys from steps to
IsPath-same xs ys from to [] inside same path = path
IsPath-same xs ys from to (step ∷ steps) inside same path = (
  path.0,
  Leads-same to xs ys step (path_forward xs (next_gate step) to steps path.2) inside same path.1,
  IsPath-same xs ys (next_gate step) to steps inside same path.2,
)
