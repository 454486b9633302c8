-- Places in joined bytes: what more bytes after them, or before them, change.
use Rattle.lr_vc.specs.Runs.{Run}
use Rattle.std.proofs.Common.{◌≡◌, ℕ, zero, suc, ◌+◌, ◌-◌, ◌*◌, ◌<◌, ◌≤◌, Bool, true, false, cond, ◌&&◌, List, [], ◌∷◌}
use Rattle.std.proofs.Common.{◌++◌, map, length, take, drop, get_or, refl, sym, ap, ap₂, ◌∙◌, arith, add-zero}
use Rattle.std.proofs.Common.{length-append, length-drop, drop-drop, drop_at, get_or-drop, ltb, leb, le-ltb, lt-ltb}
use Rattle.std.proofs.Common.{le-leb, leb-true, leb-false, ltb-true, ⊎_elim, Contains, inl, inr, ◌⊎◌, subst}
use Rattle.std.proofs.lemmas.List.{get_or_append_left, drop-append-le, take-append-le}
use Rattle.std.proofs.lemmas.Bool.{and_parts, and_from, and_left, and_right, lt-leb, cases_lt, cond_both}
use Rattle.std.specs.List.{AllByRecursion as Each}
use Rattle.lr_bits.specs.Packet.{length_field_at}
use Rattle.lr_bits.specs.declared.sizes.TheConstants.{ZONE_BYTES}
use Rattle.lr_vc.specs.Packets.{packet_end, has_header, is_whole, starts_from, packet_at, zones_of, pointer_of}
use Rattle.lr_vc.specs.Packets.{starts_in_zone}

cond_same : {X : Type 0} {x : X} (b : Bool) → cond b x x ≡ x
cond_same true = refl
cond_same false = refl

map_cond : (b : Bool) (xs : List ℕ) (n : ℕ) → cond b (map (λ k. n + k) xs) [] ≡ map (λ k. n + k) (cond b xs [])
map_cond true xs n = refl
map_cond false xs n = refl

-- ---- the two bytes of a length field

pub length_field : (xs : List ℕ) (s : ℕ) → length_field_at xs s ≡ get_or xs (s + 4) 0 * 256 + get_or xs (s + 5) 0
length_field xs s =
    let second : s + 4 + 1 ≡ s + 5 = omega arith in
    let at0 : get_or (drop (s + 4) xs) 0 0 ≡ get_or xs (s + 4) 0 =
    get_or-drop (s + 4) xs 0 0 ∙ ap (λ k. get_or xs k 0) (add-zero (s + 4)) in
    let at1 : get_or (drop (s + 4) xs) 1 0 ≡ get_or xs (s + 5) 0 =
    get_or-drop (s + 4) xs 1 0 ∙ ap (λ k. get_or xs k 0) second in
    omega (arith, at0, at1)

pub length_field-append : (xs ys : List ℕ) (s : ℕ) → s + 6 ≤ length xs →
    length_field_at (xs ++ ys) s ≡ length_field_at xs s
length_field-append xs ys s h =
    let e4 = get_or_append_left xs ys 0 (s + 4) (omega arith) in
    let e5 = get_or_append_left xs ys 0 (s + 5) (omega arith) in
    omega (arith, length_field (xs ++ ys) s, length_field xs s, e4, e5)

pub length_field-drop : (xs : List ℕ) (n s : ℕ) → length_field_at (drop n xs) s ≡ length_field_at xs (n + s)
length_field-drop xs n s =
    let at4 : get_or (drop n xs) (s + 4) 0 ≡ get_or xs (n + s + 4) 0 =
    get_or-drop n xs (s + 4) 0 ∙ ap (λ k. get_or xs k 0) (omega arith) in
    let at5 : get_or (drop n xs) (s + 5) 0 ≡ get_or xs (n + s + 5) 0 =
    get_or-drop n xs (s + 5) 0 ∙ ap (λ k. get_or xs k 0) (omega arith) in
    omega (arith, length_field (drop n xs) s, length_field xs (n + s), at4, at5)

pub length_field-behind : (xs ys : List ℕ) (n s : ℕ) → length xs ≡ n →
    length_field_at (xs ++ ys) (n + s) ≡ length_field_at ys s
length_field-behind xs ys n s e =
    sym (length_field-drop (xs ++ ys) n s) ∙ ap (λ zs. length_field_at zs s) (drop_at xs ys n e)

-- ---- where a packet ends

pub packet_end_is : (xs : List ℕ) (s : ℕ) → packet_end xs s ≡ s + 7 + length_field_at xs s
unfolding packet_end
packet_end_is xs s = refl

pub packet_end-append : (xs ys : List ℕ) (s : ℕ) → s + 6 ≤ length xs → packet_end (xs ++ ys) s ≡ packet_end xs s
unfolding packet_end
packet_end-append xs ys s h = ap (λ n. s + 7 + n) (length_field-append xs ys s h)

pub packet_end-behind : (xs ys : List ℕ) (n s : ℕ) → length xs ≡ n → packet_end (xs ++ ys) (n + s) ≡ n + packet_end ys s
unfolding packet_end
packet_end-behind xs ys n s e = omega (arith, length_field-behind xs ys n s e)

pub packet_end-drop : (xs : List ℕ) (n : ℕ) → packet_end xs n ≡ n + packet_end (drop n xs) 0
unfolding packet_end
packet_end-drop xs n =
    let here : length_field_at xs (n + 0) ≡ length_field_at xs n = ap (λ k. length_field_at xs k) (add-zero n) in
    omega (arith, length_field-drop xs n 0, here)

-- ---- whether it is whole

pub has_header_true : (xs : List ℕ) (s : ℕ) → has_header xs s ≡ true → s + 6 ≤ length xs
unfolding has_header
has_header_true xs s e = leb-true (s + 6) (length xs) e

pub has_header_if : (xs : List ℕ) (s : ℕ) → s + 6 ≤ length xs → has_header xs s ≡ true
unfolding has_header
has_header_if xs s h = le-leb (s + 6) (length xs) h

pub has_header_not : (xs : List ℕ) (s : ℕ) → length xs < s + 6 → has_header xs s ≡ false
unfolding has_header
has_header_not xs s h = lt-leb (s + 6) (length xs) h

pub is_whole_true : (xs : List ℕ) (s : ℕ) → is_whole xs s ≡ true → (s + 6 ≤ length xs) × (packet_end xs s ≤ length xs)
unfolding is_whole
is_whole_true xs s e =
    let parts = and_parts (has_header xs s) (leb (packet_end xs s) (length xs)) e in
    (has_header_true xs s parts.0, leb-true (packet_end xs s) (length xs) parts.1)

pub is_whole_if : (xs : List ℕ) (s : ℕ) → s + 6 ≤ length xs → packet_end xs s ≤ length xs → is_whole xs s ≡ true
unfolding is_whole
is_whole_if xs s h k =
    and_from (has_header xs s) (leb (packet_end xs s) (length xs)) (has_header_if xs s h)
    (le-leb (packet_end xs s) (length xs) k)

pub is_whole_no_header : (xs : List ℕ) (s : ℕ) → length xs < s + 6 → is_whole xs s ≡ false
unfolding is_whole
is_whole_no_header xs s h = and_left (has_header xs s) (leb (packet_end xs s) (length xs)) (has_header_not xs s h)

pub is_whole_too_long : (xs : List ℕ) (s : ℕ) → length xs < packet_end xs s → is_whole xs s ≡ false
unfolding is_whole
is_whole_too_long xs s h =
    and_right (has_header xs s) (leb (packet_end xs s) (length xs)) (lt-leb (packet_end xs s) (length xs) h)

-- a packet that isn't whole, with its header there, goes past the end
pub is_whole_false : (xs : List ℕ) (s : ℕ) → is_whole xs s ≡ false → s + 6 ≤ length xs → length xs < packet_end xs s
unfolding is_whole
is_whole_false xs s e h =
    let header = has_header_if xs s h in
    leb-false (packet_end xs s) (length xs) (rw header at e)

pub is_whole-append : (xs ys : List ℕ) (s : ℕ) → is_whole xs s ≡ true → is_whole (xs ++ ys) s ≡ true
is_whole-append xs ys s e =
    let both = is_whole_true xs s e in
    let same = packet_end-append xs ys s both.0 in
    is_whole_if (xs ++ ys) s (omega (arith, length-append xs ys, both.0))
    (omega (arith, length-append xs ys, both.1, same))

pub leb_shift : (n a b : ℕ) → leb (n + a) (n + b) ≡ leb a b
leb_shift n a b =
    ⊎_elim (λ h. lt-leb (n + a) (n + b) (omega arith) ∙ sym (lt-leb a b h))
    (λ h. le-leb (n + a) (n + b) (omega arith) ∙ sym (le-leb a b h)) (cases_lt b a)

-- what lies after other bytes is whole where it is whole alone
pub is_whole-behind : (xs ys : List ℕ) (n s : ℕ) → length xs ≡ n → is_whole (xs ++ ys) (n + s) ≡ is_whole ys s
unfolding is_whole has_header
is_whole-behind xs ys n s e =
    let long : length (xs ++ ys) ≡ n + length ys = length-append xs ys ∙ ap (λ k. k + length ys) e in
    let header : leb (n + s + 6) (length (xs ++ ys)) ≡ leb (s + 6) (length ys) =
    ap₂ leb (omega arith) long ∙ leb_shift n (s + 6) (length ys) in
    let end : leb (packet_end (xs ++ ys) (n + s)) (length (xs ++ ys)) ≡ leb (packet_end ys s) (length ys) =
    ap₂ leb (packet_end-behind xs ys n s e) long ∙ leb_shift n (packet_end ys s) (length ys) in
    ap₂ (λ a b. a && b) header end

pub has_header-behind : (xs ys : List ℕ) (n s : ℕ) → length xs ≡ n → has_header (xs ++ ys) (n + s) ≡ has_header ys s
unfolding has_header
has_header-behind xs ys n s e =
    let long : length (xs ++ ys) ≡ n + length ys = length-append xs ys ∙ ap (λ k. k + length ys) e in
    ap₂ leb (omega arith) long ∙ leb_shift n (s + 6) (length ys)

-- ---- the packet there

pub packet_at-append : (channel : ℕ) (xs ys : List ℕ) (s : ℕ) → is_whole xs s ≡ true →
    packet_at channel (xs ++ ys) s ≡ packet_at channel xs s
unfolding packet_at
packet_at-append channel xs ys s e =
    let both = is_whole_true xs s e in
    let same = packet_end-append xs ys s both.0 in
    let inside : s ≤ length xs = omega (arith, both.0) in
    let fits : packet_end xs s - s ≤ length (drop s xs) = omega (arith, both.1, length-drop s xs) in
    let bytes : take (packet_end (xs ++ ys) s - s) (drop s (xs ++ ys)) ≡ take (packet_end xs s - s) (drop s xs) =
    rw (same, drop-append-le s xs ys inside) (take-append-le (packet_end xs s - s) (drop s xs) ys fits) in
    ap (λ b. record { vc = channel; bytes = b }) bytes

pub packet_at-behind : (channel : ℕ) (xs ys : List ℕ) (n s : ℕ) → length xs ≡ n →
    packet_at channel (xs ++ ys) (n + s) ≡ packet_at channel ys s
unfolding packet_at
packet_at-behind channel xs ys n s e =
    let long : packet_end (xs ++ ys) (n + s) - (n + s) ≡ packet_end ys s - s =
    omega (arith, packet_end-behind xs ys n s e) in
    let bytes : drop (n + s) (xs ++ ys) ≡ drop s ys =
    sym (drop-drop s n (xs ++ ys)) ∙ ap (λ zs. drop s zs) (drop_at xs ys n e) in
    ap (λ b. record { vc = channel; bytes = b }) (ap₂ (λ k zs. take k zs) long bytes)

pub packet_at-drop : (channel : ℕ) (xs : List ℕ) (s : ℕ) → packet_at channel xs s ≡ packet_at channel (drop s xs) 0
unfolding packet_at
packet_at-drop channel xs s =
    let long : packet_end xs s - s ≡ packet_end (drop s xs) 0 - 0 = omega (arith, packet_end-drop xs s) in
    ap (λ k. record { vc = channel; bytes = take k (drop s xs) }) long

-- ---- the starts from one place on

pub starts_from_past : (xs : List ℕ) (edge steps s : ℕ) → edge ≤ s → starts_from xs edge steps s ≡ []
unfolding starts_from
starts_from_past xs edge zero s h = refl
starts_from_past xs edge (suc steps) s h = rw (le-ltb s edge h) refl

-- after the edge more bytes start nothing
pub starts_from-append : (xs ys : List ℕ) (edge steps s : ℕ) → edge ≤ length xs →
    starts_from (xs ++ ys) edge steps s ≡ starts_from xs edge steps s
unfolding starts_from
starts_from-append xs ys edge zero s h = refl
starts_from-append xs ys edge (suc steps) s h =
    let rest : cond (has_header (xs ++ ys) s) (starts_from (xs ++ ys) edge steps (packet_end (xs ++ ys) s)) [] ≡
    cond (has_header xs s) (starts_from xs edge steps (packet_end xs s)) [] =
    ⊎_elim (λ long.
    let off = has_header_not xs s long in
    let far : edge ≤ packet_end (xs ++ ys) s = omega (arith, packet_end_is (xs ++ ys) s) in
    rw (off, starts_from_past (xs ++ ys) edge steps (packet_end (xs ++ ys) s) far)
    (cond_same (has_header (xs ++ ys) s)))
    (λ short.
    let on = has_header_if xs s short in
    let on_more : has_header (xs ++ ys) s ≡ true = has_header_if (xs ++ ys) s (omega (arith, length-append xs ys)) in
    rw (on, on_more, packet_end-append xs ys s short) (starts_from-append xs ys edge steps (packet_end xs s) h))
    (cases_lt (length xs) (s + 6)) in
    ap (λ r. cond (ltb s edge) (s ∷ r) []) rest

-- nor do other bytes in front change the starts
pub starts_from-behind : (xs ys : List ℕ) (n edge steps s : ℕ) → length xs ≡ n →
    starts_from (xs ++ ys) (n + edge) steps (n + s) ≡ map (λ k. n + k) (starts_from ys edge steps s)
unfolding starts_from
starts_from-behind xs ys n edge zero s e = refl
starts_from-behind xs ys n edge (suc steps) s e =
    let test : ltb (n + s) (n + edge) ≡ ltb s edge =
    ap (λ k. leb k (n + edge)) (omega arith) ∙ leb_shift n (suc s) edge in
    let rest : cond (has_header (xs ++ ys) (n + s)) (starts_from (xs ++ ys) (n + edge) steps
    (packet_end (xs ++ ys) (n + s))) [] ≡ map (λ k. n + k)
    (cond (has_header ys s) (starts_from ys edge steps (packet_end ys s)) []) =
    rw (
      has_header-behind xs ys n s e,
      packet_end-behind xs ys n s e,
      starts_from-behind xs ys n edge steps (packet_end ys s) e,
    )
    (map_cond (has_header ys s) (starts_from ys edge steps (packet_end ys s)) n) in
    rw (test, rest) (map_cond (ltb s edge) (s ∷ cond (has_header ys s)
    (starts_from ys edge steps (packet_end ys s)) []) n)

pub starts_from_within : (xs : List ℕ) (low edge steps s : ℕ) → low ≤ s →
    Each (λ k. (low ≤ k) × (k < edge)) (starts_from xs edge steps s)
unfolding starts_from
starts_from_within xs low edge zero s h = tt
starts_from_within xs low edge (suc steps) s h =
    let P : List ℕ → Type 0 = λ ks. Each (λ k. (low ≤ k) × (k < edge)) ks in
    let next : P (starts_from xs edge steps (packet_end xs s)) =
    starts_from_within xs low edge steps (packet_end xs s) (omega (arith, packet_end_is xs s)) in
    let rest : P (cond (has_header xs s) (starts_from xs edge steps (packet_end xs s)) []) =
    cond_both (has_header xs s) _ _ P (λ _. next) (λ _. tt) in
    cond_both (ltb s edge) _ _ P (λ e. ((h, ltb-true s edge e), rest)) (λ _. tt)

-- any number of steps is enough that brings the start to the edge
pub starts_from_steps : (xs : List ℕ) (edge steps more s : ℕ) → edge ≤ steps + s → edge ≤ more + s →
    starts_from xs edge steps s ≡ starts_from xs edge more s
unfolding starts_from
starts_from_steps xs edge zero more s h k = sym (starts_from_past xs edge more s (omega arith))
starts_from_steps xs edge (suc steps) zero s h k = starts_from_past xs edge (suc steps) s (omega arith)
starts_from_steps xs edge (suc steps) (suc more) s h k =
    let far = packet_end_is xs s in
    rw (starts_from_steps xs edge steps more (packet_end xs s) (omega (arith, far)) (omega (arith, far))) refl

-- ---- no start is left out: the end of a packet before the edge is a start too

contains_later : (x y : ℕ) (xs : List ℕ) → Contains xs x → Contains (y ∷ xs) x
contains_later x y xs h = (suc h.0, omega (arith, h.1), h.2)

contains_rest : (x y : ℕ) (xs : List ℕ) → Contains (y ∷ xs) x → (y ≡ x) ⊎ Contains xs x
contains_rest x y xs (zero, h, e) = inl e
contains_rest x y xs (suc k, h, e) = inr (k, omega (arith, h), e)

contains_none : (x : ℕ) → Contains [] x → ⊥
contains_none x (k, h, e) = omega (arith, h)

starts_from_next : (xs : List ℕ) (edge steps s : ℕ) → s < edge → s + 6 ≤ length xs →
    starts_from xs edge (suc steps) s ≡ s ∷ starts_from xs edge steps (packet_end xs s)
unfolding starts_from
starts_from_next xs edge steps s h k = rw (lt-ltb s edge h, has_header_if xs s k) refl

starts_from_last : (xs : List ℕ) (edge steps s : ℕ) → s < edge → length xs < s + 6 →
    starts_from xs edge (suc steps) s ≡ s ∷ []
unfolding starts_from
starts_from_last xs edge steps s h k = rw (lt-ltb s edge h, has_header_not xs s k) refl

first_start : (xs : List ℕ) (edge steps s : ℕ) → s < edge → Contains (starts_from xs edge (suc steps) s) s
unfolding starts_from
first_start xs edge steps s h = rw (lt-ltb s edge h) (0, omega arith, refl)

pub starts_from-closed : (xs : List ℕ) (edge steps s start : ℕ) → edge ≤ steps + s →
    Contains (starts_from xs edge steps s) start →
    start + 6 ≤ length xs → packet_end xs start < edge → Contains (starts_from xs edge steps s) (packet_end xs start)
starts_from-closed xs edge zero s start enough is_start header before =
    absurd (contains_none start (subst (λ ks. Contains ks start) (starts_from_past xs edge 0 s (omega arith)) is_start))
starts_from-closed xs edge (suc steps) s start enough is_start header before =
    let goal = λ (ks : List ℕ). Contains ks (packet_end xs start) in
    let far = packet_end_is xs s in
    ⊎_elim
    (λ inside. ⊎_elim
    (λ short.
    let only : (s ≡ start) ⊎ Contains [] start =
    contains_rest start s [] (subst (λ ks. Contains ks start)
    (starts_from_last xs edge steps s inside short) is_start) in
    ⊎_elim (λ same. absurd (omega (arith, header))) (λ none. absurd (contains_none start none)) only)
    (λ there.
    let rest = starts_from xs edge steps (packet_end xs s) in
    let next = starts_from_next xs edge steps s inside there in
    let which : (s ≡ start) ⊎ Contains rest start =
    contains_rest start s rest (subst (λ ks. Contains ks start) next is_start) in
    let in_rest : goal rest =
    ⊎_elim (λ same.
    let end : packet_end xs s ≡ packet_end xs start = ap (packet_end xs) same in
    let one : suc (steps - 1) ≡ steps = omega (arith, before) in
    subst (λ n. goal (starts_from xs edge n (packet_end xs s))) one
    (subst (λ e. Contains (starts_from xs edge (suc (steps - 1)) (packet_end xs s)) e) end
    (first_start xs edge (steps - 1) (packet_end xs s) (omega (arith, before)))))
    (λ later. starts_from-closed xs edge steps (packet_end xs s) start (omega arith) later header before) which in
    subst goal (sym next) (contains_later (packet_end xs start) s rest in_rest))
    (cases_lt (length xs) (s + 6)))
    (λ past. absurd (contains_none start (subst (λ ks. Contains ks start)
    (starts_from_past xs edge (suc steps) s past) is_start)))
    (cases_lt s edge)

pub starts_in_zone-closed : (run : Run) (zone start : ℕ) → Contains (starts_in_zone run zone) start →
    start + 6 ≤ length (zones_of run) →
    packet_end (zones_of run) start < ZONE_BYTES * zone + ZONE_BYTES →
    Contains (starts_in_zone run zone) (packet_end (zones_of run) start)
unfolding starts_in_zone
starts_in_zone-closed run zone start is_start header before =
    let all = zones_of run in
    let first = ZONE_BYTES * zone + pointer_of run zone in
    let from = starts_from all (ZONE_BYTES * zone + ZONE_BYTES) ZONE_BYTES first in
    let Closed : Bool → Type 0 =
    λ b. Contains (cond b from []) start → Contains (cond b from []) (packet_end all start) in
    let cases : (b : Bool) → Closed b =
    λ b. elim b as Closed [
      | true ↦ λ h. starts_from-closed all (ZONE_BYTES * zone + ZONE_BYTES) ZONE_BYTES first start
          (omega arith) h header before
      | false ↦ λ h. absurd (contains_none start h)
    ] in
    cases (ltb (pointer_of run zone) ZONE_BYTES) is_start
