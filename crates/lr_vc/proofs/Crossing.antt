-- A start of a run with one frame more: whether its packet is open, and whether it ends in the new frame.
use Rattle.std.proofs.Common.{◌≡◌, ℕ, ◌+◌, ◌-◌, ◌*◌, ◌/◌, ◌<◌, ◌≤◌, Bool, true, false, cond, not, ◌&&◌, [], ◌∷◌, ◌++◌}
use Rattle.std.proofs.Common.{length, drop, refl, sym, ap, ap₂, ◌∙◌, subst, ⊎_elim, arith, length-append, length-drop}
use Rattle.std.proofs.Common.{ltb, leb, eqb, lt-ltb, le-ltb, le-leb, eq-eqb, ne_eqb}
use Rattle.std.proofs.Math.Bool.{and-true}
use Rattle.std.proofs.lemmas.List.{drop-append-le}
use Rattle.std.proofs.lemmas.List.Folds.{list_all-append}
use Rattle.std.proofs.lemmas.Bool.{and_parts, and_left, and_right, lt-leb, cases_lt, cases_eq, cases_Bool}
use Rattle.std.specs.List.{AllByRecursion as Each, list_all, range_with_len}
use Rattle.lr_bits.specs.declared.sizes.TheConstants.{NO_PACKET_START, ZONE_BYTES}
use Rattle.lr_vc.specs.Frame.{Fields}
use Rattle.lr_vc.specs.Runs.{Run}
use Rattle.lr_vc.specs.Packets.{zones_of, pointer_of, place_of, packet_end, is_whole, zones_after, agrees, is_delivered}
use Rattle.lr_vc.specs.Packets.{ends_in}
use Rattle.lr_vc.specs.Standing.{is_open_packet}
use Rattle.lr_vc.specs.Steps.{ends_with, goes_on_after}
use Rattle.lr_vc.proofs.Grown.{AreZones, zones_of-more, length-zones_of, length-more, pointer_of-more, pointer_of-last}
use Rattle.lr_vc.proofs.Grown.{place_of-more, place_of-last, zones_after-more}
use Rattle.lr_vc.proofs.Lists.{Each_weaker, Each-range, list_all_same}
use Rattle.lr_vc.proofs.Starts.{packet_end_is, packet_end-append, packet_end-behind, packet_end-drop, is_whole_true}
use Rattle.lr_vc.proofs.Starts.{is_whole_if, is_whole_false, is_whole_too_long, is_whole-append, is_whole-behind}

-- the zones after a start lie after its zone, in the run
pub zones_after_within : (run : Run) (s : ℕ) → Each (λ u. u < length run) (zones_after run s)
unfolding zones_after
zones_after_within run s =
    Each-range (λ u. u < length run) (s / ZONE_BYTES + 1) (length run - (s / ZONE_BYTES + 1))
    (λ k low high. omega arith)

-- no packet starts in a later zone
pub late : Run → ℕ → Bool
late run s = list_all (λ u. eqb (pointer_of run u) NO_PACKET_START) (zones_after run s)

pub is_open_is : (run : Run) (s : ℕ) → is_open_packet run s ≡ (not (is_whole (zones_of run) s) && late run s)
unfolding is_open_packet late
is_open_is run s = refl

swap_tests : (w l q : Bool) → (w && (l && (q && true))) ≡ (l && (w && q))
swap_tests true true true = refl
swap_tests true true false = refl
swap_tests true false q = refl
swap_tests false true q = refl
swap_tests false false q = refl

eqb_same : (a b c d : ℕ) → (a ≡ b → c ≡ d) → (c ≡ d → a ≡ b) → eqb a b ≡ eqb c d
eqb_same a b c d h k =
    ⊎_elim (λ e. eq-eqb a b e ∙ sym (eq-eqb c d (h e))) (λ ne. ne_eqb a b ne ∙ sym (ne_eqb c d (λ e. ne (k e))))
    (cases_eq a b)

module _ (run : Run) (f : ℕ × Fields) (zones : AreZones run) (long : length f.1.zone ≡ ZONE_BYTES) where
  zones_long : length (zones_of run) ≡ ZONE_BYTES * length run
  zones_long = length-zones_of run zones

  grown_long : length (zones_of run ++ f.1.zone) ≡ ZONE_BYTES * length run + ZONE_BYTES
  grown_long = omega (arith, length-append (zones_of run) f.1.zone, zones_long, long)

  rest_long : (s : ℕ) → s < ZONE_BYTES * length run → s + length (drop s (zones_of run)) ≡ ZONE_BYTES * length run
  rest_long s h = omega (arith, length-drop s (zones_of run), zones_long)

  rest_grown : (s : ℕ) → s < ZONE_BYTES * length run →
      drop s (zones_of run ++ f.1.zone) ≡ drop s (zones_of run) ++ f.1.zone
  rest_grown s h =
      let inside : s ≤ length (zones_of run) = omega (arith, zones_long) in
      drop-append-le s (zones_of run) f.1.zone inside

  end_there : (s : ℕ) → s < ZONE_BYTES * length run →
      packet_end (zones_of run ++ f.1.zone) s ≡ s + packet_end (drop s (zones_of run) ++ f.1.zone) 0
  end_there s h = packet_end-drop (zones_of run ++ f.1.zone) s ∙ ap (λ zs. s + packet_end zs 0) (rest_grown s h)

  -- what isn't whole yet ends after the zones that were there
  end_beyond : (s : ℕ) → s < ZONE_BYTES * length run → is_whole (zones_of run) s ≡ false →
      ZONE_BYTES * length run < packet_end (zones_of run ++ f.1.zone) s
  end_beyond s h e =
      ⊎_elim (λ short. omega (arith, packet_end_is (zones_of run ++ f.1.zone) s, zones_long))
      (λ there. omega (
        arith,
        is_whole_false (zones_of run) s e there,
        packet_end-append (zones_of run) f.1.zone s there,
        zones_long,
      ))
      (cases_lt (length (zones_of run)) (s + 6))

  -- the later zones and the new one
  late-more : (s : ℕ) → s < ZONE_BYTES * length run →
      late (run ++ f ∷ []) s ≡ (late run s && (eqb f.1.pointer NO_PACKET_START && true))
  unfolding late
  late-more s h =
      let test = λ (r : Run) (u : ℕ). eqb (pointer_of r u) NO_PACKET_START in
      let grown = run ++ f ∷ [] in
      let old : list_all (test grown) (zones_after run s) ≡ list_all (test run) (zones_after run s) =
      list_all_same (test grown) (test run) (zones_after run s)
      (Each_weaker (λ u. u < length run) (λ u. test grown u ≡ test run u)
      (λ u k. ap (λ p. eqb p NO_PACKET_START) (pointer_of-more run f u k)) (zones_after run s)
      (zones_after_within run s)) in
      ap (λ us. list_all (test grown) us) (zones_after-more run f s h)
      ∙ list_all-append (test grown) (zones_after run s) (length run ∷ [])
      ∙ ap₂ (λ a b. a && (b && true)) old (ap (λ p. eqb p NO_PACKET_START) (pointer_of-last run f))

  unfinished_test : (s : ℕ) → s < ZONE_BYTES * length run →
      not (is_whole (zones_of run ++ f.1.zone) s) ≡ ltb (length (drop s (zones_of run)) + ZONE_BYTES)
      (packet_end (drop s (zones_of run) ++ f.1.zone) 0)
  unfinished_test s h =
      let rest = rest_long s h in
      let there = end_there s h in
      let zz = zones_of run ++ f.1.zone in
      let b = drop s (zones_of run) in
      ⊎_elim (λ beyond.
      ap not (is_whole_too_long zz s (omega (arith, grown_long)))
      ∙ sym (lt-ltb (length b + ZONE_BYTES) (packet_end (b ++ f.1.zone) 0) beyond))
      (λ inside.
      ap not (is_whole_if zz s (omega (arith, grown_long)) (omega (arith, grown_long)))
      ∙ sym (le-ltb (length b + ZONE_BYTES) (packet_end (b ++ f.1.zone) 0) inside))
      (cases_lt (length b + ZONE_BYTES) (packet_end (b ++ f.1.zone) 0))

  -- (A) an open packet of the longer run was open, and goes on
  pub is_open_packet-more : (s : ℕ) → s < ZONE_BYTES * length run →
      is_open_packet (run ++ f ∷ []) s ≡ (is_open_packet run s && goes_on_after (drop s (zones_of run))
      f.1.zone f.1.pointer)
  unfolding goes_on_after
  is_open_packet-more s h =
      let Z = zones_of run in
      let b = drop s Z in
      let more = ltb (length b + ZONE_BYTES) (packet_end (b ++ f.1.zone) 0) in
      let q = eqb f.1.pointer NO_PACKET_START in
      let left : is_open_packet (run ++ f ∷ []) s ≡ (not (is_whole (Z ++ f.1.zone) s) && (late run s && (q && true))) =
      is_open_is (run ++ f ∷ []) s ∙ ap₂ (λ zs l. not (is_whole zs s) && l) (zones_of-more run f) (late-more s h) in
      let right : is_open_packet run s ≡ (not (is_whole Z s) && late run s) = is_open_is run s in
      ⊎_elim (λ whole.
      let whole_more = is_whole-append Z f.1.zone s whole in
      left ∙ ap (λ w. not w && (late run s && (q && true))) whole_more
      ∙ sym (ap (λ o. o && (more && q)) (right ∙ ap (λ w. not w && late run s) whole)))
      (λ part.
      left ∙ ap (λ w. w && (late run s && (q && true))) (unfinished_test s h) ∙ swap_tests more (late run s) q
      ∙ sym (ap (λ o. o && (more && q)) (right ∙ ap (λ w. not w && late run s) part)))
      (cases_Bool (is_whole Z s))

  -- the pointers of the zones that were there, and of the new one, against a packet that ends after the former
  agrees_old : (s : ℕ) → s < ZONE_BYTES * length run → is_whole (zones_of run) s ≡ false →
      list_all (agrees (run ++ f ∷ []) (packet_end (zones_of run ++ f.1.zone) s)) (zones_after run s) ≡ late run s
  unfolding agrees late
  agrees_old s h part =
      let grown = run ++ f ∷ [] in
      let e = packet_end (zones_of run ++ f.1.zone) s in
      let beyond = end_beyond s h part in
      let here : (u : ℕ) → u < length run → agrees grown e u ≡ eqb (pointer_of run u) NO_PACKET_START =
      λ u k.
      let covered : leb (ZONE_BYTES * u + ZONE_BYTES) e ≡ true = le-leb (ZONE_BYTES * u + ZONE_BYTES) e (omega arith) in
      rw (covered, pointer_of-more run f u k) refl in
      list_all_same (agrees grown e) (λ u. eqb (pointer_of run u) NO_PACKET_START) (zones_after run s)
      (Each_weaker (λ u. u < length run) (λ u. agrees grown e u ≡ eqb (pointer_of run u) NO_PACKET_START) here
      (zones_after run s)
      (zones_after_within run s))

  ends_test : (s : ℕ) → s < ZONE_BYTES * length run → is_whole (zones_of run) s ≡ false →
      (is_whole (zones_of run ++ f.1.zone) s && agrees (run ++ f ∷ []) (packet_end (zones_of run ++ f.1.zone) s)
      (length run))
      ≡ ends_with (drop s (zones_of run)) f.1.zone f.1.pointer
  unfolding agrees ends_with
  ends_test s h part =
      let zz = zones_of run ++ f.1.zone in
      let b = drop s (zones_of run) in
      let e = packet_end zz s in
      let r = packet_end (b ++ f.1.zone) 0 in
      let p = f.1.pointer in
      let n = ZONE_BYTES * length run in
      let beyond : n < e = end_beyond s h part in
      let there : e ≡ s + r = end_there s h in
      let rest : s + length b ≡ n = rest_long s h in
      let all : length zz ≡ n + ZONE_BYTES = grown_long in
      let last : pointer_of (run ++ f ∷ []) (length run) ≡ p = pointer_of-last run f in
      let W = is_whole zz s in
      let Left : ℕ → Type 0 =
      λ x. (W && cond (leb (n + ZONE_BYTES) e) (eqb x NO_PACKET_START) (cond (ltb n e) (eqb x (e - n)) true)) ≡
      cond (eqb r (length b + ZONE_BYTES)) (eqb p NO_PACKET_START) (ltb p ZONE_BYTES && eqb r (length b + p)) in
      let same_case : r ≡ length b + ZONE_BYTES → Left p =
      λ same.
      let whole : W ≡ true = is_whole_if zz s (omega arith) (omega arith) in
      rw (whole, le-leb (n + ZONE_BYTES) e (omega arith), eq-eqb r (length b + ZONE_BYTES) same) refl in
      let less_case : r < length b + ZONE_BYTES → Left p =
      λ less.
      let whole : W ≡ true = is_whole_if zz s (omega arith) (omega arith) in
      let ne : r ≡ length b + ZONE_BYTES → ⊥ = λ k. omega arith in
      rw (whole, lt-leb (n + ZONE_BYTES) e (omega arith), lt-ltb n e beyond, ne_eqb r (length b + ZONE_BYTES) ne)
      (⊎_elim (λ small. rw (lt-ltb p ZONE_BYTES small) (eqb_same p (e - n) r (length b + p) (λ k. omega arith)
      (λ k. omega arith)))
      (λ large. rw (le-ltb p ZONE_BYTES large) (ne_eqb p (e - n) (λ k. omega arith))) (cases_lt p ZONE_BYTES)) in
      let more_case : length b + ZONE_BYTES < r → Left p =
      λ more.
      let whole : W ≡ false = is_whole_too_long zz s (omega arith) in
      let ne : r ≡ length b + ZONE_BYTES → ⊥ = λ k. omega arith in
      rw (whole, ne_eqb r (length b + ZONE_BYTES) ne)
      (⊎_elim (λ small. rw (lt-ltb p ZONE_BYTES small) (sym (ne_eqb r (length b + p) (λ k. omega arith))))
      (λ large. rw (le-ltb p ZONE_BYTES large) refl) (cases_lt p ZONE_BYTES)) in
      let goal : Left p =
      ⊎_elim less_case (λ at_least. ⊎_elim more_case (λ at_most. same_case (omega arith))
      (cases_lt (length b + ZONE_BYTES) r))
      (cases_lt r (length b + ZONE_BYTES)) in
      subst Left (sym last) goal

  -- (B) a packet that wasn't all there is delivered where it was open, and ends with the new zone
  is_delivered_new : (s : ℕ) → s < ZONE_BYTES * length run → is_whole (zones_of run) s ≡ false →
      is_delivered (run ++ f ∷ []) s ≡ (is_open_packet run s && ends_with (drop s (zones_of run)) f.1.zone f.1.pointer)
  unfolding is_delivered
  is_delivered_new s h part =
      let grown = run ++ f ∷ [] in
      let zz = zones_of run ++ f.1.zone in
      let e = packet_end zz s in
      let lists : list_all (agrees grown e) (zones_after grown s) ≡
      (late run s && (agrees grown e (length run) && true)) =
      ap (λ us. list_all (agrees grown e) us) (zones_after-more run f s h)
      ∙ list_all-append (agrees grown e) (zones_after run s) (length run ∷ [])
      ∙ ap (λ l. l && (agrees grown e (length run) && true)) (agrees_old s h part) in
      let open_here : is_open_packet run s ≡ late run s = is_open_is run s ∙ ap (λ w. not w && late run s) part in
      ap (λ zs. is_whole zs s && list_all (agrees grown (packet_end zs s)) (zones_after grown s)) (zones_of-more run f)
      ∙ ap (λ l. is_whole zz s && l) lists
      ∙ swap_tests (is_whole zz s) (late run s) (agrees grown e (length run))
      ∙ ap₂ (λ o d. o && d) (sym open_here) (ends_test s h part)

  -- (D) one that was all there is delivered as before
  is_delivered_old : (s : ℕ) → s < ZONE_BYTES * length run → is_whole (zones_of run) s ≡ true →
      is_delivered (run ++ f ∷ []) s ≡ is_delivered run s
  unfolding is_delivered agrees
  is_delivered_old s h whole =
      let grown = run ++ f ∷ [] in
      let Z = zones_of run in
      let zz = Z ++ f.1.zone in
      let both = is_whole_true Z s whole in
      let end : packet_end zz s ≡ packet_end Z s = packet_end-append Z f.1.zone s both.0 in
      let e = packet_end Z s in
      let inside : e ≤ ZONE_BYTES * length run = omega (arith, zones_long, both.1) in
      let old : (u : ℕ) → u < length run → agrees grown e u ≡ agrees run e u =
      λ u k. ap (λ p. cond (leb (ZONE_BYTES * u + ZONE_BYTES) e) (eqb p NO_PACKET_START)
      (cond (ltb (ZONE_BYTES * u) e) (eqb p (e - ZONE_BYTES * u)) true))
      (pointer_of-more run f u k) in
      let new : agrees grown e (length run) ≡ true =
      rw (
        lt-leb (ZONE_BYTES * length run + ZONE_BYTES) e (omega arith),
        le-ltb (ZONE_BYTES * length run) e inside,
      ) refl in
      let lists : list_all (agrees grown e) (zones_after grown s) ≡ list_all (agrees run e) (zones_after run s) =
      ap (λ us. list_all (agrees grown e) us) (zones_after-more run f s h)
      ∙ list_all-append (agrees grown e) (zones_after run s) (length run ∷ [])
      ∙ ap₂ (λ a b. a && (b && true))
      (list_all_same (agrees grown e) (agrees run e) (zones_after run s)
      (Each_weaker (λ u. u < length run) (λ u. agrees grown e u ≡ agrees run e u) old (zones_after run s)
      (zones_after_within run s)))
      new
      ∙ and-true (list_all (agrees run e) (zones_after run s)) in
      ap (λ zs. is_whole zs s && list_all (agrees grown (packet_end zs s)) (zones_after grown s)) (zones_of-more run f)
      ∙ ap₂ (λ w k. w && list_all (agrees grown k) (zones_after grown s))
      (is_whole-append Z f.1.zone s whole ∙ sym whole) end
      ∙ ap (λ l. is_whole Z s && l) lists

  -- (C) the frame in which a packet ends
  pub ends_in_whole : (place s : ℕ) → s < ZONE_BYTES * length run → is_whole (zones_of run) s ≡ true →
      ends_in (run ++ f ∷ []) place s ≡ ends_in run place s
  unfolding ends_in
  ends_in_whole place s h whole =
      let grown = run ++ f ∷ [] in
      let Z = zones_of run in
      let both = is_whole_true Z s whole in
      let end : packet_end (zones_of grown) s ≡ packet_end Z s =
      ap (λ zs. packet_end zs s) (zones_of-more run f) ∙ packet_end-append Z f.1.zone s both.0 in
      let u = (packet_end Z s - 1) / ZONE_BYTES in
      let inside : u < length run = omega (arith, zones_long, both.1, packet_end_is Z s) in
      ap₂ (λ d e. d && eqb (place_of grown ((e - 1) / ZONE_BYTES)) place) (is_delivered_old s h whole) end
      ∙ ap (λ a. is_delivered run s && eqb a place) (place_of-more run f u inside)

  not_delivered : (s : ℕ) → is_whole (zones_of run) s ≡ false → is_delivered run s ≡ false
  unfolding is_delivered
  not_delivered s part = and_left (is_whole (zones_of run) s) _ part

  not_open : (s : ℕ) → is_whole (zones_of run) s ≡ true → is_open_packet run s ≡ false
  not_open s whole = is_open_is run s ∙ ap (λ w. not w && late run s) whole

  -- the zone in which a packet ends that wasn't all there is the new one
  last_place : (s : ℕ) → s < ZONE_BYTES * length run → is_whole (zones_of run) s ≡ false →
      is_delivered (run ++ f ∷ []) s ≡ true →
      place_of (run ++ f ∷ []) ((packet_end (zones_of (run ++ f ∷ [])) s - 1) / ZONE_BYTES) ≡ f.0
  unfolding is_delivered
  last_place s h part d =
      let grown = run ++ f ∷ [] in
      let zz = zones_of run ++ f.1.zone in
      let whole : is_whole (zones_of grown) s ≡ true = (and_parts (is_whole (zones_of grown) s) _ d).0 in
      let there : is_whole zz s ≡ true = subst (λ zs. is_whole zs s ≡ true) (zones_of-more run f) whole in
      let both = is_whole_true zz s there in
      let beyond = end_beyond s h part in
      let zone : (packet_end zz s - 1) / ZONE_BYTES ≡ length run = omega (arith, grown_long, both.1) in
      ap (λ zs. place_of grown ((packet_end zs s - 1) / ZONE_BYTES)) (zones_of-more run f) ∙ ap (place_of grown) zone
      ∙ place_of-last run f

  ends_in_part : (place s : ℕ) → s < ZONE_BYTES * length run → is_whole (zones_of run) s ≡ false →
      ends_in (run ++ f ∷ []) place s ≡ (is_delivered (run ++ f ∷ []) s && eqb f.0 place)
  unfolding ends_in
  ends_in_part place s h part =
      let grown = run ++ f ∷ [] in
      let here = place_of grown ((packet_end (zones_of grown) s - 1) / ZONE_BYTES) in
      ⊎_elim (λ d. ap (λ a. is_delivered grown s && eqb a place) (last_place s h part d))
      (λ d. and_left (is_delivered grown s) (eqb here place) d
      ∙ sym (and_left (is_delivered grown s) (eqb f.0 place) d))
      (cases_Bool (is_delivered grown s))

  -- an earlier frame has the packets that it had
  pub ends_in_earlier : (place s : ℕ) → (f.0 ≡ place → ⊥) → s < ZONE_BYTES * length run →
      ends_in (run ++ f ∷ []) place s ≡ ends_in run place s
  unfolding ends_in
  ends_in_earlier place s ne h =
      let grown = run ++ f ∷ [] in
      ⊎_elim (λ whole. ends_in_whole place s h whole)
      (λ part. ends_in_part place s h part ∙ and_right (is_delivered grown s) (eqb f.0 place) (ne_eqb f.0 place ne)
      ∙ sym (and_left (is_delivered run s) _ (not_delivered s part)))
      (cases_Bool (is_whole (zones_of run) s))

  -- in the new frame those end that were open and end with its zone
  pub ends_in_new : ((u : ℕ) → u < length run → place_of run u ≡ f.0 → ⊥) → (s : ℕ) → s < ZONE_BYTES * length run →
      ends_in (run ++ f ∷ []) f.0 s ≡ (is_open_packet run s && ends_with (drop s (zones_of run)) f.1.zone f.1.pointer)
  unfolding ends_in
  ends_in_new apart s h =
      let grown = run ++ f ∷ [] in
      let Z = zones_of run in
      let E = ends_with (drop s Z) f.1.zone f.1.pointer in
      ⊎_elim (λ whole.
      let both = is_whole_true Z s whole in
      let u = (packet_end Z s - 1) / ZONE_BYTES in
      let inside : u < length run = omega (arith, zones_long, both.1, packet_end_is Z s) in
      ends_in_whole f.0 s h whole ∙ and_right (is_delivered run s) (eqb (place_of run u) f.0)
      (ne_eqb (place_of run u) f.0 (apart u inside))
      ∙ sym (and_left (is_open_packet run s) E (not_open s whole)))
      (λ part. ends_in_part f.0 s h part ∙ ap (λ b. is_delivered grown s && b) (eq-eqb f.0 f.0 refl)
      ∙ and-true (is_delivered grown s) ∙ is_delivered_new s h part)
      (cases_Bool (is_whole Z s))

  -- (E) the starts in the new zone
  zones_after-last : (q : ℕ) → q < ZONE_BYTES → zones_after (run ++ f ∷ []) (ZONE_BYTES * length run + q) ≡ []
  unfolding zones_after
  zones_after-last q h =
      let zone : (ZONE_BYTES * length run + q) / ZONE_BYTES ≡ length run = omega arith in
      let none : length (run ++ f ∷ []) - (length run + 1) ≡ 0 = omega (arith, length-more run f) in
      ap (λ t. range_with_len (t + 1) (length (run ++ f ∷ []) - (t + 1))) zone
      ∙ ap (λ k. range_with_len (length run + 1) k) none

  whole_last : (q : ℕ) → is_whole (zones_of (run ++ f ∷ [])) (ZONE_BYTES * length run + q) ≡ is_whole f.1.zone q
  whole_last q =
      ap (λ zs. is_whole zs (ZONE_BYTES * length run + q)) (zones_of-more run f)
      ∙ is_whole-behind (zones_of run) f.1.zone (ZONE_BYTES * length run) q zones_long

  pub is_open_packet-last : (q : ℕ) → q < ZONE_BYTES → is_open_packet (run ++ f ∷ [])
      (ZONE_BYTES * length run + q) ≡ not
      (is_whole f.1.zone q)
  unfolding late
  is_open_packet-last q h =
      let grown = run ++ f ∷ [] in
      is_open_is grown (ZONE_BYTES * length run + q)
      ∙ ap₂ (λ w us. not w && list_all (λ u. eqb (pointer_of grown u) NO_PACKET_START) us) (whole_last q)
      (zones_after-last q h)
      ∙ and-true (not (is_whole f.1.zone q))

  is_delivered-last : (q : ℕ) → q < ZONE_BYTES → is_delivered (run ++ f ∷ [])
      (ZONE_BYTES * length run + q) ≡ is_whole f.1.zone q
  unfolding is_delivered
  is_delivered-last q h =
      let grown = run ++ f ∷ [] in
      ap₂ (λ w us. w && list_all (agrees grown (packet_end (zones_of grown) (ZONE_BYTES * length run + q))) us)
      (whole_last q)
      (zones_after-last q h)
      ∙ and-true (is_whole f.1.zone q)

  pub ends_in-last : (place q : ℕ) → q < ZONE_BYTES →
      ends_in (run ++ f ∷ []) place (ZONE_BYTES * length run + q) ≡ (is_whole f.1.zone q && eqb f.0 place)
  unfolding ends_in
  ends_in-last place q h =
      let grown = run ++ f ∷ [] in
      let s = ZONE_BYTES * length run + q in
      let end : packet_end (zones_of grown) s ≡ ZONE_BYTES * length run + packet_end f.1.zone q =
      ap (λ zs. packet_end zs s) (zones_of-more run f) ∙ packet_end-behind (zones_of run) f.1.zone
      (ZONE_BYTES * length run) q zones_long in
      let here = place_of grown ((packet_end (zones_of grown) s - 1) / ZONE_BYTES) in
      ap (λ d. d && eqb here place) (is_delivered-last q h)
      ∙ ⊎_elim (λ whole.
      let both = is_whole_true f.1.zone q whole in
      let zone : (packet_end (zones_of grown) s - 1) / ZONE_BYTES ≡ length run =
      omega (arith, end, both.1, long, packet_end_is f.1.zone q) in
      ap (λ a. is_whole f.1.zone q && eqb a place) (ap (place_of grown) zone ∙ place_of-last run f))
      (λ part. and_left (is_whole f.1.zone q) (eqb here place) part
      ∙ sym (and_left (is_whole f.1.zone q) (eqb f.0 place) part))
      (cases_Bool (is_whole f.1.zone q))
