use Rattle.std.proofs.Common.{rules, ◌≡◌, ℕ, ◌+◌, ◌<◌, ◌≤◌, Bool, ℤ, pos, List, [], ◌∷◌, ◌++◌, length, get_or, subst}
use Rattle.std.proofs.Common.{arith, inl, inr, ◌-◌}
use Rattle.std.proofs.lemmas.Bool.{cases_lt}
use Rattle.std.proofs.lemmas.Int.{to_z-of_z}
use mir.Syntax.{w8}
use mir.Val.{SFits}
use Rattle.lr_conv.specs.declared.marker.TheConstants.{MARKER_SYMBOLS, TAIL_SYMBOLS}
use Rattle.lr_lock.specs.Frames.{HasFewer}
use Rattle.lr_lock.specs.Hits.{agreeing}
use Rattle.lr_lock.specs.Planes.{ShowsSymbols}
use Rattle.lr_lock.specs.declared.sizes.TheConstants.{TAIL_START}
use Rattle.lr_lock.specs.Thresholds.{acquiring_hits}
use Rattle.lr_lock.proofs.Sliding.{behind, first_is, hits_behind, last_is, rest, rest_size}
use Rattle.lr_lock.proofs.search.first_hit.Goals as goal

pub returns-in-Some-clause-locked : goal.returns-in-Some-clause-locked
returns-in-Some-clause-locked c =
    let here = behind c.args.symbols.now c.loop-place.place in
    omega (
      arith,
      c.in-Some.ensures c.args.tail.now here c.masks_of-masks.ensures c.loop-place.invariant.shows,
      hits_behind c.args.tail.now c.args.symbols.now c.loop-place.place c.in-Some.positive c.told-tail,
    )

fewer_here : (tail : List Bool) (symbols : List ℤ) (place : ℕ) → length tail ≡ TAIL_SYMBOLS →
    ((positive : Bool) → agreeing positive tail (behind symbols place) < acquiring_hits)
    → HasFewer tail symbols place acquiring_hits
fewer_here tail symbols place size few positive =
    omega (arith, few positive, hits_behind tail symbols place positive size)

-- no place up to here has enough
passed_more : (tail : List Bool) (symbols : List ℤ) (start place : ℕ) →
    ((p : ℕ) → start ≤ p → p < place → HasFewer tail symbols p acquiring_hits)
    → HasFewer tail symbols place acquiring_hits →
    (p : ℕ) →
    start ≤ p → p < place + 1 → HasFewer tail symbols p acquiring_hits
passed_more tail symbols start place passed here p a b =
    elim (cases_lt p place) as (λ _. HasFewer tail symbols p acquiring_hits) [
      | inl less ↦ passed p a less
      | inr more ↦ (let same : place ≡ p =
          omega arith in subst (λ (q : ℕ). HasFewer tail symbols q acquiring_hits) same here)
    ]

pub loop-place-preserved : goal.loop-place-preserved
loop-place-preserved c =
    let tail = c.args.tail.now in
    let symbols = c.args.symbols.now in
    let place = c.loop-place.place in
    let room : place + MARKER_SYMBOLS < length symbols = omega arith in
    let next = get_or symbols (place + MARKER_SYMBOLS) (pos 0) in
    let fits : SFits w8 next = search rules in
    let few =
    fewer_here tail symbols place c.told-tail (c.in_default.ensures tail
    (behind symbols place) c.masks_of-masks.ensures c.loop-place.invariant.shows) in
    let moves : (first : ℤ) (others : List ℤ) → length others ≡ (TAIL_SYMBOLS - 1) →
    ShowsSymbols c.loop-place.planes (first ∷ others) →
    ShowsSymbols c.next_planes-planes.result (others ++ next ∷ []) = simp to_z-of_z at c.next_planes-planes.ensures in
    let apart =
    subst (λ (s : List ℤ). ShowsSymbols c.loop-place.planes s)
    (first_is symbols place room) c.loop-place.invariant.shows in
    record {
      from = omega (arith, c.loop-place.invariant.from);
      within = omega arith;
      whole = λ p a b. omega arith;
      passed = passed_more tail symbols c.args.start place c.loop-place.invariant.passed few;
      shows = subst (λ (s : List ℤ). ShowsSymbols c.next_planes-planes.result s) (last_is symbols place room)
          (moves (get_or symbols (place + TAIL_START) (pos 0)) (rest symbols place room)
          (rest_size symbols place room) apart);
    }
