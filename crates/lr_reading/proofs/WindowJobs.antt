-- The windows that were given, and those to spare.
use Rattle.std.proofs.Common.{◌≡◌, ◌+◌, ◌<◌, ℕ, zero, suc, List, [], ◌∷◌, ◌++◌, length}
use Rattle.std.proofs.Common.{length-append, map, take, sym, ap, ◌∙◌, subst, arith}
use mathlib.Core.Option.{some, some-ne-none, some-injective}
use lib.ListN.{get_elem?}
use Rattle.std.specs.List.{All}
use Rattle.std.proofs.lemmas.List.{length-map}
use Rattle.std.proofs.lemmas.List.Elements.{All-head, All-tail, All-push}
use Rattle.lr_forms.specs.declared.forms.Decoding.{Decoding}
use Rattle.lr_lock.specs.Windows.{WindowView}
use Rattle.lr_gate.proofs.Seats.{All-last, All-front}
use Rattle.lr_reading.specs.WindowSources.{IsFor, arrival_of_window, AreDecoded, HasWindowJobs}
use Rattle.lr_reading.specs.declared.arrival.Arrival.{Arrival}
use Rattle.lr_reading.specs.declared.intake.Intake.{Intake}

-- what holds of all holds of the one at a place
at_all : {X : Type 0} (P : X → Type 0) (xs : List X) (n : ℕ) (x : X) → All P xs → get_elem? xs n ≡ some x → P x
at_all P [] n x all e = absurd (some-ne-none x (sym e))
at_all P (y ∷ ys) zero x all e = subst P (some-injective y x e) (All-head P y ys all)
at_all P (y ∷ ys) (suc n) x all e = at_all P ys n x (All-tail P y ys all) e

take_more : {X Y : Type 0} (f : X → Y) (xs : List X) (n : ℕ) (x : X) → get_elem? xs n ≡ some x
    → take (suc n) (map f xs) ≡ take n (map f xs) ++ f x ∷ []
take_more f [] n x e = absurd (some-ne-none x (sym e))
take_more {X} {Y} f (y ∷ ys) zero x e = ap (λ (z : X). f z ∷ []) (some-injective y x e)
take_more {X} {Y} f (y ∷ ys) (suc n) x e = ap (λ (l : List Y). f y ∷ l) (take_more f ys n x e)

module _ {decoding : Decoding} {arrivals : List Arrival} {windows : List WindowView} {kept : ℕ} {intake : Intake}
    (jobs : HasWindowJobs decoding arrivals windows kept intake) where
  -- there is an arrival for each window
  pub as_many : length arrivals ≡ length windows
  as_many = ap (λ (l : List Arrival). length l) (sym jobs.jobs) ∙ length-map windows arrival_of_window

  module _ (j : WindowView) (at : get_elem? windows kept ≡ some j) where
    -- the oldest window is decoded so
    pub oldest_decoded : IsFor decoding j
    oldest_decoded = at_all (IsFor decoding) windows kept j jobs.job_lines at

    -- what becomes of it is the next arrival
    pub handed_more : take (kept + 1) arrivals ≡ take kept arrivals ++ arrival_of_window j ∷ []
    handed_more = subst (λ (l : List Arrival). take (kept + 1) l ≡ take kept l ++ arrival_of_window j ∷ [])
        jobs.jobs (ap (λ (k : ℕ). take k (map arrival_of_window windows))
        (let e : kept + 1 ≡ suc kept = omega arith in e)
        ∙ take_more arrival_of_window windows kept j at)

-- ---- the windows to spare

-- one that came back is spare
pub some_spare : (front items : List WindowView) (window : WindowView) → items ≡ front ++ window ∷ []
    → 0 < length items
some_spare front items window is =
    omega (arith, ap (λ (l : List WindowView). length l) is, length-append front (window ∷ []))

module _ {decoding : Decoding} (items front : List WindowView) (window : WindowView)
    (is : items ≡ front ++ window ∷ []) (lines : AreDecoded decoding items) where
  -- those that are left
  pub spare_left : AreDecoded decoding front
  spare_left = All-front (IsFor decoding) front items window is lines

  -- the last one
  pub spare_last : IsFor decoding window
  spare_last = All-last (IsFor decoding) front items window is lines

  -- and one that comes back
  pub spare_again : (items' : List WindowView) (window' : WindowView) → items' ≡ front ++ window' ∷ []
      → window'.line ≡ window.line → window'.passes ≡ window.passes → AreDecoded decoding items'
  spare_again items' window' is' line passes = subst (AreDecoded decoding) (sym is')
      (All-push (IsFor decoding) front window' spare_left
      (line ∙ spare_last.0, passes ∙ spare_last.1))
