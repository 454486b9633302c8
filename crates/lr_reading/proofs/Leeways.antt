-- Where fewer frames may wait, and where more may.
use Rattle.std.proofs.Common.{◌≡◌, ◌≤◌, ◌+◌, ◌-◌, ◌*◌, ◌==◌, if◌then◌else◌, ℕ, Bool, true, false, List, length, take}
use Rattle.std.proofs.Common.{refl, subst, arith, inl, inr, ⊎_elim, drop}
use Rattle.std.specs.Prelude.{All}
use Rattle.lr_conv.specs.Marker.{tail_of}
use Rattle.lr_forms.specs.declared.forms.Input.{Input}
use Rattle.lr_forms.specs.declared.forms.Input.TheVariants.{Symbols, Units}
use Rattle.lr_forms.specs.declared.forms.UnitForm.{UnitForm}
use Rattle.lr_forms.specs.declared.forms.UnitForm.TheVariants.{Blocks, Frames}
use Rattle.lr_lock.specs.Frames.{place_after_frame}
use Rattle.lr_lock.specs.FramesOf.{frames_of}
use Rattle.lr_lock.specs.Symbols.{symbols_of}
use Rattle.lr_lock.specs.declared.frame.Frame.{Frame}
use Rattle.lr_reading.specs.Inputs.{unit_bytes}
use Rattle.lr_reading.specs.Readers.{HaveCome, Leeway, MayWait, leeway_for, windows_for}
use Rattle.lr_reading.proofs.Fronts.{All-first, take_on}

-- ---- what has come

-- of fewer
fewer_units : (form : UnitForm) (beyond few many total : ℕ) → few ≤ many → many * unit_bytes form + beyond ≤ total
    → few * unit_bytes form + beyond ≤ total
fewer_units Blocks beyond few many total le come = omega (arith, le, come)
fewer_units Frames beyond few many total le come = omega (arith, le, come)

pub come_fewer : (input : Input) (beyond : ℕ) (bytes : List ℕ) (few many : ℕ) → few ≤ many
    → HaveCome input beyond bytes many → HaveCome input beyond bytes few
come_fewer (Symbols decoding) beyond bytes few many le come =
    let frames : List Frame = frames_of (tail_of decoding.line) (symbols_of bytes) in
    let HasCome : Frame → Type 0 = λ (frame : Frame). place_after_frame frame + beyond ≤ length bytes in (
      omega (arith, le, come.0),
      All-first HasCome (take few frames) (take (many - few) (drop few frames))
          (subst (λ (l : List Frame). All HasCome l) (take_on frames few many le) come.1),
    )
come_fewer (Units form) beyond bytes few many le come = fewer_units form beyond few many (length bytes) le come

-- with less after it
pub come_sooner : (input : Input) (less more : ℕ) (bytes : List ℕ) (count : ℕ) → less ≤ more
    → HaveCome input more bytes count → HaveCome input less bytes count
come_sooner (Symbols decoding) less more bytes count le come =
    (come.0, λ k frame within. omega (arith, le, come.1 k frame within))
come_sooner (Units form) less more bytes count le come = omega (arith, le, come)

-- ---- how many may wait

-- what may not wait by the first may not by the second
pub record IsStricter (strict loose : Leeway) : Type 0 where
  pub tail : loose.tail ≡ strict.tail
  pub when_asked : strict.when_asked ≤ loose.when_asked
  pub at_end : strict.at_end ≤ loose.at_end
  pub ahead : strict.ahead ≤ loose.ahead

one_at_least : (alone : Bool) (workers : ℕ) → 1 ≤ workers → 1 ≤ (if alone then 1 else 2 * workers + 2)
one_at_least true workers some = omega arith
one_at_least false workers some = omega (arith, some)

-- with one worker fewer may wait than with several
pub stricter_alone : (input : Input) (workers : ℕ) → 1 ≤ workers
    → IsStricter (leeway_for input 1) (leeway_for input workers)
stricter_alone (Symbols decoding) workers some =
    let least : 1 ≤ windows_for workers = one_at_least (workers == 1) workers some in
    record {
      tail = refl;
      when_asked = omega (arith, least);
      at_end = omega (arith, least);
      ahead = omega (arith, least);
    }
stricter_alone (Units form) workers some =
    record { tail = refl; when_asked = omega arith; at_end = omega arith; ahead = omega arith }

module _ (input : Input) {strict loose : Leeway} (is : IsStricter strict loose) where
  pub at_end_too : (bytes : List ℕ) (count : ℕ) → HaveCome input 0 bytes (count + loose.at_end)
      → HaveCome input 0 bytes (count + strict.at_end)
  at_end_too bytes count come =
      come_fewer input 0 bytes (count + strict.at_end) (count + loose.at_end) (omega (arith, is.at_end)) come

  pub ahead_too : (bytes : List ℕ) (count : ℕ) → HaveCome input loose.ahead bytes count
      → HaveCome input strict.ahead bytes count
  ahead_too bytes count come = come_sooner input strict.ahead loose.ahead bytes count is.ahead come

  pub wait_too : (given : List ℕ) (pieces : List (List ℕ)) (few : ℕ) → MayWait input loose given pieces few
      → MayWait input strict given pieces few
  wait_too given pieces few wait = ⊎_elim
      (λ (many : loose.when_asked ≤ few). inl (omega (arith, many, is.when_asked))) (λ none. inr none) wait

  pub tail_too : (given : List ℕ) (count : ℕ) → HaveCome input loose.tail given count
      → HaveCome input strict.tail given count
  tail_too given count come = subst (λ (k : ℕ). HaveCome input k given count) is.tail come
