use Rattle.std.proofs.Common.{◌≡◌, ◌+◌, ◌≤◌, true, false, Some, List, ℤ, drop, refl, sym, ◌∙◌, ap, subst, arith}
use Rattle.lr_bits.specs.declared.sizes.TheConstants.{FRAME_SYMBOLS}
use Rattle.lr_conv.specs.declared.line.LineCode.{LineCode}
use Rattle.lr_conv.specs.declared.passes.Passes.{Passes}
use Rattle.lr_lock.specs.Standing.{LockState, LockStandsFor}
use Rattle.lr_lock.specs.Steps.{Answers, GivesWindow}
use Rattle.lr_lock.specs.Windows.{WindowView, window_of}
use Rattle.lr_lock.specs.declared.sizes.TheConstants.{WINDOW_END}
use Rattle.lr_lock.proofs.Stepping.{looked, given_window, wanted_more, had_ended, dropped}
use Rattle.lr_lock.proofs.lock.Lock.next_window.Goals as goal
use Rattle.lr_lock.proofs.lock.Lock.next_window.Goals.{then-self, else-self, then-self-2, else-self-2}

pub returns-in-Some-clause-answers : goal.returns-in-Some-clause-answers
returns-in-Some-clause-answers c fed given h =
    let opened = subst (λ (l : LockState). LockStandsFor l fed given) (sym c.self.view_is) h in
    let sees = looked _ _ _ fed given c.if-self.needed c.find_next-found.result opened c.marker_tail-tail.ensures
    (c.kept_symbols.ensures ∙ ap (λ (l : LockState). l.kept) (sym c.self.view_is)) c.find_next-found.ensures.seen in
    let seen = rw c.in-Some.is at sees in
    let big : FRAME_SYMBOLS ≤ c.if-self.needed =
    elim c.if-self.branch [ then-self w ↦ omega (arith, w.needed-is) | else-self w ↦ omega (arith, w.needed-is) ] in
    let sure : c.self.inside.finished ≡ false → c.if-self.needed ≡ WINDOW_END =
    elim c.if-self.branch as (λ _. c.self.inside.finished ≡ false →
    c.if-self.needed ≡ WINDOW_END) [
      | then-self w ↦ (λ (e : c.self.inside.finished ≡ false). cc)
      | else-self w ↦
          (λ (e : c.self.inside.finished ≡ false). w.needed-is)
    ] in
    let left =
    dropped c.self.inside.symbols.items c.self.inside.passed (c.find_next-found.result.passed + FRAME_SYMBOLS)
    (c.self.inside.passed + c.find_next-found.result.passed + FRAME_SYMBOLS) (omega arith) in
    let from = c.kept_symbols-in-Some.ensures
    ∙ dropped c.self.inside.symbols.items c.self.inside.passed c.find_next-found.result.passed
    (c.self.inside.passed + c.find_next-found.result.passed) refl in
    let made_for : Passes → LineCode → List ℤ → WindowView =
    λ (p : Passes) (k : LineCode) (s : List ℤ). record {
      position = c.in-Some.frame.place;
      positive = c.in-Some.frame.positive;
      line = k;
      passes = p;
      symbols = window_of s 0 c.in-Some.frame.positive;
    } in
    let made = made_for c.args.window.now.passes in
    let same_passes : c.args.window.now.passes ≡ c.show.new.self.passes =
    sym (ap (λ (w : WindowView). w.passes) c.show.ensures) in
    let same_line : c.args.window.now.line ≡ c.self.inside.line =
    c.requires ∙ sym (ap (λ (l : LockState). l.line) c.self.view_is) in
    let later : LockState =
    record {
      line = c.self.inside.line;
      place = c.self.inside.place + c.find_next-found.result.passed + FRAME_SYMBOLS;
      kept = drop (c.self.inside.passed + c.find_next-found.result.passed + FRAME_SYMBOLS) c.self.inside.symbols.items;
      held = Some c.in-Some.frame;
      finished = c.self.inside.finished;
    } in
    subst (λ (l : LockState). GivesWindow (record { before = l; later = later }) c.show.new.self fed given)
    c.self.view_is (given_window _ later fed given c.find_next-found.result.passed c.if-self.needed opened refl refl
    c.in-Some.frame c.show.new.self seen big sure refl left refl
    (c.show.ensures ∙ ap (made c.args.window.now.line) from ∙ ap (λ (k : LineCode). made k (drop
    c.find_next-found.result.passed (drop c.self.inside.passed c.self.inside.symbols.items))) same_line
    ∙ ap (λ (p : Passes). made_for p c.self.inside.line (drop c.find_next-found.result.passed
    (drop c.self.inside.passed c.self.inside.symbols.items))) same_passes))

pub returns-after-self-2-clause-answers : goal.returns-after-self-2-clause-answers
returns-after-self-2-clause-answers c fed given h =
    let opened = subst (λ (l : LockState). LockStandsFor l fed given) (sym c.self.view_is) h in
    let sees = looked _ _ _ fed given c.if-self.needed c.find_next-found.result opened c.marker_tail-tail.ensures
    (c.kept_symbols.ensures ∙ ap (λ (l : LockState). l.kept) (sym c.self.view_is)) c.find_next-found.ensures.seen in
    let waits = rw c.in-None.is at sees in
    let more : c.self.inside.finished ≡ false → c.if-self.needed ≡ WINDOW_END =
    elim c.if-self.branch as (λ _. c.self.inside.finished ≡ false →
    c.if-self.needed ≡ WINDOW_END) [
      | then-self w ↦ (λ (e : c.self.inside.finished ≡ false). cc)
      | else-self w ↦
          (λ (e : c.self.inside.finished ≡ false). w.needed-is)
    ] in
    let ends : c.self.inside.finished ≡ true → c.if-self.needed ≡ FRAME_SYMBOLS =
    elim c.if-self.branch as (λ _. c.self.inside.finished ≡ true →
    c.if-self.needed ≡ FRAME_SYMBOLS) [
      | then-self w ↦ (λ (e : c.self.inside.finished ≡ true). w.needed-is)
      | else-self w ↦
          (λ (e : c.self.inside.finished ≡ true). cc)
    ] in
    let left = dropped c.self.inside.symbols.items c.self.inside.passed c.find_next-found.result.passed
    (c.self.inside.passed + c.find_next-found.result.passed) refl in
    let later : LockState =
    record {
      line = c.self.inside.line;
      place = c.self.inside.place + c.find_next-found.result.passed;
      kept = drop (c.self.inside.passed + c.find_next-found.result.passed) c.self.inside.symbols.items;
      held = c.find_next-found.result.held;
      finished = c.self.inside.finished;
    } in
    subst (λ (l : LockState). Answers (record { before = l; later = later }) c.args.window.now fed given
    c.if-self-2.result) c.self.view_is
    (elim c.if-self-2.branch [
      | then-self-2 w ↦ rw w.result-is
          (had_ended _ later fed given c.find_next-found.result.passed c.if-self.needed opened refl refl waits
          refl left w.if-self-2.true (ends w.if-self-2.true))
      | else-self-2 w ↦ rw w.result-is
          (wanted_more _ later fed given c.find_next-found.result.passed c.if-self.needed opened refl refl waits
          refl left w.if-self-2.false (more w.if-self-2.false))
    ])

pub returns-after-self-2-clause-unchanged : goal.returns-after-self-2-clause-unchanged
returns-after-self-2-clause-unchanged c _ = refl
