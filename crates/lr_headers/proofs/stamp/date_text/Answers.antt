use Rattle.std.proofs.Common.{◌≡◌, ◌∙◌, ◌++◌, ◌∷◌, ℕ, Bool, Option, Some, false, ap, rules, refl, append_assoc}
use Rattle.std.proofs.lemmas.Result.{IfOk-weaker}
use Rattle.jiff.specs.Words.{date_text}
use Rattle.lr_headers.specs.Stamps.{clock_text}
use Rattle.lr_headers.proofs.Clock.{clock_is}
use Rattle.lr_headers.proofs.stamp.date_text.Goals as goal

abbrev Options : Type 0
Options = Bool × ℕ × Option ℕ

pub returns : goal.returns
returns c =
    let ms = c.args.milliseconds in
    let clock = clock_is c.time-clock.result ms (search rules) (search rules) (search rules) (search rules) in
    let upper : c.precision.result.lowercase ≡ false = ap (λ (p : Options). p.0) c.precision.ensures
    ∙ ap (λ (p : Options). p.0) c.new.ensures in
    let middle : c.precision.result.separator ≡ 84 = ap (λ (p : Options). p.1) c.precision.ensures
    ∙ ap (λ (p : Options). p.1) c.new.ensures in
    let places : c.precision.result.precision ≡ Some 3 = ap (λ (p : Options). p.2) c.precision.ensures in
    let date : c.to_plain.result.date ≡ c.day.result = cc in
    let time : c.to_plain.result.time ≡ c.time-clock.result = cc in
    let whole : c.as_str.result.now ≡ date_text c.day.result ++ (84 ∷ clock_text ms) =
    c.as_str.ensures.value ∙ c.datetime_text-text.ensures ∙ rw (upper, middle, places, date, time, clock) refl in
    IfOk-weaker c.format.result _ _ (λ s e. record {
      date = c.day.result;
      on_day = c.day.ensures;
      is_text = e ∙ rw whole (simp append_assoc);
    }) c.format.ensures.ok
