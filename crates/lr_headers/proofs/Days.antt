-- The date that comes some days after 1 January 1958.
use Rattle.std.proofs.Common.{◌≡◌, ◌+◌, ◌≤◌, ◌<◌, ltb, ℕ, zero, suc, Bool, true, false, List, [], ◌∷◌, cond, refl}
use Rattle.std.proofs.Common.{sym, ◌∙◌, ap, subst, arith, pos, negsuc, ◌-ℤ◌, codes}
use Rattle.std.proofs.lemmas.Bool.{ltb-false, ltb-true}
use Rattle.std.specs.Int.{IsInRange}
use Rattle.std.specs.List.{concat}
use Rattle.jiff.specs.Words.{epoch_day, date_text}
use Rattle.jiff.specs.Types.{Date}
use Rattle.jiff_core.specs.Calendar.{days_in_month, days_from_civil, day_count, days_of_years, days_of_months}
use Rattle.jiff_core.proofs.CalendarLemmas.{days_in_month_bounds}
use Rattle.jiff_core.proofs.SignedLemmas.{signed_arith}
use Rattle.jiff.proofs.Family.{epoch_day_injective, epoch_day_range, days_from_civil-day, days_from_civil-next_month}
use Rattle.jiff.proofs.Family.{days_from_civil-next_year, days_from_civil-max}
use Rattle.lr_headers.specs.declared.fields.Stamp.{Stamp}
use Rattle.lr_headers.specs.Laws.{StampTextsAreOne, StampsHaveTexts}
use Rattle.lr_headers.specs.Stamps.{Day, IsTextIf, clock_text, day_after, day_text, is_date, next_day}
use Rattle.lr_headers.specs.Stamps.{other_text, stamp_text}

first_day : days_from_civil (pos 1958) 1 1 ≡ negsuc 4382
unfolding days_from_civil day_count days_of_years days_of_months
first_day = refl

-- a day of the calendar, which comes this many days after the first one
record IsDay (n : ℕ) (d : Day) : Type 0 where
  year_in : d.year ≤ 9999
  month_in : IsInRange 1 12 d.month
  day_in : IsInRange 1 (days_in_month (pos d.year) d.month) d.day
  number : days_from_civil (pos d.year) d.month d.day ≡ pos n -ℤ pos 4383

last_year : (n : ℕ) → n < 2937279 → days_from_civil (pos 9999) 12 31 ≡ pos n -ℤ pos 4383 → ⊥
last_year n few is = omega (arith, signed_arith, days_from_civil-max)

next_is : (n : ℕ) (d : Day) → n < 2937279 → IsDay n d → IsDay (suc n) (next_day d)
next_is n d few is = by_month (ltb d.day (days_in_month (pos d.year) d.month)) refl
  where
    by_year : d.day ≡ days_in_month (pos d.year) d.month → (b : Bool) → ltb d.month 12 ≡ b
        → IsDay (suc n) (cond b (record { year = d.year; month = d.month + 1; day = 1 })
        (record { year = d.year + 1; month = 1; day = 1 }))
    by_year last true h =
        let number = is.number in
        let low = is.month_in.0 in
        let before : d.month < 12 = ltb-true _ _ h in
        let next = days_from_civil-next_month (pos d.year) d.month d.day low last in
        record {
          year_in = is.year_in;
          month_in = (omega arith, omega arith);
          day_in = (omega arith, let size = (days_in_month_bounds (pos d.year) (d.month + 1)).1 in omega arith);
          number = omega (arith, signed_arith);
        }
    by_year last false h =
        let past = ltb-false _ _ h in
        let most = is.month_in.1 in
        let twelve : d.month ≡ 12 = omega arith in
        let size : d.day ≡ 31 = last ∙ ap (λ (m : ℕ). days_in_month (pos d.year) m) twelve in
        let number : days_from_civil (pos d.year) 12 31 ≡ pos n -ℤ pos 4383 =
        ap (λ (m : ℕ). days_from_civil (pos d.year) m 31) (sym twelve)
        ∙ ap (λ (k : ℕ). days_from_civil (pos d.year) d.month k) (sym size) ∙ is.number in
        let next = days_from_civil-next_year (pos d.year) (pos (d.year + 1)) (omega (arith, signed_arith))
        (omega (arith, signed_arith)) in
        let inside = is.year_in in
        let below : d.year ≡ 9999 → ⊥ = λ e. last_year n few
        (subst (λ (y : ℕ). days_from_civil (pos y) 12 31 ≡ pos n -ℤ pos 4383) e number) in
        record {
          year_in = omega arith;
          month_in = (omega arith, omega arith);
          day_in = (omega arith, omega arith);
          number = omega (arith, signed_arith);
        }

    by_month : (b : Bool) → ltb d.day (days_in_month (pos d.year) d.month) ≡ b
        → IsDay (suc n) (cond b (record { year = d.year; month = d.month; day = d.day + 1 })
        (cond (ltb d.month 12) (record { year = d.year; month = d.month + 1; day = 1 })
        (record { year = d.year + 1; month = 1; day = 1 })))
    by_month true h =
        let number = is.number in
        let low = is.day_in.0 in
        let before = ltb-true _ _ h in
        let next = days_from_civil-day (pos d.year) d.month d.day (d.day + 1) low (omega arith) in
        record {
          year_in = is.year_in;
          month_in = is.month_in;
          day_in = (omega arith, omega arith);
          number = omega (arith, signed_arith);
        }
    by_month false h =
        let past = ltb-false _ _ h in
        let within = is.day_in.1 in
        by_year (omega arith) (ltb d.month 12) refl

day_is : (n : ℕ) → n ≤ 2937279 → IsDay n (day_after n)
unfolding day_after
day_is zero few = record {
  year_in = omega arith;
  month_in = (omega arith, omega arith);
  day_in = (omega arith, omega arith);
  number = first_day;
}
day_is (suc n) few = next_is n (day_after n) (omega arith) (day_is n (omega arith))

-- that day as a date
date_on : (n : ℕ) → n ≤ 2937279 → Date
date_on n few =
    let is = day_is n few in
    let d = day_after n in
    let year = is.year_in in
    record {
      year = pos d.year;
      month = d.month;
      day = d.day;
      year_in = (omega (arith, signed_arith), omega (arith, signed_arith));
      month_in = is.month_in;
      day_in = is.day_in;
    }

date_is : (n : ℕ) (date : Date) → epoch_day date ≡ pos n -ℤ pos 4383 → date_text date ≡ day_text (day_after n)
unfolding date_on
date_is n date on_day =
    let few : n ≤ 2937279 = omega (arith, signed_arith, epoch_day_range date) in
    let same = epoch_day_injective date (date_on n few) (on_day ∙ sym (day_is n few).number) in
    rw (same.0, same.1, same.2) refl

text_by : (stamp : Stamp) (text : List ℕ) (b : Bool) → IsTextIf b stamp text
    → text ≡ cond b (concat (day_text (day_after stamp.days) ∷ codes "T" ∷ clock_text stamp.milliseconds
    ∷ codes "Z" ∷ []))
    (other_text stamp)
text_by stamp text true is =
    is.is_text
    ∙ ap (λ (date : List ℕ). concat (date ∷ codes "T" ∷ clock_text stamp.milliseconds ∷ codes "Z" ∷ []))
    (date_is stamp.days is.date is.on_day)
text_by stamp text false is = is

text_for : (stamp : Stamp) → stamp.days ≤ 2937279 → (b : Bool) → IsTextIf b stamp (cond b
    (concat (day_text (day_after stamp.days) ∷ codes "T" ∷ clock_text stamp.milliseconds ∷ codes "Z" ∷ []))
    (other_text stamp))
unfolding date_on
text_for stamp few true =
    let date = date_on stamp.days few in
    let on_day = (day_is stamp.days few).number in
    record {
      date = date;
      on_day = on_day;
      is_text = sym (ap (λ (text : List ℕ). concat (text ∷ codes "T" ∷ clock_text stamp.milliseconds ∷ codes "Z" ∷ []))
          (date_is stamp.days date on_day));
    }
text_for stamp few false = refl

pub stamps_have_texts : StampsHaveTexts
unfolding stamp_text
stamps_have_texts stamp few = text_for stamp (omega (arith, few)) (is_date stamp)

pub stamp_texts_are_one : StampTextsAreOne
unfolding stamp_text
stamp_texts_are_one stamp text is = text_by stamp text (is_date stamp) is
