-- How time stamps are written.
use Rattle.std.specs.Prelude.{◌≡◌, ◌+◌, ◌/◌, ◌%◌, ◌==◌, ◌&&◌, nat_lt, Bool, true, false, ℕ, zero, suc, List, [], ◌∷◌}
use Rattle.std.specs.Prelude.{codes, decimal, pos, ◌-ℤ◌, if◌then◌else◌}
use Rattle.std.specs.List.{concat}
use Rattle.jiff.specs.Words.{epoch_day, date_text}
use Rattle.jiff_core.specs.Calendar.{days_in_month}
use Rattle.jiff_fmt.specs.Text.{year_text}
use Rattle.jiff.specs.Types.{Date}
use Rattle.lr_headers.specs.declared.fields.Stamp.{Stamp}

-- a number below 100, in two digits
abbrev pub two_digits : ℕ → List ℕ
two_digits n = (48 + n / 10) ∷ (48 + n % 10) ∷ []

-- a number below 1000, in three digits
abbrev pub three_digits : ℕ → List ℕ
three_digits n = (48 + n / 100) ∷ (48 + n / 10 % 10) ∷ (48 + n % 10) ∷ []

-- `HH:MM:SS.mmm`, of the milliseconds since midnight
abbrev pub clock_text : ℕ → List ℕ
clock_text ms = concat (
    two_digits (ms / 3600000) ∷ codes ":" ∷ two_digits (ms / 60000 % 60) ∷ codes ":" ∷ two_digits
    (ms / 1000 % 60) ∷ codes "." ∷ three_digits (ms % 1000) ∷ [])

-- `YYYY-MM-DDTHH:MM:SS.mmmZ`, where the date is this many days after 1 January 1958, which is day -4383 from 1 January
-- 1970
pub record IsDateText (days milliseconds : ℕ) (text : List ℕ) : Type 0 where
  pub date : Date
  pub on_day : epoch_day date ≡ pos days -ℤ pos 4383
  pub is_text : text ≡ concat (date_text date ∷ codes "T" ∷ clock_text milliseconds ∷ codes "Z" ∷ [])

-- the text of a stamp of another form, or one whose milliseconds are no time of a day
unfoldable pub other_text : Stamp → List ℕ
other_text stamp = concat (
    codes "form " ∷ decimal stamp.form ∷ codes " days " ∷ decimal stamp.days ∷ codes " milliseconds " ∷ decimal
    stamp.milliseconds ∷ [])

-- the stamp tells a date and a time of its day: the form is 40 hexadecimal
abbrev pub is_date : Stamp → Bool
is_date stamp = (stamp.form == 64) && nat_lt stamp.milliseconds 86400000

abbrev pub IsTextIf : Bool → Stamp → List ℕ → Type 0
IsTextIf true stamp text = IsDateText stamp.days stamp.milliseconds text
IsTextIf false stamp text = text ≡ other_text stamp

abbrev pub IsStampText : Stamp → List ℕ → Type 0
IsStampText stamp text = IsTextIf (is_date stamp) stamp text

-- ---- the same as a function

-- a day of the calendar
pub record Day : Type 0 where
  pub year : ℕ
  pub month : ℕ
  pub day : ℕ

-- the day after
abbrev pub next_day : Day → Day
next_day d =
    if nat_lt d.day (days_in_month (pos d.year) d.month)
    then record { year = d.year; month = d.month; day = d.day + 1 }
    else (if nat_lt d.month 12 then record { year = d.year; month = d.month + 1; day = 1 }
    else record { year = d.year + 1; month = 1; day = 1 })

-- the day that comes this many days after 1 January 1958
unfoldable pub day_after : ℕ → Day
day_after zero = record { year = 1958; month = 1; day = 1 }
day_after (suc days) = next_day (day_after days)

-- `YYYY-MM-DD`
abbrev pub day_text : Day → List ℕ
day_text d = concat (
    year_text (pos d.year) ∷ codes "-" ∷ two_digits d.month ∷ codes "-" ∷ two_digits d.day ∷ [])

unfoldable pub stamp_text : Stamp → List ℕ
stamp_text stamp =
    if is_date stamp
    then concat (day_text (day_after stamp.days) ∷ codes "T" ∷ clock_text stamp.milliseconds ∷ codes "Z" ∷ [])
    else other_text stamp
