-- The texts of moments, in the form of Kubernetes' `metav1.Time`: `YYYY-MM-DDTHH:MM:SSZ`.
use Rattle.std.specs.Prelude.{ℕ, ◌≡◌, ◌+◌, ◌/◌, ◌%◌, List, [], ◌∷◌, ◌++◌, pos, codes}
use Rattle.jiff_core.specs.declared.civil.datetime.DateTime.{DateTime}
use Rattle.jiff_core.specs.DateTime.{civil_seconds}
use Rattle.jiff.specs.Names.{iso_datetime_text}
use Rattle.jc_moment.specs.Calendar.{year_on, month_on, day_on}

-- `text` is the text of the moment `seconds`: the civil date and time that is so many whole seconds
-- after 1970-01-01T00:00:00, written as `2024-06-19T17:30:05`, and then the `Z` of UTC.
pub record IsMomentText (seconds : ℕ) (text : List ℕ) : Type 0 where
  pub civil : DateTime
  pub at : civil_seconds civil ≡ pos seconds
  pub whole : civil.time.subsec_nanosecond ≡ 0
  pub spelled : text ≡ iso_datetime_text civil ++ codes "Z"

-- Two digits of a number below 100.
abbrev pub two_digits : ℕ → List ℕ
two_digits n = (48 + n / 10) ∷ (48 + n % 10) ∷ []

-- `2024-06-19`, of the day with that number.
unfoldable pub date_text : ℕ → List ℕ
date_text day =
    two_digits (year_on day / 100) ++ two_digits (year_on day % 100) ++ codes "-"
    ++ two_digits (month_on day) ++ codes "-" ++ two_digits (day_on day)

-- `17:30:05`, of the second of the day.
abbrev pub clock_text : ℕ → List ℕ
clock_text second =
    two_digits (second / 3600) ++ codes ":" ++ two_digits (second / 60 % 60) ++ codes ":"
    ++ two_digits (second % 60)

-- The same text as a function of the seconds, for clauses that name what is written.
unfoldable pub moment_text : ℕ → List ℕ
moment_text seconds =
    date_text (seconds / 86400) ++ codes "T" ++ clock_text (seconds % 86400) ++ codes "Z"
