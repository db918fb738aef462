-- The civil date of a day, from 1970-01-01 to 9999-12-31, as functions of the day's number: the
-- latest year that does not begin after the day, the latest such month of it, and the latest such
-- day of that.
use Rattle.std.specs.Prelude.{ℕ, zero, suc, Bool, if◌then◌else◌, pos, int_le}
use Rattle.jiff_core.specs.Calendar.{days_from_civil}

-- The greatest number up to `limit` that passes, or 0 where none from 1 on does.
unfoldable pub latest : (ℕ → Bool) → ℕ → ℕ
latest passes zero = 0
latest passes (suc n) = if passes (suc n) then suc n else latest passes n

-- The civil date is not after the day with the number `day`, where 1970-01-01 has the number 0.
abbrev pub is_by : ℕ → ℕ → ℕ → ℕ → Bool
is_by day year month day_of_month = int_le (days_from_civil (pos year) month day_of_month) (pos day)

unfoldable pub year_on : ℕ → ℕ
year_on day = latest (λ year. is_by day year 1 1) 9999

unfoldable pub month_on : ℕ → ℕ
month_on day = latest (λ month. is_by day (year_on day) month 1) 12

unfoldable pub day_on : ℕ → ℕ
day_on day = latest (is_by day (year_on day) (month_on day)) 31
