-- The text of a moment is what `moment_text` says.
use Rattle.std.proofs.Common.{◌≡◌, ℕ, zero, suc, ◌/◌, ◌%◌, ◌<◌, ◌≤◌, inl, inr, Bool, true, false, List, ◌++◌, refl, ◌∙◌, arith, ℤ, pos, negsuc, ◌≤ℤ◌, ◌<ℤ◌}
use Rattle.std.proofs.lemmas.Bool.{cases_order}
use Rattle.std.proofs.lemmas.Int.{ints}
use Rattle.std.specs.Prelude.{codes, int_le}
use Rattle.jiff_core.specs.declared.civil.datetime.DateTime.{DateTime}
use Rattle.jiff_core.specs.Calendar.{days_from_civil, IsCivilDate}
use Rattle.jiff_core.specs.Date.{epoch_day}
use Rattle.jiff_core.specs.Time.{time_seconds}
use Rattle.jiff_core.specs.DateTime.{civil_seconds}
use Rattle.jiff.specs.Names.{iso_datetime_text}
use Rattle.jiff_core.proofs.SignedLemmas.{signed_arith}
use Rattle.jiff_core.proofs.CalendarLemmas.{days_from_civil-day_count, day_count-lt_year, day_count-lt_month, day_count-day, day_count-day_of_year, days_in_month_bounds}
use Rattle.jiff_core.proofs.DateLemmas.{civil}
use Rattle.jc_moment.specs.Calendar.{latest, is_by, year_on, month_on, day_on}
use Rattle.jc_moment.specs.Text.{IsMomentText, moment_text, date_text}
use Rattle.jc_moment.proofs.Civil.{year_of_moment, civil_seconds-parts}

-- What passes, where nothing after it does, is the latest.
latest_is : (passes : ℕ → Bool) (n k : ℕ) → 1 ≤ k → k ≤ n → passes k ≡ true → ((j : ℕ) → k < j → passes j ≡ false) → latest passes n ≡ k
unfolding latest
latest_is passes zero k low high here after = omega arith
latest_is passes (suc n) k low high here after =
    elim (cases_order k (suc n)) [
      | inl same ↦ rw (← same, here)
      | inr (inl less) ↦ rw (after (suc n) less) (latest_is passes n k low (omega arith) here after)
      | inr (inr more) ↦ omega arith
    ]

-- The test of order, from the order.
is_le : (a b : ℤ) → a ≤ℤ b → int_le a b ≡ true
is_le a b h = grind (arith, ints)

is_not_le : (a b : ℤ) → b <ℤ a → int_le a b ≡ false
is_not_le a b h = grind (arith, ints)

-- A date is not before the first day of its year, and before each of a later year.
first_of_year : (y : ℤ) (m d : ℕ) → IsCivilDate y m d → days_from_civil y 1 1 ≤ℤ days_from_civil y m d
first_of_year y m d h =
    omega (arith, signed_arith, days_from_civil-day_count, day_count-day_of_year y m d h.2.0)

later_year : (y : ℤ) (m d : ℕ) (j : ℤ) → IsCivilDate y m d → y <ℤ j → days_from_civil y m d <ℤ days_from_civil j 1 1
later_year y m d j h later =
    omega (arith, signed_arith, days_from_civil-day_count, day_count-lt_year y m d j 1 1 h (omega arith) later)

-- The same of its month.
first_of_month : (y : ℤ) (m d : ℕ) → IsCivilDate y m d → days_from_civil y m 1 ≤ℤ days_from_civil y m d
first_of_month y m d h =
    omega (arith, signed_arith, days_from_civil-day_count, day_count-day y m d 1 h.2.0 (omega arith))

later_month : (y : ℤ) (m d j : ℕ) → IsCivilDate y m d → m < j → days_from_civil y m d <ℤ days_from_civil y j 1
later_month y m d j h later =
    omega (arith, signed_arith, days_from_civil-day_count, day_count-lt_month y m d j 1 h (omega arith) later)

-- Later days of the month are later.
later_day : (y : ℤ) (m d j : ℕ) → IsCivilDate y m d → d < j → days_from_civil y m d <ℤ days_from_civil y m j
later_day y m d j h later =
    omega (arith, signed_arith, days_from_civil-day_count, day_count-day y m d j h.2.0 (omega arith))

-- The parts of a civil date are those that its day has.
year_is : (year m d day : ℕ) → 1 ≤ year → IsCivilDate (pos year) m d → days_from_civil (pos year) m d ≡ pos day → year_on day ≡ year
unfolding year_on
year_is year m d day late h at =
    latest_is (λ y. is_by day y 1 1) 9999 year late (omega (arith, signed_arith, h.0))
    (is_le (days_from_civil (pos year) 1 1) (pos day) (rw (← at) (first_of_year (pos year) m d h)))
    (λ j later. is_not_le (days_from_civil (pos j) 1 1) (pos day)
    (rw (← at) (later_year (pos year) m d (pos j) h (omega (arith, signed_arith)))))

month_is : (year m d day : ℕ) → 1 ≤ year → IsCivilDate (pos year) m d → days_from_civil (pos year) m d ≡ pos day → month_on day ≡ m
unfolding month_on
month_is year m d day late h at =
    rw (year_is year m d day late h at)
    (latest_is (λ month. is_by day year month 1) 12 m h.1.0 h.1.1
    (is_le (days_from_civil (pos year) m 1) (pos day) (rw (← at) (first_of_month (pos year) m d h)))
    (λ j later. is_not_le (days_from_civil (pos year) j 1) (pos day)
    (rw (← at) (later_month (pos year) m d j h later))))

day_is : (year m d day : ℕ) → 1 ≤ year → IsCivilDate (pos year) m d → days_from_civil (pos year) m d ≡ pos day → day_on day ≡ d
unfolding day_on
day_is year m d day late h at =
    rw (year_is year m d day late h at, month_is year m d day late h at)
    (latest_is (is_by day year m) 31 d h.2.0 (omega (arith, h.2.1, days_in_month_bounds (pos year) m))
    (is_le (days_from_civil (pos year) m d) (pos day) (omega (arith, signed_arith, at)))
    (λ j later. is_not_le (days_from_civil (pos year) m j) (pos day)
    (rw (← at) (later_day (pos year) m d j h later))))

-- A text of a moment is the text of that moment, where `y` is its year.
text_in : (a : DateTime) (seconds : ℕ) (text : List ℕ) (y : ℤ) → a.date.year ≡ y → pos 1970 ≤ℤ y → civil_seconds a ≡ pos seconds → a.time.subsec_nanosecond ≡ 0 → text ≡ iso_datetime_text a ++ codes "Z" → text ≡ moment_text seconds
unfolding moment_text date_text
text_in a seconds text (pos n) is late at whole e =
    let parts = civil_seconds-parts a in
    let day : epoch_day a.date ≡ pos (seconds / 86400) = omega (arith, signed_arith) in
    let clock : seconds % 86400 ≡ time_seconds a.time = omega (arith, signed_arith) in
    let civil_is : IsCivilDate (pos n) a.date.month a.date.day = rw is at (civil a.date) in
    let day_is_on : days_from_civil (pos n) a.date.month a.date.day ≡ pos (seconds / 86400) = rw is at day in
    let from_one : 1 ≤ n = omega (arith, signed_arith) in
    let hour : time_seconds a.time / 3600 ≡ a.time.hour = omega arith in
    let minute : time_seconds a.time / 60 % 60 ≡ a.time.minute = omega arith in
    let second : time_seconds a.time % 60 ≡ a.time.second = omega arith in
    e ∙ rw (is, whole, year_is n _ _ _ from_one civil_is day_is_on, month_is n _ _ _ from_one civil_is day_is_on, day_is n _ _ _ from_one civil_is day_is_on, clock, hour, minute, second)
text_in a seconds text (negsuc n) is late at whole e = absurd (omega (arith, signed_arith))

-- A text of a moment is the text of that moment.
pub text_is : (seconds : ℕ) (text : List ℕ) → IsMomentText seconds text → text ≡ moment_text seconds
text_is seconds text t =
    text_in t.civil seconds text t.civil.date.year refl (year_of_moment t.civil seconds t.at) t.at t.whole t.spelled
