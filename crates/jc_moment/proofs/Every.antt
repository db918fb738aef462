-- Every moment has a text.
use Rattle.std.proofs.Common.{◌≡◌, ℕ, zero, suc, ◌+◌, ◌/◌, ◌%◌, ◌<◌, ◌≤◌, inl, inr, ◌++◌, ◌↔◌, refl, sym, ◌∙◌, arith, ℤ, pos, ◌+ℤ◌, List}
use Rattle.std.specs.Prelude.{codes}
use Rattle.std.proofs.lemmas.Bool.{cases_lt}
use Rattle.std.proofs.lemmas.Int.{by_lt_z}
use Rattle.jiff_core.specs.declared.civil.date.Date.{Date}
use Rattle.jiff_core.specs.declared.civil.time.Time.{Time}
use Rattle.jiff_core.specs.declared.civil.datetime.DateTime.{DateTime}
use Rattle.jiff_core.specs.Calendar.{days_from_civil, days_in_month, IsCivilDate}
use Rattle.jiff_core.specs.Date.{epoch_day}
use Rattle.jiff_core.specs.Time.{time_seconds}
use Rattle.jiff_core.specs.DateTime.{civil_seconds}
use Rattle.jiff_core.proofs.SignedLemmas.{signed_arith}
use Rattle.jiff_core.proofs.CalendarLemmas.{days_in_month_bounds}
use Rattle.jiff_core.proofs.DateLemmas.{civil, epoch_day_range, days_from_civil-day, days_from_civil-next_month, days_from_civil-next_year, days_from_civil-max}
use Rattle.jiff_core.proofs.StandardFacts.{known_days}
use Rattle.jiff.specs.Names.{iso_datetime_text}
use Rattle.jc_moment.specs.Range.{IsMoment}
use Rattle.jc_moment.specs.Text.{IsMomentText, moment_text}
use Rattle.jc_moment.proofs.Civil.{civil_seconds-parts}
use Rattle.jc_moment.proofs.Calendar.{text_is}

-- A date on the day with that number.
record IsOnDay (day : ℕ) : Type 0 where
  date : Date
  at : epoch_day date ≡ pos day

on_day : (day : ℕ) (y : ℤ) (m d : ℕ) → IsCivilDate y m d → days_from_civil y m d ≡ pos day → IsOnDay day
on_day day y m d h at =
    record { date = record { year = y; month = m; day = d; year_in = h.0; month_in = h.1; day_in = h.2 }; at = at }

-- The day after a date: in its month, the first of the next month, or the first of the next year.
next_month : (n : ℕ) (y : ℤ) (m d : ℕ) → IsCivilDate y m d → d ≡ days_in_month y m → m < 12 → days_from_civil y m d ≡ pos n → IsOnDay (suc n)
next_month n y m d h last more at =
    on_day (suc n) y (m + 1) 1
    (h.0, (omega arith, omega arith), (omega arith, omega (arith, days_in_month_bounds y (m + 1))))
    (omega (arith, signed_arith, days_from_civil-next_month y m d h.1.0 last))

next_year : (n : ℕ) (y : ℤ) (d : ℕ) → IsCivilDate y 12 d → d ≡ 31 → n < 2932896 → days_from_civil y 12 d ≡ pos n → IsOnDay (suc n)
next_year n y d h last before at =
    let end : days_from_civil y 12 31 ≡ pos n = rw (← last) at in
    by_lt_z y (pos 9999)
    (λ less. on_day (suc n) (y +ℤ pos 1) 1 1
    ((omega (arith, signed_arith, h.0), omega (arith, signed_arith, h.0)), (omega arith, omega arith), (omega arith, omega (arith, days_in_month_bounds (y +ℤ pos 1) 1)))
    (omega (arith, signed_arith, end, days_from_civil-next_year y (y +ℤ pos 1) (omega (arith, signed_arith, h.0)) refl)))
    (λ most. let latest : y ≡ pos 9999 = omega (arith, signed_arith, h.0) in
    absurd (omega (arith, signed_arith, days_from_civil-max, rw latest at end)))

december : (n : ℕ) (y : ℤ) (m d : ℕ) → m ≡ 12 → IsCivilDate y m d → d ≡ days_in_month y m → n < 2932896 → days_from_civil y m d ≡ pos n → IsOnDay (suc n)
december n y m d is h last before at =
    next_year n y d (rw is at h) (rw is at last) before (rw is at at)

next_day : (n : ℕ) → n < 2932896 → IsOnDay n → IsOnDay (suc n)
next_day n before a =
    let h = civil a.date in
    elim (cases_lt a.date.day (days_in_month a.date.year a.date.month)) [
      | inl more ↦ on_day (suc n) a.date.year a.date.month (a.date.day + 1)
          (h.0, h.1, (omega arith, omega arith))
          (omega (arith, signed_arith, a.at, days_from_civil-day a.date.year a.date.month a.date.day (a.date.day + 1) h.2.0 (omega arith)))
      | inr over ↦ let last : a.date.day ≡ days_in_month a.date.year a.date.month = omega (arith, h.2.1) in
          elim (cases_lt a.date.month 12) [
            | inl early ↦ next_month n a.date.year a.date.month a.date.day h last early a.at
            | inr late ↦ december n a.date.year a.date.month a.date.day (omega (arith, h.1.1)) h last before a.at
          ]
    ]

every_day : (day : ℕ) → day ≤ 2932896 → IsOnDay day
every_day zero low = on_day 0 (pos 1970) 1 1 ((omega (arith, signed_arith), omega (arith, signed_arith)), (omega arith, omega arith), (omega arith, omega arith)) known_days.0
every_day (suc n) low = next_day n (omega arith) (every_day n (omega arith))

-- A time at that second of the day.
record IsAtSecond (second : ℕ) : Type 0 where
  time : Time
  at : time_seconds time ≡ second
  whole : time.subsec_nanosecond ≡ 0

every_second : (second : ℕ) → second < 86400 → IsAtSecond second
every_second second below = record {
  time = record {
    hour = second / 3600;
    minute = second / 60 % 60;
    second = second % 60;
    subsec_nanosecond = 0;
    hour_in = omega arith;
    minute_in = omega arith;
    second_in = omega arith;
    subsec_in = omega arith;
  };
  at = omega arith;
  whole = refl;
}

is_text_on : (seconds : ℕ) → IsOnDay (seconds / 86400) → IsAtSecond (seconds % 86400) → IsMomentText seconds (moment_text seconds)
is_text_on seconds day clock =
    let civil : DateTime = record { date = day.date; time = clock.time } in
    let at : civil_seconds civil ≡ pos seconds =
    civil_seconds-parts civil ∙ omega (arith, signed_arith, day.at, clock.at) in
    let spelled : IsMomentText seconds (iso_datetime_text civil ++ codes "Z") =
    record { civil = civil; at = at; whole = clock.whole; spelled = refl } in
    record { civil = civil; at = at; whole = clock.whole; spelled = sym (text_is seconds _ spelled) }

-- What `moment_text` says is a text of each moment.
pub is_text : (seconds : ℕ) → IsMoment seconds → IsMomentText seconds (moment_text seconds)
is_text seconds below =
    is_text_on seconds (every_day (seconds / 86400) (omega arith)) (every_second (seconds % 86400) (omega arith))

-- And it is the only one, and only moments have one.
pub is_text_exactly : (seconds : ℕ) (text : List ℕ) → IsMomentText seconds text ↔ (IsMoment seconds × (text ≡ moment_text seconds))
is_text_exactly seconds text = (
  λ t. (omega (arith, signed_arith, t.at, civil_seconds-parts t.civil, epoch_day_range t.civil.date), text_is seconds text t),
  λ m. rw m.1 (is_text seconds m.0),
)
