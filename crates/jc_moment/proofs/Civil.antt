-- The civil date and time of a moment.
use Rattle.std.proofs.Common.{◌≡◌, ℕ, ◌<◌, refl, ◌∙◌, arith, ℤ, pos, ◌+ℤ◌, ◌*ℤ◌, ◌≤ℤ◌, ◌^◌, FitsSigned, to_z, of_z}
use Rattle.std.specs.Int.{w128}
use Rattle.std.proofs.lemmas.Int.{by_lt_z, ints, to_z-of_z}
use Rattle.jiff_core.specs.declared.civil.datetime.DateTime.{DateTime}
use Rattle.jiff_core.specs.Date.{epoch_day, IsYmd}
use Rattle.jiff_core.specs.Time.{time_seconds, IsTime, IsHms}
use Rattle.jiff_core.specs.DateTime.{civil_nanos, civil_seconds}
use Rattle.jiff_core.specs.Calendar.{IsDate}
use Rattle.jiff_core.proofs.SignedLemmas.{signed_arith}
use Rattle.jiff_core.proofs.CalendarLemmas.{days_from_civil-day_count, day_count-lt_year, day_count-epoch}
use Rattle.jiff_core.proofs.DateLemmas.{civil, epoch_day_injective, epoch_day_same}
use Rattle.jiff_core.proofs.DateTimeLemmas.{civil_nanos-civil_seconds, civil_nanos_injective, time_nanos_injective}
use Rattle.jiff.specs.Names.{iso_datetime_text}

-- Two dates with times at one second, and with the same fraction, are written the same.
pub written_once : (a b : DateTime) → civil_seconds a ≡ civil_seconds b → a.time.subsec_nanosecond ≡ b.time.subsec_nanosecond → iso_datetime_text a ≡ iso_datetime_text b
written_once a b at fraction =
    let nanos : civil_nanos a ≡ civil_nanos b =
    omega (arith, signed_arith, civil_nanos-civil_seconds a, civil_nanos-civil_seconds b) in
    let parts = civil_nanos_injective a b nanos in
    let day = epoch_day_injective a.date b.date parts.0 in
    let clock = time_nanos_injective a.time b.time parts.1 in
    rw (day.0, day.1, day.2, clock.0, clock.1, clock.2, clock.3)

-- The definition, for a proof that does not unfold it.
pub civil_seconds-parts : (a : DateTime) → civil_seconds a ≡ epoch_day a.date *ℤ pos 86_400 +ℤ pos (time_seconds a.time)
unfolding civil_seconds
civil_seconds-parts a = refl

-- A moment lies in no year before 1970.
pub year_of_moment : (a : DateTime) (seconds : ℕ) → civil_seconds a ≡ pos seconds → pos 1970 ≤ℤ a.date.year
year_of_moment a seconds at =
    by_lt_z a.date.year (pos 1970)
    (λ lt. absurd
    (omega (
      arith,
      signed_arith,
      civil_seconds-parts a,
      days_from_civil-day_count,
      day_count-epoch,
      day_count-lt_year _ _ _ (pos 1970) 1 1 (civil a.date) (omega arith) lt,
    )))
    (λ ge. ge)

-- The parts of a date with a time are `y`, `mo`, `d`, `h`, `mi` and `s`, with no fraction.
pub record HasParts (a : DateTime) (y mo d h mi s : ℤ) : Type 0 where
  pub year : y ≡ a.date.year
  pub month : mo ≡ pos a.date.month
  pub day : d ≡ pos a.date.day
  pub hour : h ≡ pos a.time.hour
  pub minute : mi ≡ pos a.time.minute
  pub second : s ≡ pos a.time.second
  pub whole : a.time.subsec_nanosecond ≡ 0

-- The calendar and a clock have the parts of a date with a time.
pub parts_are_civil : (a : DateTime) (y mo d h mi s : ℤ) → HasParts a y mo d h mi s → IsDate y mo d × IsTime h mi s (pos 0)
parts_are_civil a y mo d h mi s p =
    rw (p.year, p.month, p.day, p.hour, p.minute, p.second) (
      (
        a.date.year_in,
        (omega (arith, signed_arith, a.date.month_in), omega (arith, signed_arith, a.date.month_in)),
        (omega (arith, signed_arith, a.date.day_in), omega (arith, signed_arith, a.date.day_in.1)),
      ),
      (
        (omega (arith, signed_arith), omega (arith, signed_arith)),
        (omega (arith, signed_arith), omega (arith, signed_arith)),
        (omega (arith, signed_arith), omega (arith, signed_arith)),
        (omega (arith, signed_arith), omega (arith, signed_arith)),
      ),
    )

-- The parts say the second.
pub parts_say_second : (a b : DateTime) (y mo d h mi s : ℤ) → HasParts a y mo d h mi s → IsYmd y mo d b.date × IsHms h mi s (pos 0) b.time → civil_seconds b ≡ civil_seconds a
parts_say_second a b y mo d h mi s p q =
    let day : epoch_day b.date ≡ epoch_day a.date =
    epoch_day_same b.date a.date (q.0.0 ∙ p.year) (omega (arith, signed_arith)) (omega (arith, signed_arith)) in
    let clock : time_seconds b.time ≡ time_seconds a.time = omega (arith, signed_arith) in
    civil_seconds-parts b ∙ rw (day, clock, ← civil_seconds-parts a)

-- So many whole seconds, counted in nanoseconds, are so many seconds with no fraction.
pub whole_seconds : (a : DateTime) (seconds : ℕ) → seconds < 2 ^ 64 → civil_nanos a ≡ to_z w128 (of_z w128 (to_z w128 seconds *ℤ pos 1_000_000_000)) → (civil_seconds a ≡ pos seconds) × (a.time.subsec_nanosecond ≡ 0)
whole_seconds a seconds below nanos =
    let small : FitsSigned w128 (pos seconds) = omega (arith, ints) in
    let cast : to_z w128 seconds ≡ pos seconds = to_z-of_z w128 (pos seconds) small in
    let fits : FitsSigned w128 (pos seconds *ℤ pos 1_000_000_000) = omega (arith, ints) in
    let exact : civil_nanos a ≡ pos seconds *ℤ pos 1_000_000_000 =
    nanos ∙ rw (cast, to_z-of_z w128 (pos seconds *ℤ pos 1_000_000_000) fits) in (
      omega (arith, signed_arith, civil_nanos-civil_seconds a, exact),
      omega (arith, signed_arith, civil_nanos-civil_seconds a, exact),
    )
