-- The text of a moment, place by place.
use Rattle.std.proofs.Common.{◌≡◌, ℕ, ◌/◌, ◌%◌, ◌<◌, List, ◌++◌, length, refl, sym, ap, ◌∙◌, arith, ℤ, pos, negsuc, ◌≤ℤ◌, FitsSigned, w8, w16, to_z, of_z}
use Rattle.std.proofs.lemmas.Int.{ints, to_z-of_z}
use Rattle.std.proofs.lemmas.List.{append_cancel_right}
use Rattle.std.proofs.lemmas.Slice.Eq.{bytes_eq-Decides}
use Rattle.std.specs.Prelude.{codes, IsTrue, ◌↔◌, Bool}
use Rattle.std.specs.Str.{bytes_eq}
use Rattle.jiff_core.specs.DateTime.{civil_seconds}
use Rattle.jiff_core.specs.declared.civil.datetime.DateTime.{DateTime}
use Rattle.jiff_core.proofs.SignedLemmas.{signed_arith}
use Rattle.jiff_core.proofs.CalendarLemmas.{days_in_month_bounds}
use Rattle.jiff.specs.Names.{iso_datetime_text}
use Rattle.jc_moment.specs.Digits.{IsPairAt}
use Rattle.jc_moment.specs.Text.{IsMomentText}
use Rattle.jc_moment.proofs.Civil.{HasParts, year_of_moment, written_once}

-- Where the parts of a date and time stand in the text of a moment.
pub record IsSpelled (a : DateTime) (text : List ℕ) : Type 0 where
  pub year : ℕ
  pub year_is : a.date.year ≡ pos year
  pub year_in : year < 10000
  pub length_is : length text ≡ 20
  pub century : IsPairAt text 0 (year / 100)
  pub in_century : IsPairAt text 2 (year % 100)
  pub month : IsPairAt text 5 a.date.month
  pub day : IsPairAt text 8 a.date.day
  pub hour : IsPairAt text 11 a.time.hour
  pub minute : IsPairAt text 14 a.time.minute
  pub second : IsPairAt text 17 a.time.second

spelled_in : (a : DateTime) (text : List ℕ) (y : ℤ) → a.date.year ≡ y → pos 1970 ≤ℤ y → a.time.subsec_nanosecond ≡ 0 → text ≡ iso_datetime_text a ++ codes "Z" → IsSpelled a text
spelled_in a text (pos n) is late whole e =
    let below : n < 10000 = omega (arith, signed_arith, a.date.year_in) in
    let bytes = rw (is, whole) at e in
    record {
      year = n;
      year_is = is;
      year_in = below;
      length_is = ap length bytes;
      century = record { below = omega arith; tens = rw bytes; ones = rw bytes };
      in_century = record { below = omega arith; tens = rw bytes; ones = rw bytes };
      month = record { below = omega (arith, a.date.month_in); tens = rw bytes; ones = rw bytes };
      day = record {
        below = omega (arith, a.date.day_in, days_in_month_bounds a.date.year a.date.month);
        tens = rw bytes;
        ones = rw bytes;
      };
      hour = record { below = omega arith; tens = rw bytes; ones = rw bytes };
      minute = record { below = omega arith; tens = rw bytes; ones = rw bytes };
      second = record { below = omega arith; tens = rw bytes; ones = rw bytes };
    }
spelled_in a text (negsuc n) is late whole e = absurd (omega (arith, signed_arith))

pub spelled : (seconds : ℕ) (text : List ℕ) (t : IsMomentText seconds text) → IsSpelled t.civil text
spelled seconds text t =
    spelled_in t.civil text t.civil.date.year refl (year_of_moment t.civil seconds t.at) t.whole t.spelled

-- A year, and a number of two digits, are passed to a call as they are.
year_passed : (z : ℤ) (n : ℕ) → n < 10000 → z ≡ pos n → to_z w16 (of_z w16 z) ≡ pos n
year_passed z n below is =
    let fits : FitsSigned w16 (pos n) = omega (arith, ints) in
    rw is (to_z-of_z w16 (pos n) fits)

pair_passed : (z : ℤ) (n : ℕ) → n < 100 → z ≡ pos n → to_z w8 (of_z w8 z) ≡ pos n
pair_passed z n below is =
    let fits : FitsSigned w8 (pos n) = omega (arith, ints) in
    rw is (to_z-of_z w8 (pos n) fits)

-- Readers that read the digits where they stand in the text of a moment have read its parts.
pub parts_read : (seconds : ℕ) (text : List ℕ) (t : IsMomentText seconds text) (y mo d h mi s : ℤ) → ((n : ℕ) → IsPairAt text 0 (n / 100) → IsPairAt text 2 (n % 100) → y ≡ pos n) →
    ((n : ℕ) → IsPairAt text 5 n → mo ≡ pos n) → ((n : ℕ) → IsPairAt text 8 n → d ≡ pos n) → ((n : ℕ) → IsPairAt text 11 n → h ≡ pos n) → ((n : ℕ) → IsPairAt text 14 n → mi ≡ pos n) →
    ((n : ℕ) → IsPairAt text 17 n → s ≡ pos n) → HasParts t.civil (to_z w16 (of_z w16 y)) (to_z w8 (of_z w8 mo)) (to_z w8 (of_z w8 d)) (to_z w8 (of_z w8 h)) (to_z w8 (of_z w8 mi))
    (to_z w8 (of_z w8 s))
parts_read seconds text t y mo d h mi s year month day hour minute second =
    let at = spelled seconds text t in
    record {
      year = year_passed y at.year at.year_in (year at.year at.century at.in_century) ∙ sym at.year_is;
      month = pair_passed mo _ at.month.below (month _ at.month);
      day = pair_passed d _ at.day.below (day _ at.day);
      hour = pair_passed h _ at.hour.below (hour _ at.hour);
      minute = pair_passed mi _ at.minute.below (minute _ at.minute);
      second = pair_passed s _ at.second.below (second _ at.second);
      whole = t.whole;
    }

-- A text that ends in `Z` is that of a moment exactly where the rest is how its date and time are written.
pub ends_in_Z : (seconds : ℕ) (a : DateTime) (text rest written : List ℕ) (same : Bool) → civil_seconds a ≡ pos seconds → a.time.subsec_nanosecond ≡ 0 → text ≡ rest ++ codes "Z" → written
    ≡ iso_datetime_text a → same ≡ bytes_eq rest written → IsTrue same ↔ IsMomentText seconds text
ends_in_Z seconds a text rest written same at whole ends writes tests = (
  λ yes. record {
    civil = a;
    at = at;
    whole = whole;
    spelled = ends ∙ ap (λ r. r ++ codes "Z") ((bytes_eq-Decides rest written).0 (sym tests ∙ yes) ∙ writes);
  },
  λ t. tests ∙ (bytes_eq-Decides rest written).1
      (append_cancel_right rest (iso_datetime_text t.civil) (codes "Z") (sym ends ∙ t.spelled)
      ∙ written_once t.civil a (t.at ∙ sym at) (t.whole ∙ sym whole) ∙ sym writes),
)
