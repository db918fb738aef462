-- What a sync with its plan is after an answer.
use Rattle.std.proofs.Common.{◌≡◌, Bool, true, false, cond, ◌||◌, List, [], ◌∷◌, ◌++◌, Option, None, is_some, refl, ap, ◌∙◌}
use Rattle.std.specs.Prelude.{slice_get}
use Rattle.std.specs.Option.{unwrap_or}
use Rattle.std.specs.List.{cons_option, filter_map}
use Rattle.std.proofs.lemmas.List.{append-nil}
use Rattle.std.proofs.lemmas.List.Elements.{filter_map-append}
use Rattle.jc_types.specs.declared.numbers.Uid.{Uid}
use Rattle.jc_types.specs.declared.numbers.Version.{Version}
use Rattle.jc_types.specs.declared.replies.Answer.{Answer}
use Rattle.jc_types.specs.declared.replies.Answer.TheVariants as answer
use Rattle.jc_states.specs.declared.bases.Basis.{Basis}
use Rattle.jc_plan.specs.Plans.{planned}
use Rattle.jc_asks.specs.declared.asks.Ask.{Ask}
use Rattle.jc_asks.specs.declared.asks.Ask.TheVariants.{MakePod, MarkPod, LetPodGo, WriteFirst, ReleasePod, WriteSecond}
use Rattle.jc_asks.specs.Asks.{Course, course_once, first_written, goes_on, is_gone, left_when, release_of, released_in}
use Rattle.jc_asks.specs.Steps.{Sync, answered_at}

-- The sync as the code keeps it.
abbrev pub kept : Basis → Bool → Version → Course → Sync
kept basis is_written sends course = record {
  flight = record {
    basis = basis;
    written = cond is_written (planned basis).first None;
    sends = sends;
    released = released_in course.made;
  };
  left = course.left;
}

none_more : (made : List Ask) (ask : Ask) → release_of ask ≡ None → released_in (made ++ ask ∷ []) ≡ released_in made
none_more made ask none =
    filter_map-append release_of made (ask ∷ [])
    ∙ ap (λ (o : Option Uid). filter_map release_of made ++ cons_option o []) none
    ∙ append-nil (filter_map release_of made)

-- After a request that releases nothing.
no_release : (basis : Basis) (made : List Ask) (is_written : Bool) (sends : Version) (ask : Ask) (left : List Ask) → release_of ask ≡ None
    → kept basis is_written sends (record { made = made ++ ask ∷ []; left = left })
    ≡ record { flight = record { basis = basis; written = cond is_written (planned basis).first None; sends = sends; released = released_in made }; left = left }
no_release basis made is_written sends ask left none =
    ap (λ (r : List Uid). record { flight = record { basis = basis; written = cond is_written (planned basis).first None; sends = sends; released = r }; left = left }) (none_more made ask none)

module _ (basis : Basis) (made : List Ask) (is_written : Bool) (sends : Version) where
  abbrev Goal : List Ask → Answer → Type 0
  Goal left given =
      kept basis (is_some (first_written (slice_get left 0) given) || is_written) (unwrap_or (first_written (slice_get left 0) given) sends) (course_once made left (is_gone given))
      ≡ answered_at (kept basis is_written sends (record { made = made; left = left })).flight left given

  first_is : (left : List Ask) (given : Answer) → Goal (WriteFirst ∷ left) given
  first_is left (answer.Written v) = no_release basis made true v WriteFirst left refl
  first_is left other = no_release basis made is_written sends WriteFirst left refl

  pub answered_is : (left : List Ask) (given : Answer) → Goal left given
  answered_is [] given = refl
  answered_is (MakePod index ∷ left) given = no_release basis made is_written sends (MakePod index) left refl
  answered_is (MarkPod u ∷ left) given = no_release basis made is_written sends (MarkPod u) left refl
  answered_is (LetPodGo u v ∷ left) given = by (is_gone given)
    where
      by : (gone : Bool) → kept basis is_written sends (goes_on made (LetPodGo u v) gone left)
          ≡ record { flight = (kept basis is_written sends (record { made = made; left = left })).flight; left = left_when (LetPodGo u v) gone left }
      by true = refl
      by false = no_release basis made is_written sends (LetPodGo u v) left refl
  answered_is (WriteFirst ∷ left) given = first_is left given
  answered_is (ReleasePod u ∷ left) given =
      ap (λ (r : List Uid). record { flight = record { basis = basis; written = cond is_written (planned basis).first None; sends = sends; released = r }; left = left }) (filter_map-append release_of made (ReleasePod u ∷ []))
  answered_is (WriteSecond ∷ left) given = no_release basis made is_written sends WriteSecond left refl

-- The same by what the code computes.
pub answered_by : (basis : Basis) (asks asks' : Course) (is_written b : Bool) (sends v : Version) (given : Answer) (w : Option Version) (first : Option Ask) (gone : Bool) (old : Sync)
    → asks' ≡ course_once asks.made asks.left gone → w ≡ first_written first given → b ≡ (is_some w || is_written) → v ≡ unwrap_or w sends → first ≡ slice_get asks.left 0 → gone ≡ is_gone given
    → kept basis is_written sends asks ≡ old → kept basis b v asks' ≡ answered_at old.flight old.left given
answered_by basis asks asks' is_written b sends v given w first gone old a_is w_is b_is v_is f_is g_is o_is =
    let first_is : w ≡ first_written (slice_get asks.left 0) given = w_is ∙ ap (λ f. first_written f given) f_is in
    let here : kept basis b v asks' ≡ kept basis (is_some (first_written (slice_get asks.left 0) given) || is_written) (unwrap_or (first_written (slice_get asks.left 0) given) sends) (course_once asks.made asks.left (is_gone given)) =
    λ i. kept basis ((b_is ∙ ap (λ x. is_some x || is_written) first_is) i) ((v_is ∙ ap (λ x. unwrap_or x sends) first_is) i) ((a_is ∙ ap (course_once asks.made asks.left) g_is) i) in
    here ∙ answered_is basis asks.made is_written sends asks.left given ∙ ap (λ (s : Sync). answered_at s.flight s.left given) o_is
