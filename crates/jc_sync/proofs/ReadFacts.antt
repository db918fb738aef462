-- What a register has left to ask is what the plan and the answers so far tell.
use Rattle.std.proofs.Common.{◌≡◌, ℕ, ◌+◌, ◌<◌, ◌≤◌, Bool, true, false, cond, ◌||◌, List, [], ◌∷◌, ◌++◌, length, Option, Some, None, is_some, refl, sym, ap, ◌∙◌, subst, arith, true≢false, ne_eqb, length-append}
use Rattle.std.specs.Prelude.{slice_get}
use Rattle.std.specs.List.{AllByRecursion as Each, cons_option}
use Rattle.std.proofs.lemmas.Bool.{cond-true, cond-false, or_left, or_right}
use Rattle.std.proofs.lemmas.List.{append_assoc}
use Rattle.jc_types.specs.declared.numbers.Uid.{Uid}
use Rattle.jc_types.specs.declared.numbers.Version.{Version}
use Rattle.jc_types.specs.declared.replies.Answer.{Answer}
use Rattle.jc_types.specs.declared.replies.Request.{Request}
use Rattle.jc_types.specs.Keys.{same_uid}
use Rattle.jc_states.specs.UidLists.{AscendsFrom, is_in}
use Rattle.jc_types.proofs.KeyFacts.{same_uid-eq, same_uid-itself, same_uid-either_way}
use Rattle.jc_types.proofs.ListFacts.{Each-weaker}
use Rattle.jc_states.proofs.UidPlaceFacts.{absent-below}
use Rattle.jc_plan.specs.declared.plans.Planned.{Planned}
use Rattle.jc_asks.specs.declared.asks.Ask.{Ask}
use Rattle.jc_asks.specs.declared.asks.Ask.TheVariants.{MakePod, MarkPod, LetPodGo, WriteFirst, ReleasePod, WriteSecond}
use Rattle.jc_asks.specs.Asks.{asks_of, is_gone, asks_after, left_when, as_request}
use Rattle.jc_asks.specs.Readings.{gone_in, next_ask, requests, with_mark_behind, with_marks}
use Rattle.jc_sync.specs.Leftovers.{IsLeftBy, let_of, lets_of}
use Rattle.jc_sync.proofs.PlaceFacts.{after_ask, ask_or}

-- ---- marks behind let-goes

-- Where nothing was let go there is none.
pub with_marks-none : (asks : List Ask) → with_marks [] asks ≡ asks
with_marks-none [] = refl
with_marks-none (MakePod index ∷ asks) = ap (λ l. MakePod index ∷ l) (with_marks-none asks)
with_marks-none (MarkPod u ∷ asks) = ap (λ l. MarkPod u ∷ l) (with_marks-none asks)
with_marks-none (LetPodGo u v ∷ asks) = ap (λ l. LetPodGo u v ∷ l) (with_marks-none asks)
with_marks-none (WriteFirst ∷ asks) = ap (λ l. WriteFirst ∷ l) (with_marks-none asks)
with_marks-none (ReleasePod u ∷ asks) = ap (λ l. ReleasePod u ∷ l) (with_marks-none asks)
with_marks-none (WriteSecond ∷ asks) = ap (λ l. WriteSecond ∷ l) (with_marks-none asks)

-- A request that lets no pod go has none behind it.
abbrev is_let : Ask → Bool
is_let ask = is_some (let_of ask)

abbrev let_or : Uid → Ask → Uid
let_or other (LetPodGo u v) = u
let_or other ask = other

plain : (gone : List Uid) (ask : Ask) (asks : List Ask) → is_let ask ≡ false → with_mark_behind gone ask asks ≡ ask ∷ asks
plain gone (MakePod index) asks h = refl
plain gone (MarkPod u) asks h = refl
plain gone (LetPodGo u v) asks h = absurd (true≢false h)
plain gone WriteFirst asks h = refl
plain gone (ReleasePod u) asks h = refl
plain gone WriteSecond asks h = refl

-- One more pod that these requests don't let go changes nothing.
same_marks : (u : Uid) (gone : List Uid) (asks : List Ask) → is_in u (lets_of asks) ≡ false → with_marks (u ∷ gone) asks ≡ with_marks gone asks
same_marks u gone [] h = refl
same_marks u gone (MakePod index ∷ asks) h = ap (λ l. MakePod index ∷ l) (same_marks u gone asks h)
same_marks u gone (MarkPod w ∷ asks) h = ap (λ l. MarkPod w ∷ l) (same_marks u gone asks h)
same_marks u gone (LetPodGo w v ∷ asks) h = by (same_uid w u) refl (same_marks u gone asks) h
  where
    by : (b : Bool) → same_uid w u ≡ b → (is_in u (lets_of asks) ≡ false → with_marks (u ∷ gone) asks
        ≡ with_marks gone asks) → (b || is_in u (lets_of asks)) ≡ false → with_marks (u ∷ gone) (LetPodGo w v ∷ asks)
        ≡ with_marks gone (LetPodGo w v ∷ asks)
    by true s ih g = absurd (true≢false g)
    by false s ih g =
        ap (λ b. LetPodGo w v ∷ cond (b || is_in w gone) (MarkPod w ∷ with_marks (u ∷ gone) asks) (with_marks (u ∷ gone) asks)) (same_uid-either_way u w ∙ s)
        ∙ ap (λ l. LetPodGo w v ∷ cond (is_in w gone) (MarkPod w ∷ l) l) (ih g)
same_marks u gone (WriteFirst ∷ asks) h = ap (λ l. WriteFirst ∷ l) (same_marks u gone asks h)
same_marks u gone (ReleasePod w ∷ asks) h = ap (λ l. ReleasePod w ∷ l) (same_marks u gone asks h)
same_marks u gone (WriteSecond ∷ asks) h = ap (λ l. WriteSecond ∷ l) (same_marks u gone asks h)

-- A let-go among them is one of these requests.
lets_append : (u : Uid) (v : Version) (made rest : List Ask) → is_in u (lets_of (made ++ LetPodGo u v ∷ rest)) ≡ true
lets_append u v [] rest = or_left (same_uid u u) (is_in u (lets_of rest)) (same_uid-itself u)
lets_append u v (ask ∷ made) rest = by (let_of ask) (lets_append u v made rest)
  where
    by : (o : Option Uid) → is_in u (lets_of (made ++ LetPodGo u v ∷ rest)) ≡ true → is_in u (cons_option o (lets_of (made ++ LetPodGo u v ∷ rest))) ≡ true
    by None h = h
    by (Some w) h = or_right (same_uid w u) (is_in u (lets_of (made ++ LetPodGo u v ∷ rest))) h

lets_same : (gone : List Uid) (asks : List Ask) → lets_of (with_marks gone asks) ≡ lets_of asks
lets_same gone [] = refl
lets_same gone (MakePod index ∷ asks) = lets_same gone asks
lets_same gone (MarkPod w ∷ asks) = lets_same gone asks
lets_same gone (LetPodGo w v ∷ asks) = by (is_in w gone) (lets_same gone asks)
  where
    by : (b : Bool) → lets_of (with_marks gone asks) ≡ lets_of asks → w ∷ lets_of (cond b (MarkPod w ∷ with_marks gone asks) (with_marks gone asks)) ≡ w ∷ lets_of asks
    by true ih = ap (λ l. w ∷ l) ih
    by false ih = ap (λ l. w ∷ l) ih
lets_same gone (WriteFirst ∷ asks) = lets_same gone asks
lets_same gone (ReleasePod w ∷ asks) = lets_same gone asks
lets_same gone (WriteSecond ∷ asks) = lets_same gone asks

-- With one more pod its mark comes right behind its let-go.
abbrev Marks : Uid → Version → List Uid → List Ask → Type 0
Marks u v gone asks = (made rest : List Ask) → made ++ LetPodGo u v ∷ rest ≡ with_marks gone asks → made ++ LetPodGo u v ∷ MarkPod u ∷ rest ≡ with_marks (u ∷ gone) asks

behind_plain : (u : Uid) (v : Version) (gone : List Uid) (ask : Ask) (asks : List Ask) → is_let ask ≡ false → Marks u v gone asks → Marks u v gone (ask ∷ asks)
behind_plain u v gone ask asks other ih made rest e =
    by made (e ∙ plain gone ask (with_marks gone asks) other) ∙ sym (plain (u ∷ gone) ask (with_marks (u ∷ gone) asks) other)
  where
    by : (made : List Ask) → made ++ LetPodGo u v ∷ rest ≡ ask ∷ with_marks gone asks → made ++ LetPodGo u v ∷ MarkPod u ∷ rest ≡ ask ∷ with_marks (u ∷ gone) asks
    by [] g = absurd (true≢false (ap (λ l. is_let (ask_or ask l)) g ∙ other))
    by (m ∷ made) g = ap (λ x. x ∷ (made ++ LetPodGo u v ∷ MarkPod u ∷ rest)) (ap (ask_or ask) g) ∙ ap (λ l. ask ∷ l) (ih made rest (ap after_ask g))

behind_let : (u w : Uid) (v x : Version) (gone : List Uid) (asks : List Ask) → AscendsFrom (w.0 + 1) (lets_of asks) → is_in u gone ≡ false → Marks u v gone asks → Marks u v gone (LetPodGo w x ∷ asks)
behind_let u w v x gone asks rises out ih made rest e = by made e
  where
    none_later : u ≡ w → is_in u (lets_of asks) ≡ false
    none_later is = ap (λ y. is_in y (lets_of asks)) is ∙ absent-below (w.0 + 1) w (lets_of asks) (omega arith) rises

    -- It is this one.
    here : LetPodGo u v ≡ LetPodGo w x → rest ≡ cond (is_in w gone) (MarkPod w ∷ with_marks gone asks) (with_marks gone asks)
        → LetPodGo u v ∷ MarkPod u ∷ rest ≡ with_marks (u ∷ gone) (LetPodGo w x ∷ asks)
    here head tail =
        let is : u ≡ w = ap (let_or u) head in
        let rest_is : rest ≡ with_marks (u ∷ gone) asks =
        tail
        ∙ cond-false (is_in w gone) (MarkPod w ∷ with_marks gone asks) (with_marks gone asks) (ap (λ y. is_in y gone) (sym is) ∙ out)
        ∙ sym (same_marks u gone asks (none_later is)) in
        ap (λ l. LetPodGo u v ∷ MarkPod u ∷ l) rest_is
        ∙ ap (λ y. LetPodGo u v ∷ MarkPod y ∷ with_marks (u ∷ gone) asks) is
        ∙ ap (λ a. a ∷ MarkPod w ∷ with_marks (u ∷ gone) asks) head
        ∙ ap (λ l. LetPodGo w x ∷ l) (sym (cond-true (is_in w (u ∷ gone)) (MarkPod w ∷ with_marks (u ∷ gone) asks) (with_marks (u ∷ gone) asks)
        (or_left (same_uid u w) (is_in w gone) (ap (λ y. same_uid y w) is ∙ same_uid-itself w))))

    -- It is a later one.
    apart : (made : List Ask) (b : Bool) → made ++ LetPodGo u v ∷ rest ≡ cond b (MarkPod w ∷ with_marks gone asks) (with_marks gone asks) → (s : Bool) → same_uid u w ≡ s → s ≡ false
    apart made b g false same = refl
    apart made b g true same =
        absurd (true≢false (sym (lets_append u v made rest) ∙ ap (λ l. is_in u (lets_of l)) g ∙ ap (is_in u) (either b ∙ lets_same gone asks) ∙ none_later (same_uid-eq u w same)))
      where
        either : (b : Bool) → lets_of (cond b (MarkPod w ∷ with_marks gone asks) (with_marks gone asks)) ≡ lets_of (with_marks gone asks)
        either true = refl
        either false = refl

    later : (made : List Ask) (b : Bool) → made ++ LetPodGo u v ∷ rest ≡ cond b (MarkPod w ∷ with_marks gone asks) (with_marks gone asks)
        → made ++ LetPodGo u v ∷ MarkPod u ∷ rest ≡ cond b (MarkPod w ∷ with_marks (u ∷ gone) asks) (with_marks (u ∷ gone) asks)
    later [] true g = absurd (true≢false (ap (λ l. is_let (ask_or (LetPodGo u v) l)) g))
    later (m ∷ made) true g =
        ap (λ a. a ∷ (made ++ LetPodGo u v ∷ MarkPod u ∷ rest)) (ap (ask_or m) g) ∙ ap (λ l. MarkPod w ∷ l) (ih made rest (ap after_ask g))
    later made false g = ih made rest g

    by : (made : List Ask) → made ++ LetPodGo u v ∷ rest ≡ with_marks gone (LetPodGo w x ∷ asks) → made ++ LetPodGo u v ∷ MarkPod u ∷ rest ≡ with_marks (u ∷ gone) (LetPodGo w x ∷ asks)
    by [] g = here (ap (ask_or (LetPodGo u v)) g) (ap after_ask g)
    by (m ∷ made) g =
        let tail = ap after_ask g in
        ap (λ a. a ∷ (made ++ LetPodGo u v ∷ MarkPod u ∷ rest)) (ap (ask_or m) g)
        ∙ ap (λ l. LetPodGo w x ∷ l) (later made (is_in w gone) tail)
        ∙ ap (λ b. LetPodGo w x ∷ cond (b || is_in w gone) (MarkPod w ∷ with_marks (u ∷ gone) asks) (with_marks (u ∷ gone) asks)) (sym (apart made (is_in w gone) tail (same_uid u w) refl))

pub one_mark : (u : Uid) (v : Version) (gone : List Uid) (low : ℕ) (asks : List Ask) → AscendsFrom low (lets_of asks) → is_in u gone ≡ false → Marks u v gone asks
one_mark u v gone low [] rises out made rest e = absurd (true≢false (sym (lets_append u v made rest) ∙ ap (λ l. is_in u (lets_of l)) e))
one_mark u v gone low (MakePod index ∷ asks) rises out made rest e = behind_plain u v gone (MakePod index) asks refl (one_mark u v gone low asks rises out) made rest e
one_mark u v gone low (MarkPod w ∷ asks) rises out made rest e = behind_plain u v gone (MarkPod w) asks refl (one_mark u v gone low asks rises out) made rest e
one_mark u v gone low (LetPodGo w x ∷ asks) rises out made rest e = behind_let u w v x gone asks rises.1 out (one_mark u v gone (w.0 + 1) asks rises.1 out) made rest e
one_mark u v gone low (WriteFirst ∷ asks) rises out made rest e = behind_plain u v gone WriteFirst asks refl (one_mark u v gone low asks rises out) made rest e
one_mark u v gone low (ReleasePod w ∷ asks) rises out made rest e = behind_plain u v gone (ReleasePod w) asks refl (one_mark u v gone low asks rises out) made rest e
one_mark u v gone low (WriteSecond ∷ asks) rises out made rest e = behind_plain u v gone WriteSecond asks refl (one_mark u v gone low asks rises out) made rest e

-- ---- the register

-- At the begin.
pub reads_begun : (plan : Planned) → AscendsFrom 0 (lets_of (asks_of plan)) → IsLeftBy plan [] (asks_of plan)
reads_begun plan rises = record { made = []; count = refl; is = sym (with_marks-none (asks_of plan)); low = 0; rising = rises; below = tt }

not_among : (low : ℕ) (u : Uid) (gone : List Uid) → low ≤ u.0 → Each (λ g. g.0 < low) gone → is_in u gone ≡ false
not_among low u [] le all = refl
not_among low u (g ∷ gone) le all = ap (λ b. b || is_in u gone) (let lt = all.0 in ne_eqb g.0 u.0 (λ e. omega (arith, e, le, lt))) ∙ not_among low u gone le all.1

-- One more request was made that took no finalizer of a let-go.
moved : (plan : Planned) (steps : List (Request × Answer)) (ask : Ask) (left : List Ask) (given : Answer) (low : ℕ) → gone_in ((as_request ask, given) ∷ steps) ≡ gone_in steps
    → (r : IsLeftBy plan steps (ask ∷ left)) → AscendsFrom low (lets_of left) → Each (λ u. u.0 < low) (gone_in steps) → IsLeftBy plan ((as_request ask, given) ∷ steps) left
moved plan steps ask left given low same r rising below = record {
  made = r.made ++ ask ∷ [];
  count = length-append r.made (ask ∷ []) ∙ (let n = r.count in omega (arith, n));
  is = append_assoc r.made (ask ∷ []) left ∙ r.is ∙ ap (requests plan) (sym same);
  low = low;
  rising = rising;
  below = subst (Each (λ u. u.0 < low)) (sym same) below;
}

-- After the answer to the next request.
pub reads_step : (plan : Planned) (steps : List (Request × Answer)) (ask : Ask) (left : List Ask) (given : Answer) (low : ℕ) → AscendsFrom low (lets_of (asks_of plan)) → IsLeftBy plan steps (ask ∷ left)
    → IsLeftBy plan ((as_request ask, given) ∷ steps) (asks_after ask given left)
reads_step plan steps (MakePod index) left given low once r = moved plan steps (MakePod index) left given r.low refl r r.rising r.below
reads_step plan steps (MarkPod u) left given low once r = moved plan steps (MarkPod u) left given r.low refl r r.rising r.below
reads_step plan steps WriteFirst left given low once r = moved plan steps WriteFirst left given r.low refl r r.rising r.below
reads_step plan steps (ReleasePod u) left given low once r = moved plan steps (ReleasePod u) left given r.low refl r r.rising r.below
reads_step plan steps WriteSecond left given low once r = moved plan steps WriteSecond left given r.low refl r r.rising r.below
reads_step plan steps (LetPodGo u v) left given low once r = by (is_gone given) refl
  where
    lower : Each (λ g. g.0 < u.0 + 1) (gone_in steps)
    lower = Each-weaker (λ g. g.0 < r.low) (λ g. g.0 < u.0 + 1) (λ g lt. let le = r.rising.0 in omega (arith, lt, le)) (gone_in steps) r.below

    by : (b : Bool) → is_gone given ≡ b → IsLeftBy plan ((as_request (LetPodGo u v), given) ∷ steps) (left_when (LetPodGo u v) b left)
    by false stays = moved plan steps (LetPodGo u v) left given (u.0 + 1) (ap (λ b. cons_option (cond b (Some u) None) (gone_in steps)) stays) r r.rising.1 lower
    by true goes =
        let gone : gone_in ((as_request (LetPodGo u v), given) ∷ steps) ≡ u ∷ gone_in steps = ap (λ b. cons_option (cond b (Some u) None) (gone_in steps)) goes in
        record {
          made = r.made ++ LetPodGo u v ∷ [];
          count = length-append r.made (LetPodGo u v ∷ []) ∙ (let n = r.count in omega (arith, n));
          is =
              append_assoc r.made (LetPodGo u v ∷ []) (MarkPod u ∷ left)
              ∙ one_mark u v (gone_in steps) low (asks_of plan) once (not_among r.low u (gone_in steps) r.rising.0 r.below) r.made left r.is
              ∙ ap (requests plan) (sym gone);
          low = u.0 + 1;
          rising = r.rising.1;
          below = subst (Each (λ g. g.0 < u.0 + 1)) (sym gone) (omega arith, lower);
        }

-- The next request is the first of those that were not made.
pub reads_next : (plan : Planned) (steps : List (Request × Answer)) (left : List Ask) → IsLeftBy plan steps left → next_ask plan steps ≡ slice_get left 0
reads_next plan steps left r = ap (λ l. slice_get l (length steps)) (sym r.is) ∙ ap (slice_get (r.made ++ left)) (sym r.count) ∙ past r.made
  where
    past : (made : List Ask) → slice_get (made ++ left) (length made) ≡ slice_get left 0
    past [] = refl
    past (m ∷ made) = past made
