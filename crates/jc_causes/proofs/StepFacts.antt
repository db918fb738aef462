-- A step of a sync of a legal history makes a request that has its cause.
use Rattle.std.proofs.Common.{◌≡◌, ◌⊎◌, inl, inr, ℕ, zero, suc, ◌<◌, Bool, true, false, cond, List, [], ◌∷◌, ◌++◌, map, drop, length, slice_get, Option, Some, None, is_some, unwrap_or, refl, sym, ap, ◌∙◌, subst, arith, true≢false, append_assoc}
use Rattle.std.proofs.lemmas.List.Sums.{count_by-le-length}
use Rattle.std.specs.List.{AllByRecursion as Each}
use Rattle.jc_states.specs.UidLists.{is_in}
use Rattle.jc_types.specs.declared.actions.Fault.{Fault}
use Rattle.jc_types.specs.declared.actions.Fault.TheVariants.{Drop, Lose}
use Rattle.jc_types.specs.declared.numbers.Uid.{Uid}
use Rattle.jc_types.specs.declared.numbers.Version.{Version}
use Rattle.jc_types.specs.declared.replies.Answer.{Answer}
use Rattle.jc_types.specs.declared.replies.Reply.{Reply}
use Rattle.jc_types.specs.declared.replies.Reply.TheVariants as reply
use Rattle.jc_types.specs.declared.replies.Request.{Request}
use Rattle.jc_types.specs.declared.runs.Shape.{Shape}
use Rattle.jc_states.specs.declared.bases.Basis.{Basis}
use Rattle.jc_log.specs.Acts as does
use Rattle.jc_log.specs.Deeds.{Deed}
use Rattle.jc_types.specs.declared.statuses.JobStatus.{JobStatus}
use Rattle.jc_types.proofs.ListFacts.{Each-append}
use Rattle.jc_plan.specs.declared.plans.Planned.{Planned}
use Rattle.jc_plan.specs.Plans.{planned}
use Rattle.jc_asks.specs.Asks.{as_request, asks_of, first_asks, last_asks, late_asks, let_go_ask, second_asks}
use Rattle.jc_asks.specs.declared.asks.Ask.{Ask}
use Rattle.jc_asks.specs.declared.asks.Ask.TheVariants.{MakePod, MarkPod, LetPodGo, WriteFirst, ReleasePod, WriteSecond}
use Rattle.jc_asks.specs.Readings.{gone_in, requests, with_marks}
use Rattle.jc_asks.specs.Steps.{stepped_at}
use Rattle.jc_history.specs.SoFar.{so_far}
use Rattle.jc_history.specs.Diaries.{moment}
use Rattle.jc_history.specs.Legal.{IsLegal, IsLegalNext}
use Rattle.jc_history.specs.Registers.{made, pending, register}
use Rattle.jc_history.specs.Replies.{diary, gives, log_given, reply_given, step_gives}
use Rattle.jc_history.proofs.RequestFacts.{first_of_drop}
use Rattle.jc_causes.specs.Causes.{AreCaused, MayAsk, MayAskOf, made_by, makes_pod}
use Rattle.jc_causes.proofs.CauseFacts.{all-caused, behind-others, marked-next}

-- What holds of the requests of a plan, and of a mark where it holds of the let-go, holds with the marks among them.
marked : (P : Ask → Type 0) → ((u : Uid) (v : Version) → P (LetPodGo u v) → P (MarkPod u)) → (gone : List Uid) (asks : List Ask) → Each P asks → Each P (with_marks gone asks)
marked P next gone [] h = tt
marked P next gone (MakePod index ∷ asks) h = (h.0, marked P next gone asks h.1)
marked P next gone (MarkPod u ∷ asks) h = (h.0, marked P next gone asks h.1)
marked P next gone (LetPodGo u v ∷ asks) h = (h.0, by (marked P next gone asks h.1) (is_in u gone))
  where
    by : Each P (with_marks gone asks) → (b : Bool) → Each P (cond b (MarkPod u ∷ with_marks gone asks) (with_marks gone asks))
    by rest true = (next u v h.0, rest)
    by rest false = rest
marked P next gone (WriteFirst ∷ asks) h = (h.0, marked P next gone asks h.1)
marked P next gone (ReleasePod u ∷ asks) h = (h.0, marked P next gone asks h.1)
marked P next gone (WriteSecond ∷ asks) h = (h.0, marked P next gone asks h.1)

-- What holds of each holds of each behind the first ones.
left-over : (P : Ask → Type 0) (n : ℕ) (asks : List Ask) → Each P asks → Each P (drop n asks)
left-over P zero [] h = tt
left-over P zero (ask ∷ asks) h = h
left-over P (suc n) [] h = tt
left-over P (suc n) (ask ∷ asks) h = left-over P n asks h.1

-- ---- creations come first

abbrev is_make : Ask → Bool
is_make (MakePod index) = true
is_make other = false

-- No other request makes a pod.
none-made : {X : Type 0} (f : X → Ask) → ((x : X) → is_make (f x) ≡ false) → (xs : List X) → Each (λ ask. is_make ask ≡ false) (map f xs)
none-made f other [] = tt
none-made f other (x ∷ xs) = (other x, none-made f other xs)

late-none : (first : Option JobStatus) (releases : List Uid) (second : Option JobStatus) → Each (λ ask. is_make ask ≡ false) (first_asks first ++ last_asks releases second)
late-none first releases second = Each-append NoMake (first_asks first) (last_asks releases second) (one first) (Each-append NoMake (map ReleasePod releases) (second_asks second) (none-made ReleasePod (λ u. refl) releases) (two second))
  where
    NoMake : Ask → Type 0
    NoMake ask = is_make ask ≡ false

    one : (o : Option JobStatus) → Each NoMake (first_asks o)
    one None = tt
    one (Some status) = (refl, tt)

    two : (o : Option JobStatus) → Each NoMake (second_asks o)
    two None = tt
    two (Some status) = (refl, tt)

-- What comes at a place is no creation where none is.
at-none : (asks : List Ask) (n : ℕ) (ask : Ask) → Each (λ ask. is_make ask ≡ false) asks → slice_get asks n ≡ Some ask → is_make ask ≡ false
at-none [] n ask h e = absurd (true≢false (sym (ap is_some e)))
at-none (a ∷ asks) zero ask h e = subst (λ o. is_make (unwrap_or o a) ≡ false) e h.0
at-none (a ∷ asks) (suc n) ask h e = at-none asks n ask h.1 e

-- Where creations come first, one stands at a place below their number.
at-front : (gone : List Uid) (indexes : List (Option ℕ)) (others : List Ask) (n : ℕ) (ask : Ask) → Each (λ ask. is_make ask ≡ false) others
    → slice_get (with_marks gone (map MakePod indexes ++ others)) n ≡ Some ask → (n < length indexes) ⊎ (is_make ask ≡ false)
at-front gone [] others n ask h e = inr (at-none (with_marks gone others) n ask (marked (λ ask. is_make ask ≡ false) (λ u v e. refl) gone others h) e)
at-front gone (index ∷ indexes) others zero ask h e = inl (omega arith)
at-front gone (index ∷ indexes) others (suc n) ask h e = one-more (at-front gone indexes others n ask h e)
  where
    one-more : ((n < length indexes) ⊎ (is_make ask ≡ false)) → (suc n < suc (length indexes)) ⊎ (is_make ask ≡ false)
    one-more (inl less) = inl (omega (arith, less))
    one-more (inr other) = inr other

front-of : (plan : Planned) (gone : List Uid) (n : ℕ) (ask : Ask) → slice_get (requests plan gone) n ≡ Some ask → (n < length plan.creates) ⊎ (is_make ask ≡ false)
front-of plan gone n ask e = at-front gone plan.creates others n ask none
    (subst (λ asks. slice_get (with_marks gone asks) n ≡ Some ask)
    (append_assoc (map MakePod plan.creates) (map MarkPod plan.marks ++ map let_go_ask plan.let_goes) (late_asks plan))
    e)
  where
    others : List Ask
    others = (map MarkPod plan.marks ++ map let_go_ask plan.let_goes) ++ late_asks plan

    none : Each (λ ask. is_make ask ≡ false) others
    none = Each-append (λ ask. is_make ask ≡ false) (map MarkPod plan.marks ++ map let_go_ask plan.let_goes) (late_asks plan)
        (Each-append (λ ask. is_make ask ≡ false) (map MarkPod plan.marks) (map let_go_ask plan.let_goes) (none-made MarkPod (λ u. refl) plan.marks) (none-made let_go_ask (λ row. refl) plan.let_goes))
        (late-none plan.first plan.releases plan.second)

-- The request that a reply tells of.
abbrev asked_in : Reply → Request → Request
asked_in (reply.Stepped asked given) other = asked
asked_in reply other = other

abbrev is_stepped : Reply → Bool
is_stepped (reply.Stepped asked given) = true
is_stepped other = false

module _ (shape : Shape) (past : List Deed) (d : Deed) (legal : IsLegalNext shape past d) (c w : ℕ) (asked : Request) (given : Answer) (basis : Basis)
    (act : d.act ≡ does.Step c w) (told : d.reply ≡ reply.Stepped asked given) (begun : register w (diary shape c past) ≡ Some basis) where
  abbrev steps : List (Request × Answer)
  steps = made w (diary shape c past)

  abbrev left : List Ask
  left = drop (length steps) (requests (planned basis) (gone_in steps))

  gave : reply.Stepped asked given ≡ (stepped_at (moment shape past) (pending w (diary shape c past)) (log_given shape past) (so_far basis steps).flight left).reply
  unfolding gives
  gave =
      sym told ∙ legal.reply ∙ ap (reply_given shape past (log_given shape past)) act
      ∙ ap (λ o. (step_gives (log_given shape past) (moment shape past) steps (pending w (diary shape c past)) o).reply) begun

  abbrev Caused : Ask → Type 0
  Caused ask = MayAskOf basis.job basis 0 (as_request ask)

  makes-as : (ask : Ask) → makes_pod (as_request ask) ≡ is_make ask
  makes-as (MakePod index) = refl
  makes-as (MarkPod u) = refl
  makes-as (LetPodGo u v) = refl
  makes-as WriteFirst = refl
  makes-as (ReleasePod u) = refl
  makes-as WriteSecond = refl

  one-caused : (ask : Ask) → Caused ask → slice_get left 0 ≡ Some ask → MayAsk basis steps (as_request ask)
  one-caused ask h e = behind-others basis (made_by steps) (as_request ask) (by (front-of (planned basis) (gone_in steps) (length steps) ask (sym (first_of_drop (length steps) (requests (planned basis) (gone_in steps))) ∙ e))) h
    where
      by : ((length steps < length (planned basis).creates) ⊎ (is_make ask ≡ false)) → (made_by steps < length (planned basis).creates) ⊎ (makes_pod (as_request ask) ≡ false)
      by (inl less) = let few = count_by-le-length (λ (step : Request × Answer). makes_pod step.0) steps in inl (omega (arith, less, few))
      by (inr other) = inr (makes-as ask ∙ other)

  of-left : (asks : List Ask) (fault : Option Fault) → Each Caused asks → ((ask : Ask) → slice_get asks 0 ≡ Some ask → Caused ask → MayAsk basis steps (as_request ask))
      → reply.Stepped asked given ≡ (stepped_at (moment shape past) fault (log_given shape past) (so_far basis steps).flight asks).reply → MayAsk basis steps asked
  of-left [] fault h more e = absurd (true≢false (ap is_stepped e))
  of-left (ask ∷ asks) None h more e = subst (MayAsk basis steps) (sym (ap (λ r. asked_in r asked) e)) (more ask refl h.0)
  of-left (ask ∷ asks) (Some Drop) h more e = subst (MayAsk basis steps) (sym (ap (λ r. asked_in r asked) e)) (more ask refl h.0)
  of-left (ask ∷ asks) (Some Lose) h more e = subst (MayAsk basis steps) (sym (ap (λ r. asked_in r asked) e)) (more ask refl h.0)

  caused : MayAsk basis steps asked
  caused =
      of-left left (pending w (diary shape c past))
      (left-over Caused (length steps) (requests (planned basis) (gone_in steps)) (marked Caused (marked-next basis) (gone_in steps) (asks_of (planned basis)) (all-caused basis)))
      (λ ask e h. one-caused ask h e) gave

pub all : (shape : Shape) (deeds : List Deed) → IsLegal shape deeds → AreCaused shape deeds
all shape [] legal = tt
all shape (d ∷ past) legal = ((λ c w asked given basis act told begun. caused shape past d legal.0 c w asked given basis act told begun), all shape past legal.1)
