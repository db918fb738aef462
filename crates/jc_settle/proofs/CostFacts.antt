-- What is left of a sync, and what a cache has not seen: numbers that fall in a settle before it is calm.
use Rattle.std.proofs.Common.{◌≡◌, ℕ, suc, ◌+◌, ◌*◌, ◌-◌, ◌<◌, ◌≤◌, ◌==◌, Bool, true, false, ◌&&◌, cond, List, [], ◌∷◌, ◌++◌, length, Option, Some, None, refl, sym, ap, ◌∙◌, subst, arith, eq-eqb}
use Rattle.std.proofs.lemmas.List.{length-drop}
use Rattle.std.specs.Option.{option_map, option_or, option_to_list, unwrap_or}
use Rattle.jc_types.specs.declared.actions.Fault.{Fault}
use Rattle.jc_types.specs.declared.actions.Fault.TheVariants.{Drop, Lose}
use Rattle.jc_types.specs.declared.numbers.Uid.{Uid}
use Rattle.jc_types.specs.declared.objects.Entry.{Entry}
use Rattle.jc_types.specs.declared.replies.Answer.{Answer}
use Rattle.jc_types.specs.declared.replies.Reply.{Reply}
use Rattle.jc_types.specs.declared.replies.Reply.TheVariants as reply
use Rattle.jc_types.specs.declared.replies.Request.{Request}
use Rattle.jc_states.specs.declared.bases.Basis.{Basis}
use Rattle.jc_states.specs.UidLists.{is_in}
use Rattle.jc_control.specs.ControllerCalls.{forgets_caches}
use Rattle.jc_control.specs.declared.ends.SyncEnd.{SyncEnd}
use Rattle.jc_control.specs.declared.ends.SyncEnd.TheVariants as end
use Rattle.jc_plan.specs.Plans.{planned}
use Rattle.jc_asks.specs.declared.asks.Ask.{Ask}
use Rattle.jc_asks.specs.declared.asks.Ask.TheVariants.{MakePod, MarkPod, LetPodGo, WriteFirst, ReleasePod, WriteSecond}
use Rattle.jc_asks.specs.Asks.{as_request, asks_of}
use Rattle.jc_asks.specs.Readings.{gone_in, requests, with_marks, with_step}
use Rattle.jc_asks.specs.Steps.{stepped_at}
use Rattle.jc_history.specs.SoFar.{so_far}
use Rattle.jc_history.specs.Diaries.{end_by, on_step}
use Rattle.jc_history.specs.Notes.{Note, Asked, Ended, newest}
use Rattle.jc_history.specs.Registers.{asks_status, fault_told, made, register, register_told}
use Rattle.jc_history.specs.Replies.{step_done, step_gives}
use Rattle.jc_settle.specs.Settles.{LeavesSync}

-- ---- what is left of a sync

-- At most two requests come of each that the plan asks, and then the end.
abbrev pub left_of : Option Basis → ℕ → ℕ
left_of None n = 0
left_of (Some basis) n = 1 + (2 * length (asks_of (planned basis)) - n)

abbrev pub sync_left : ℕ → List Note → ℕ
sync_left w notes = left_of (register w notes) (length (made w notes))

marks-few : (gone : List Uid) (asks : List Ask) → length (with_marks gone asks) ≤ 2 * length asks
marks-few gone [] = omega arith
marks-few gone (MakePod index ∷ asks) = let few = marks-few gone asks in omega (arith, few)
marks-few gone (MarkPod u ∷ asks) = let few = marks-few gone asks in omega (arith, few)
marks-few gone (WriteFirst ∷ asks) = let few = marks-few gone asks in omega (arith, few)
marks-few gone (ReleasePod u ∷ asks) = let few = marks-few gone asks in omega (arith, few)
marks-few gone (WriteSecond ∷ asks) = let few = marks-few gone asks in omega (arith, few)
marks-few gone (LetPodGo u v ∷ asks) = by (is_in u gone) (marks-few gone asks)
  where
    by : (b : Bool) → length (with_marks gone asks) ≤ 2 * length asks → length (LetPodGo u v ∷ cond b (MarkPod u ∷ with_marks gone asks) (with_marks gone asks)) ≤ 2 * length (LetPodGo u v ∷ asks)
    by true few = omega (arith, few)
    by false few = omega (arith, few)

-- ---- what is left as it was

pub leaves-all : (w : ℕ) (notes : List Note) → LeavesSync w notes notes
leaves-all w notes = record { register_is = refl; made_is = refl; pending_is = refl }

pub leaves-on : (w : ℕ) {a b c : List Note} → LeavesSync w a b → LeavesSync w b c → LeavesSync w a c
leaves-on w h g = record {
  register_is = g.register_is ∙ h.register_is;
  made_is = g.made_is ∙ h.made_is;
  pending_is = g.pending_is ∙ h.pending_is;
}

pub left-same : (w : ℕ) (older newer : List Note) → LeavesSync w older newer → sync_left w newer ≡ sync_left w older
left-same w older newer h = λ i. left_of (h.register_is i) (length (h.made_is i))

-- ---- a step

-- The step of a sync that goes on is answered as its end, or asks a request that is left.
pub data StepIs (n most : ℕ) (r : Reply) : Type 0 where
  EndsIt : r ≡ reply.Ended → StepIs n most r
  AsksIt : (asked : Request) (given : Answer) → r ≡ reply.Stepped asked given → n < most → StepIs n most r

pub step-is : (log : List Entry) (now : ℕ) (steps : List (Request × Answer)) (fault : Option Fault) (basis : Basis) → StepIs (length steps) (2 * length (asks_of (planned basis))) (step_gives log now steps fault (Some basis)).reply
step-is log now steps fault basis = by fault (so_far basis steps).left refl
  where
    all : List Ask
    all = requests (planned basis) (gone_in steps)

    some-left : (ask : Ask) (left : List Ask) → (so_far basis steps).left ≡ ask ∷ left → length steps < 2 * length (asks_of (planned basis))
    some-left ask left is =
        let long : suc (length left) ≡ length all - length steps = sym (ap length is) ∙ length-drop (length steps) all in
        let few = marks-few (gone_in steps) (asks_of (planned basis)) in
        omega (arith, long, few)

    by : (fault : Option Fault) (left : List Ask) → (so_far basis steps).left ≡ left → StepIs (length steps) (2 * length (asks_of (planned basis))) (step_done (stepped_at now fault log (so_far basis steps).flight left)).reply
    by fault [] is = EndsIt refl
    by None (ask ∷ left) is = AsksIt (as_request ask) _ refl (some-left ask left is)
    by (Some Drop) (ask ∷ left) is = AsksIt (as_request ask) _ refl (some-left ask left is)
    by (Some Lose) (ask ∷ left) is = AsksIt (as_request ask) _ refl (some-left ask left is)

module _ (w now : ℕ) (basis : Basis) (older : List Note) where
  -- Of its own worker less is left.
  pub step-less : (r : Reply) → StepIs (length (made w older)) (2 * length (asks_of (planned basis))) r → register w older ≡ Some basis → sync_left w (on_step w now (Some basis) r ++ older) < sync_left w older
  step-less r is e = by is
    where
      was : sync_left w older ≡ left_of (Some basis) (length (made w older))
      was = ap (λ o. left_of o (length (made w older))) e

      -- It has ended.
      freed : (end : SyncEnd) (more : List Note) → sync_left w (Ended w basis end now ∷ more) ≡ 0
      freed end more = ap (λ b. left_of (unwrap_or (option_or (cond b (Some None) None) (newest (register_told w) more)) None) (length (made w (Ended w basis end now ∷ more)))) (eq-eqb w w refl)

      asked-less : (asked : Request) (given : Answer) → length (made w older) < 2 * length (asks_of (planned basis)) → sync_left w (Asked w basis asked given ∷ older) < sync_left w older
      asked-less asked given few = omega (arith, few, was, new)
        where
          new : sync_left w (Asked w basis asked given ∷ older) ≡ left_of (Some basis) (suc (length (made w older)))
          new = (λ i. left_of (e i) (length (with_step (cond (eq-eqb w w refl i) (Some (asked, given)) None) (made w older))))

      by : StepIs (length (made w older)) (2 * length (asks_of (planned basis))) r → sync_left w (on_step w now (Some basis) r ++ older) < sync_left w older
      by (EndsIt h) = let none = ap (λ q. sync_left w (on_step w now (Some basis) q ++ older)) h ∙ freed (end.Ended (planned basis).next) older in omega (arith, none, was)
      by (AsksIt asked given h few) = subst (λ q. sync_left w (on_step w now (Some basis) q ++ older) < sync_left w older) (sym h) (ends (end_by (asks_status asked) given))
        where
          ends : (o : Option SyncEnd) → sync_left w ((option_to_list (option_map (λ end. Ended w basis end now) o) ++ Asked w basis asked given ∷ []) ++ older) < sync_left w older
          ends None = asked-less asked given few
          ends (Some end) = let none = freed end (Asked w basis asked given ∷ older) in omega (arith, none, was)

  -- Of another nothing has changed.
  pub step-others : (r : Reply) (v : ℕ) → (w == v) ≡ false → LeavesSync v older (on_step w now (Some basis) r ++ older)
  step-others r v other = by r
    where
      ended : (end : SyncEnd) (more : List Note) → LeavesSync v more (Ended w basis end now ∷ more)
      ended end more = record {
        register_is = ap (λ b. unwrap_or (option_or (cond b (Some None) None) (newest (register_told v) more)) None) other;
        made_is = refl;
        pending_is = ap (λ b. unwrap_or (option_or (cond (b && forgets_caches end) (Some None) None) (newest (fault_told v) more)) None) other;
      }

      asked-one : (asked : Request) (given : Answer) → LeavesSync v older (Asked w basis asked given ∷ older)
      asked-one asked given = record {
        register_is = refl;
        made_is = ap (λ b. with_step (cond b (Some (asked, given)) None) (made v older)) other;
        pending_is = refl;
      }

      ends : (asked : Request) (given : Answer) (o : Option SyncEnd) → LeavesSync v older ((option_to_list (option_map (λ end. Ended w basis end now) o) ++ Asked w basis asked given ∷ []) ++ older)
      ends asked given None = asked-one asked given
      ends asked given (Some end) = leaves-on v (asked-one asked given) (ended end (Asked w basis asked given ∷ older))

      by : (r : Reply) → LeavesSync v older (on_step w now (Some basis) r ++ older)
      by (reply.Stepped asked given) = ends asked given (end_by (asks_status asked) given)
      by reply.Ended = ended (end.Ended (planned basis).next) older
      by other = leaves-all v older
