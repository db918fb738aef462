-- The newest event: its deed, and begins in the place of syncs.
use Rattle.std.proofs.Common.{◌≡◌, ℕ, List, [], ◌∷◌, ◌++◌, Option, refl, ap₂}
use Rattle.std.specs.List.{AllByRecursion as Each}
use Rattle.jc_types.specs.declared.actions.Action1.{Action1}
use Rattle.jc_types.specs.declared.actions.Action1.TheVariants as act
use Rattle.jc_types.specs.declared.replies.Reply.{Reply}
use Rattle.jc_types.specs.declared.runs.Event.{Event}
use Rattle.jc_types.specs.declared.runs.Shape.{Shape}
use Rattle.jc_log.specs.Acts.{Act}
use Rattle.jc_log.specs.Deeds.{Deed, act_of_action, lane_of}
use Rattle.jc_history.specs.Legal.{IsLegal, IsLegalNext}
use Rattle.jc_history.specs.Replies.{log_given, next_deed}
use Rattle.jc_reading.specs.Proper.{IsProperAction, as_begin}
use Rattle.jc_runs.specs.Seen.{Admits, Seen, act_seen, deeds_seen, happened}

-- ---- deeds

-- The deed of an event that has happened.
pub newest : (seen : Seen) (e : Event) → deeds_seen (happened seen e) ≡ next_deed seen.shape (deeds_seen seen) (lane_of e) (act_seen seen e) ∷ deeds_seen seen
newest seen e = refl

abbrev deed_of : Option ℕ → Act → Reply → ℕ → Deed
deed_of lane a r n = record { lane = lane; act = a; reply = r; length = record { 0 = n } }

-- A legal deed is the one that comes where its act is done next.
pub legal_is_next : (shape : Shape) (past : List Deed) (d : Deed) → IsLegalNext shape past d → d ≡ next_deed shape past d.lane d.act
unfolding log_given
legal_is_next shape past d legal = ap₂ (λ r n. deed_of d.lane d.act r n) legal.reply legal.length

-- What happens is legal.
pub happened_is_legal : (seen : Seen) (e : Event) → Admits seen e → IsLegal seen.shape (deeds_seen seen) → IsLegal seen.shape (deeds_seen (happened seen e))
unfolding log_given
happened_is_legal seen e admits legal = (record { within = admits.within; settled = admits.settled; reply = refl; length = refl }, legal)

-- ---- begins in the place of syncs

pub begun_act : (a : Action1) → act_of_action (as_begin a) ≡ act_of_action a
begun_act (act.Create key spec) = refl
begun_act (act.Update key version change) = refl
begun_act (act.Delete key) = refl
begun_act (act.Mark pod) = refl
begun_act (act.Strip pod) = refl
begun_act (act.Finish pod exit) = refl
begun_act (act.Report pod change) = refl
begun_act (act.Fate key ends) = refl
begun_act (act.Clock add) = refl
begun_act (act.List controller kind) = refl
begun_act (act.Deliver controller kind) = refl
begun_act (act.Begin controller worker) = refl
begun_act (act.Sync controller worker) = refl
begun_act (act.Step controller worker) = refl
begun_act act.Node = refl
begun_act (act.Restart controller) = refl
begun_act (act.PutFault controller worker fault) = refl
begun_act act.Settle = refl

pub begun_proper : (a : Action1) → IsProperAction a → IsProperAction (as_begin a)
begun_proper (act.Create key spec) p = p
begun_proper (act.Update key version change) p = p
begun_proper (act.Delete key) p = p
begun_proper (act.Mark pod) p = p
begun_proper (act.Strip pod) p = p
begun_proper (act.Finish pod exit) p = p
begun_proper (act.Report pod change) p = p
begun_proper (act.Fate key ends) p = p
begun_proper (act.Clock add) p = p
begun_proper (act.List controller kind) p = p
begun_proper (act.Deliver controller kind) p = p
begun_proper (act.Begin controller worker) p = p
begun_proper (act.Sync controller worker) p = p
begun_proper (act.Step controller worker) p = p
begun_proper act.Node p = p
begun_proper (act.Restart controller) p = p
begun_proper (act.PutFault controller worker fault) p = p
begun_proper act.Settle p = p

-- ---- lists

pub each_more : {A : Type 0} (P : A → Type 0) (xs : List A) (x : A) → Each P xs → P x → Each P (xs ++ x ∷ [])
each_more P [] x all one = (one, tt)
each_more P (y ∷ xs) x all one = (all.0, each_more P xs x all.1 one)
