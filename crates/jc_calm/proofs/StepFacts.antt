-- The step of a sync that is alone: what it asks, and what it leaves.
use Rattle.std.proofs.Common.{◌≡◌, ℕ, ◌<◌, ◌==◌, Bool, true, false, cond, List, [], ◌∷◌, ◌++◌, Option, Some, None, is_some, refl, sym, ap, ◌∙◌}
use Rattle.std.proofs.lemmas.Bool.{eqb-false}
use Rattle.std.specs.Option.{option_or, unwrap_or}
use Rattle.jc_types.specs.declared.actions.Fault.{Fault}
use Rattle.jc_types.specs.declared.objects.Entry.{Entry}
use Rattle.jc_types.specs.declared.objects.Kind.{Kind}
use Rattle.jc_types.specs.declared.objects.Kind.TheVariants.{Jobs, Pods}
use Rattle.jc_types.specs.declared.replies.Answer.{Answer}
use Rattle.jc_types.specs.declared.replies.Reply.{Reply}
use Rattle.jc_types.specs.declared.replies.Reply.TheVariants as reply
use Rattle.jc_types.specs.declared.replies.Request.{Request}
use Rattle.jc_types.specs.declared.runs.Shape.{Shape}
use Rattle.jc_states.specs.declared.bases.Basis.{Basis}
use Rattle.jc_control.specs.Schedules.{log_end}
use Rattle.jc_control.specs.declared.ends.SyncEnd.{SyncEnd}
use Rattle.jc_control.specs.declared.ends.SyncEnd.TheVariants as end
use Rattle.jc_log.specs.Acts as does
use Rattle.jc_log.specs.Deeds.{Deed}
use Rattle.jc_log.specs.Requests.{Answered, grown}
use Rattle.jc_plan.specs.Plans.{planned}
use Rattle.jc_asks.specs.declared.asks.Ask.{Ask}
use Rattle.jc_asks.specs.Steps.{stepped_at}
use Rattle.jc_history.specs.SoFar.{so_far}
use Rattle.jc_history.specs.Diaries.{moment, on_step}
use Rattle.jc_history.specs.Legal.{IsLegal, IsLegalNext}
use Rattle.jc_history.specs.Notes.{Note, Ended, newest}
use Rattle.jc_history.specs.Numbers.{number}
use Rattle.jc_history.specs.Registers.{made, pending, register, register_told}
use Rattle.jc_history.specs.Replies.{diary, gives, log_given, step_done, step_gives}
use Rattle.jc_settle.specs.Comes.{AreUpToDate}
use Rattle.jc_settle.specs.Serial.{IsAlone}
use Rattle.jc_settle.specs.Settles.{IsCalm}
use Rattle.jc_settle.proofs.ToldFacts.{step-notes}

-- What it is answered, and the entry that it appends, with these requests left.
abbrev pub given-at : List Entry → ℕ → List (Request × Answer) → Option Fault → Basis → List Ask → Answered
given-at log now steps fault basis left = step_done (stepped_at now fault log (so_far basis steps).flight left)

module _ (shape : Shape) (past : List Deed) (legal : IsLegal shape past) (d : Deed) (next : IsLegalNext shape past d) (c w : ℕ) (basis : Basis) (a : d.act ≡ does.Step c w) (r : register w (diary shape c past) ≡ Some basis) where
  abbrev log : List Entry
  log = log_given shape past

  -- By what it has made and the fault that is pending.
  module _ (steps : List (Request × Answer)) (fault : Option Fault) (left : List Ask) (m : made w (diary shape c past) ≡ steps) (p : pending w (diary shape c past) ≡ fault) (l : (so_far basis steps).left ≡ left) where
    pub table : gives shape past (log_given shape past) d.act ≡ given-at (log_given shape past) (moment shape past) steps fault basis left
    unfolding gives
    table =
        ap (gives shape past log) a
        ∙ (λ i. step_gives log (moment shape past) (m i) (p i) (r i))
        ∙ ap (given-at log (moment shape past) steps fault basis) l

    pub told-so : d.reply ≡ (given-at (log_given shape past) (moment shape past) steps fault basis left).reply
    told-so = next.reply ∙ ap (λ (x : Answered). x.reply) table

    pub grew-so : log_given shape (d ∷ past) ≡ grown (log_given shape past) (given-at (log_given shape past) (moment shape past) steps fault basis left).entry
    unfolding log_given
    grew-so = ap (λ (x : Answered). grown log x.entry) table

  pub noted : (e : ℕ) (said : Reply) → d.reply ≡ said → diary shape e (d ∷ past) ≡ cond (c == e) (on_step w (moment shape past) (Some basis) said) [] ++ diary shape e past
  noted e said h = step-notes shape past legal d next c w basis a r e ∙ ap (λ q. cond (c == e) (on_step w (moment shape past) (Some basis) q) [] ++ diary shape e past) h

  -- ---- it ends

  -- No sync is under way then.
  module _ (alone : IsAlone shape past c w) (how : SyncEnd) (at : ℕ) (more : List Note) (silent : (v : ℕ) (older : List Note) → register v (more ++ older) ≡ register v older)
      (notes : (e : ℕ) → diary shape e (d ∷ past) ≡ cond (c == e) (Ended w basis how at ∷ more) [] ++ diary shape e past) where
    none-other : (e v : ℕ) → e < shape.controllers → v < shape.workers → ((c ≡ e) × (w ≡ v) → ⊥) → register v (diary shape e past) ≡ None
    none-other e v l m other = by (register v (diary shape e past)) refl
      where
        by : (o : Option Basis) → register v (diary shape e past) ≡ o → o ≡ None
        by None s = refl
        by (Some b) s = absurd (other (alone e v l m (ap is_some s)))

    pub all-free : (e : ℕ) → e < shape.controllers → (v : ℕ) → v < shape.workers → register v (diary shape e (d ∷ past)) ≡ None
    all-free e l v m = ap (register v) (notes e) ∙ by (c == e) refl (w == v) refl
      where
        freed : (t : Bool) → (w == v) ≡ t → register v (Ended w basis how at ∷ more ++ diary shape e past) ≡ unwrap_or (option_or (cond t (Some None) None) (newest (register_told v) (more ++ diary shape e past))) None
        freed t q = ap (λ t. unwrap_or (option_or (cond t (Some None) None) (newest (register_told v) (more ++ diary shape e past))) None) q

        by : (b : Bool) → (c == e) ≡ b → (t : Bool) → (w == v) ≡ t → register v (cond b (Ended w basis how at ∷ more) [] ++ diary shape e past) ≡ None
        by false s t q = none-other e v l m (λ both. eqb-false c e s both.0)
        by true s true q = freed true q
        by true s false q = freed false q ∙ silent v (diary shape e past) ∙ none-other e v l m (λ both. eqb-false w v q both.1)

  -- Where it has asked all, it is calm.
  module _ (up : AreUpToDate shape past (log_given shape past)) (alone : IsAlone shape past c w) (ends : d.reply ≡ reply.Ended) (same : log_given shape (d ∷ past) ≡ log_given shape past) where
    abbrev its-end : Note
    its-end = Ended w basis (end.Ended (planned basis).next) (moment shape past)

    ended-notes : (e : ℕ) → diary shape e (d ∷ past) ≡ cond (c == e) (Ended w basis (end.Ended (planned basis).next) (moment shape past) ∷ []) [] ++ diary shape e past
    ended-notes e = noted e reply.Ended ends

    number-kept : (kind : Kind) (older : List Note) → number kind (its-end ∷ older) ≡ number kind older
    number-kept Jobs older = refl
    number-kept Pods older = refl

    caches-kept : AreUpToDate shape (d ∷ past) (log_given shape (d ∷ past))
    caches-kept e l kind = ap (number kind) (ended-notes e) ∙ by (c == e) ∙ up e l kind ∙ ap (λ log. Some (log_end log)) (sym same)
      where
        by : (b : Bool) → number kind (cond b (its-end ∷ []) [] ++ diary shape e past) ≡ number kind (diary shape e past)
        by true = number-kept kind (diary shape e past)
        by false = refl

    pub ends-calm : IsCalm shape (d ∷ past)
    ends-calm = record { caches = caches-kept; free = all-free alone (end.Ended (planned basis).next) (moment shape past) [] (λ v older. refl) ended-notes }
