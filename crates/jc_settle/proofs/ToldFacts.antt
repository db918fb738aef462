-- What lists, deliveries and steps leave of the notes of each controller.
use Rattle.std.proofs.Common.{◌≡◌, ℕ, ◌+◌, ◌*◌, ◌-◌, ◌<◌, ◌==◌, nat_lt, Bool, true, false, cond, List, [], ◌∷◌, ◌++◌, length, Option, Some, None, refl, sym, ap, ◌∙◌, subst, arith, eqb-true}
use Rattle.std.specs.Option.{option_and_then}
use Rattle.jc_types.specs.declared.numbers.Version.{Version}
use Rattle.jc_types.specs.declared.objects.Entry.{Entry}
use Rattle.jc_types.specs.declared.objects.KeyNames.{KeyNames as Key}
use Rattle.jc_types.specs.declared.objects.Kind.{Kind}
use Rattle.jc_types.specs.declared.objects.Kind.TheVariants.{Jobs, Pods}
use Rattle.jc_types.specs.declared.replies.Reply.{Reply}
use Rattle.jc_types.specs.declared.replies.Reply.TheVariants as reply
use Rattle.jc_types.specs.declared.runs.Shape.{Shape}
use Rattle.jc_states.specs.declared.bases.Basis.{Basis}
use Rattle.jc_control.specs.ControllerCalls.{told}
use Rattle.jc_control.specs.Schedules.{log_end}
use Rattle.jc_log.specs.Acts as does
use Rattle.jc_log.specs.Deeds.{Deed}
use Rattle.jc_log.specs.Log.{entry_at, upto}
use Rattle.jc_log.specs.Requests.{Answered, refused}
use Rattle.jc_plan.specs.Plans.{planned}
use Rattle.jc_asks.specs.Asks.{asks_of}
use Rattle.jc_history.specs.Diaries.{listed_keys, moment, notes_taken, on_step, restarts}
use Rattle.jc_history.specs.Legal.{IsLegal, IsLegalNext}
use Rattle.jc_history.specs.Notes.{Note, Listed, Told, Expired}
use Rattle.jc_history.specs.Numbers.{number}
use Rattle.jc_history.specs.Registers.{made, pending, register}
use Rattle.jc_history.specs.Replies.{deliver_gives, diary, gives, log_given, step_gives}
use Rattle.jc_history.proofs.LegalFacts.{notes-next}
use Rattle.jc_settle.specs.Settles.{LeavesSync}
use Rattle.jc_settle.proofs.CostFacts.{StepIs, step-is}

-- ---- what a cache has not seen

-- One without a number counts less than an entry that is not seen, so that it may come to have none.
abbrev pub unseen : ℕ → Option Version → ℕ
unseen n None = 1
unseen n (Some version) = 2 * (n - version.0)

abbrev pub all_unseen : ℕ → List Note → ℕ
all_unseen n notes = unseen n (number Jobs notes) + unseen n (number Pods notes)

-- ---- notes

-- A note of a cache leaves all syncs as they are, and the number of the other cache.
pub record TellsCache (kind : Kind) (at : Option Version) (older newer : List Note) : Type 0 where
  pub syncs : (w : ℕ) → LeavesSync w older newer
  pub number_is : number kind newer ≡ at
  pub others : (other : Kind) → (other ≡ kind → ⊥) → number other newer ≡ number other older

abbrev IsPods : Kind → Type 0
IsPods Jobs = ⊥
IsPods Pods = Unit {0}

pods-jobs : Pods ≡ Jobs → ⊥
pods-jobs e = subst IsPods e tt

-- Less is unseen, where less is unseen of this cache.
pub unseen-less : (n : ℕ) (kind : Kind) (at : Option Version) (older newer : List Note) → TellsCache kind at older newer → unseen n at < unseen n (number kind older) → all_unseen n newer < all_unseen n older
unseen-less n Jobs at older newer h less =
    let new = ap (unseen n) h.number_is in let same = ap (unseen n) (h.others Pods pods-jobs) in omega (arith, less, new, same)
unseen-less n Pods at older newer h less =
    let new = ap (unseen n) h.number_is in let same = ap (unseen n) (h.others Jobs (λ e. pods-jobs (sym e))) in omega (arith, less, new, same)

pub listed-tells : (kind : Kind) (at : Version) (keys : List Key) (older : List Note) → TellsCache kind (Some at) older (Listed kind at keys ∷ older)
listed-tells Jobs at keys older = record { syncs = λ w. record { register_is = refl; made_is = refl; pending_is = refl }; number_is = refl; others = others }
  where
    others : (other : Kind) → (other ≡ Jobs → ⊥) → number other (Listed Jobs at keys ∷ older) ≡ number other older
    others Jobs other = absurd (other refl)
    others Pods other = refl
listed-tells Pods at keys older = record { syncs = λ w. record { register_is = refl; made_is = refl; pending_is = refl }; number_is = refl; others = others }
  where
    others : (other : Kind) → (other ≡ Pods → ⊥) → number other (Listed Pods at keys ∷ older) ≡ number other older
    others Jobs other = refl
    others Pods other = absurd (other refl)

pub told-tells : (kind : Kind) (version : Version) (key : Option Key) (older : List Note) → TellsCache kind (Some version) older (Told kind version key ∷ older)
told-tells Jobs version key older = record { syncs = λ w. record { register_is = refl; made_is = refl; pending_is = refl }; number_is = refl; others = others }
  where
    others : (other : Kind) → (other ≡ Jobs → ⊥) → number other (Told Jobs version key ∷ older) ≡ number other older
    others Jobs other = absurd (other refl)
    others Pods other = refl
told-tells Pods version key older = record { syncs = λ w. record { register_is = refl; made_is = refl; pending_is = refl }; number_is = refl; others = others }
  where
    others : (other : Kind) → (other ≡ Pods → ⊥) → number other (Told Pods version key ∷ older) ≡ number other older
    others Jobs other = refl
    others Pods other = absurd (other refl)

pub expired-tells : (kind : Kind) (older : List Note) → TellsCache kind None older (Expired kind ∷ older)
expired-tells Jobs older = record { syncs = λ w. record { register_is = refl; made_is = refl; pending_is = refl }; number_is = refl; others = others }
  where
    others : (other : Kind) → (other ≡ Jobs → ⊥) → number other (Expired Jobs ∷ older) ≡ number other older
    others Jobs other = absurd (other refl)
    others Pods other = refl
expired-tells Pods older = record { syncs = λ w. record { register_is = refl; made_is = refl; pending_is = refl }; number_is = refl; others = others }
  where
    others : (other : Kind) → (other ≡ Pods → ⊥) → number other (Expired Pods ∷ older) ≡ number other older
    others Jobs other = refl
    others Pods other = absurd (other refl)

-- ---- deeds

module _ (shape : Shape) (past : List Deed) (legal : IsLegal shape past) (d : Deed) (next : IsLegalNext shape past d) where
  abbrev log : List Entry
  log = log_given shape past

  -- The notes after an act of this controller, which goes on.
  abbrev pub NotesOf : ℕ → List Note → Type 0
  NotesOf c new = (e : ℕ) → diary shape e (d ∷ past) ≡ cond (c == e) new [] ++ diary shape e past

  -- A list.
  module _ (c : ℕ) (kind : Kind) (a : d.act ≡ does.List c kind) where
    listed-reply : d.reply ≡ reply.Listed (log_end log)
    unfolding gives
    listed-reply = next.reply ∙ ap (λ act. (gives shape past log act).reply) a

    pub list-notes : NotesOf c (Listed kind (log_end log) (listed_keys kind (upto (length log) (log_given shape (d ∷ past)))) ∷ [])
    list-notes e =
        notes-next shape e past d legal
        ∙ (λ i. cond (restarts e (a i)) [] (notes_taken e (a i) (listed-reply i) (moment shape past) (log_given shape (d ∷ past)) (diary shape e past) ++ diary shape e past))

  -- A delivery.
  module _ (c : ℕ) (kind : Kind) (version : Version) (a : d.act ≡ does.Deliver c kind) (n : number kind (diary shape c past) ≡ Some version) (less : version.0 < length log) where
    not-at-end : (version.0 == length log) ≡ false
    not-at-end = by (version.0 == length log) refl
      where
        by : (b : Bool) → (version.0 == length log) ≡ b → b ≡ false
        by true s = let same = eqb-true version.0 (length log) s in absurd (omega (arith, same, less))
        by false s = refl

    abbrev pub after : Version
    after = record { 0 = version.0 + 1 }

    pub data DeliveryIs : Type 0 where
      Tells : NotesOf c (Told kind after (option_and_then (told kind) (entry_at after.0 (log_given shape (d ∷ past)))) ∷ []) → DeliveryIs
      Loses : NotesOf c (Expired kind ∷ []) → DeliveryIs

    notes-by : (r : Reply) → d.reply ≡ r → (e : ℕ) → diary shape e (d ∷ past) ≡ notes_taken e (does.Deliver c kind) r (moment shape past) (log_given shape (d ∷ past)) (diary shape e past) ++ diary shape e past
    notes-by r told-so e =
        notes-next shape e past d legal
        ∙ (λ i. cond (restarts e (a i)) [] (notes_taken e (a i) (told-so i) (moment shape past) (log_given shape (d ∷ past)) (diary shape e past) ++ diary shape e past))

    given : d.reply ≡ (deliver_gives log shape.window (Some version)).reply
    unfolding gives
    given = next.reply ∙ ap (λ act. (gives shape past log act).reply) a ∙ ap (λ o. (deliver_gives log shape.window o).reply) n

    pub delivery-is : DeliveryIs
    delivery-is = by (nat_lt version.0 (length log - shape.window)) given
      where
        floor-now : Version
        floor-now = record { 0 = length log - shape.window }

        by : (b : Bool) → d.reply ≡ (cond {A = Answered} b (refused (reply.Expired floor-now)) (cond (version.0 == length log) (refused reply.UpToDate) (refused (reply.Delivered after)))).reply → DeliveryIs
        by true e = Loses (notes-by (reply.Expired floor-now) e)
        by false e = Tells (notes-by (reply.Delivered after) (e ∙ ap (λ b. (cond {A = Answered} b (refused reply.UpToDate) (refused (reply.Delivered after))).reply) not-at-end))

  -- A step of a sync under way.
  module _ (c w : ℕ) (basis : Basis) (a : d.act ≡ does.Step c w) (r : register w (diary shape c past) ≡ Some basis) where
    pub step-reply : d.reply ≡ (step_gives log (moment shape past) (made w (diary shape c past)) (pending w (diary shape c past)) (Some basis)).reply
    unfolding gives
    step-reply =
        next.reply ∙ ap (λ act. (gives shape past log act).reply) a
        ∙ ap (λ o. (step_gives log (moment shape past) (made w (diary shape c past)) (pending w (diary shape c past)) o).reply) r

    pub step-given : StepIs (length (made w (diary shape c past))) (2 * length (asks_of (planned basis))) d.reply
    step-given = subst (StepIs (length (made w (diary shape c past))) (2 * length (asks_of (planned basis)))) (sym step-reply) (step-is log (moment shape past) (made w (diary shape c past)) (pending w (diary shape c past)) basis)

    pub step-notes : NotesOf c (on_step w (moment shape past) (Some basis) d.reply)
    step-notes e =
        notes-next shape e past d legal
        ∙ (λ i. cond (restarts e (a i)) [] (notes_taken e (a i) d.reply (moment shape past) (log_given shape (d ∷ past)) (diary shape e past) ++ diary shape e past))
        ∙ by (c == e) refl
      where
        by : (b : Bool) → (c == e) ≡ b → cond b (on_step w (moment shape past) (register w (diary shape e past)) d.reply) [] ++ diary shape e past ≡ cond b (on_step w (moment shape past) (Some basis) d.reply) [] ++ diary shape e past
        by true s = ap (λ o. on_step w (moment shape past) o d.reply ++ diary shape e past) (ap (λ k. register w (diary shape k past)) (sym (eqb-true c e s)) ∙ r)
        by false s = refl
