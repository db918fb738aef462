-- What a legal history says of each controller after one more deed.
use Rattle.std.proofs.Common.{◌≡◌, ℕ, ◌==◌, Bool, true, false, cond, List, [], ◌∷◌, ◌++◌, Option, Some, None, refl, sym, ap, ◌∙◌, subst, eqb-true}
use Rattle.jc_log.specs.Acts as does
use Rattle.jc_types.specs.declared.objects.Entry.{Entry}
use Rattle.jc_types.specs.declared.objects.Kind.{Kind}
use Rattle.jc_types.specs.declared.replies.Reply.{Reply}
use Rattle.jc_types.specs.declared.replies.Reply.TheVariants as reply
use Rattle.jc_types.specs.declared.runs.Shape.{Shape}
use Rattle.jc_states.specs.declared.bases.Basis.{Basis}
use Rattle.jc_log.specs.Requests.{grown}
use Rattle.jc_log.specs.Acts.{Act}
use Rattle.jc_log.specs.Deeds.{Deed}
use Rattle.jc_history.specs.Diaries.{moment, notes_taken, notes, notes_after, on_begin, on_clock, on_delivery, on_list, restarts}
use Rattle.jc_history.specs.Fresh.{begin as begin_of}
use Rattle.jc_history.specs.Legal.{IsLegal}
use Rattle.jc_history.specs.Notes.{Note}
use Rattle.jc_history.specs.Registers.{AllFit, register}
use Rattle.jc_history.specs.Replies.{begin_gives, begin_with, gives, log_after, log_given, reply_of_begin, reply_given}
use Rattle.jc_history.proofs.DiaryFacts.{legal-stay}
use Rattle.jc_history.proofs.RegisterFacts.{begin-fits, step-fits}

-- ---- one more deed

-- The notes that a controller had before, and those of the deed.
pub notes-next : (shape : Shape) (c : ℕ) (past : List Deed) (d : Deed) → IsLegal shape past
    → notes shape c (d ∷ past) (log_given shape (d ∷ past)) ≡ notes_after c d (moment shape past) (log_given shape (d ∷ past)) (notes shape c past (log_given shape past))
unfolding log_given
notes-next shape c past d h = ap (notes_after c d (moment shape past) (log_given shape (d ∷ past))) (legal-stay shape c past d.act h)

-- ---- the notes of a legal history fit

list-fits : (kind : Kind) (log : List Entry) (r : Reply) (older : List Note) → AllFit older → AllFit (on_list kind log r ++ older)
list-fits kind log (reply.Listed at) older h = (tt, h)
list-fits kind log other older h = h

delivery-fits : (kind : Kind) (log : List Entry) (r : Reply) (older : List Note) → AllFit older → AllFit (on_delivery kind log r ++ older)
delivery-fits kind log (reply.Delivered version) older h = (tt, h)
delivery-fits kind log (reply.Expired floor) older h = (tt, h)
delivery-fits kind log other older h = h

clock-fits : (r : Reply) (older : List Note) → AllFit older → AllFit (on_clock r ++ older)
clock-fits (reply.Now moment) older h = (tt, h)
clock-fits other older h = h

either-fits : (b : Bool) (new older : List Note) → AllFit older → AllFit (new ++ older) → AllFit (cond b new [] ++ older)
either-fits true new older h g = g
either-fits false new older h g = h

noted-fits : (shape : Shape) (c : ℕ) (past : List Deed) (log : List Entry) (act : Act) (r : Reply) → r ≡ reply_given shape past log act → AllFit (notes shape c past log)
    → AllFit (notes_taken c act r (moment shape past) (log_after shape past log act) (notes shape c past log) ++ notes shape c past log)
unfolding gives
noted-fits shape c past log (does.List controller kind) r e h = either-fits (controller == c) _ _ h (list-fits kind log r _ h)
noted-fits shape c past log (does.Deliver controller kind) r e h = either-fits (controller == c) _ _ h (delivery-fits kind _ r _ h)
noted-fits shape c past log (does.Step controller worker) r e h = either-fits (controller == c) _ _ h (step-fits (notes shape c past log) (moment shape past) worker (register worker (notes shape c past log)) refl r h)
noted-fits shape c past log (does.PutFault controller worker fault) r e h = either-fits (controller == c) _ _ h (tt, h)
noted-fits shape c past log (does.Clock add) r e h = clock-fits r _ h
noted-fits shape c past log (does.Begin controller worker) r e h = by (controller == c) refl
  where
    own : (o : Option Basis) → register worker (notes shape c past log) ≡ o → (r : Reply) → r ≡ (begin_gives o (begin_of (notes shape c past log) log (moment shape past))).reply
        → (log' : List Entry) → log' ≡ log → AllFit (on_begin worker (moment shape past) log' (notes shape c past log) r ++ notes shape c past log)
    own (Some basis) o r e log' l = subst (λ r. AllFit (on_begin worker (moment shape past) log' (notes shape c past log) r ++ notes shape c past log)) (sym e) h
    own None o r e log' l =
        subst (λ r. AllFit (on_begin worker (moment shape past) log' (notes shape c past log) r ++ notes shape c past log)) (sym e)
        (subst (λ log'. AllFit (on_begin worker (moment shape past) log' (notes shape c past log) (reply_of_begin (begin_of (notes shape c past log) log (moment shape past))) ++ notes shape c past log)) (sym l)
        (begin-fits (notes shape c past log) log (moment shape past) worker o h))

    still : (o : Option Basis) → grown log (begin_gives o (begin_of (notes shape c past log) log (moment shape past))).entry ≡ log
    still (Some basis) = refl
    still None = refl

    by : (b : Bool) → (controller == c) ≡ b → AllFit (cond b (on_begin worker (moment shape past) (log_after shape past log (does.Begin controller worker)) (notes shape c past log) r) [] ++ notes shape c past log)
    by true t = own (register worker (notes shape c past log)) refl r (e ∙ ap (λ z. (begin_with (notes shape z past log) log (moment shape past) worker).reply) (eqb-true controller c t)) _
        (ap (λ z. grown log (begin_with (notes shape z past log) log (moment shape past) worker).entry) (eqb-true controller c t) ∙ still (register worker (notes shape c past log)))
    by false t = h
noted-fits shape c past log other r e h = h

pub legal-fit : (shape : Shape) (c : ℕ) (deeds : List Deed) → IsLegal shape deeds → AllFit (notes shape c deeds (log_given shape deeds))
unfolding log_given
legal-fit shape c [] h = tt
legal-fit shape c (d ∷ past) h = subst AllFit (sym (notes-next shape c past d h.1)) (by (restarts c d.act) (noted-fits shape c past (log_given shape past) d.act d.reply h.0.reply (legal-fit shape c past h.1)))
  where
    by : (b : Bool) → AllFit (notes_taken c d.act d.reply (moment shape past) (log_given shape (d ∷ past)) (notes shape c past (log_given shape past)) ++ notes shape c past (log_given shape past))
        → AllFit (cond b [] (notes_taken c d.act d.reply (moment shape past) (log_given shape (d ∷ past)) (notes shape c past (log_given shape past)) ++ notes shape c past (log_given shape past)))
    by true rest = tt
    by false rest = rest
