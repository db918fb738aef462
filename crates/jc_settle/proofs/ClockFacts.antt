-- The clock in a settle: it is answered with the moment to which it goes, and writes nothing.
use Rattle.std.proofs.Common.{◌≡◌, ℕ, ◌+◌, ◌-◌, ◌<◌, nat_lt, Bool, true, false, cond, List, [], ◌∷◌, ◌++◌, Some, refl, sym, ap, ◌∙◌, subst, arith, ltb-true, ltb-false}
use Rattle.jc_types.specs.declared.replies.Reply.TheVariants as reply
use Rattle.jc_types.specs.declared.runs.Shape.{Shape}
use Rattle.jc_log.specs.Acts as does
use Rattle.jc_log.specs.Acts.{Act}
use Rattle.jc_log.specs.Deeds.{Deed}
use Rattle.jc_log.specs.Range.{IsMoment, end_of_moments}
use Rattle.jc_log.specs.Requests.{Answered, grown, refused}
use Rattle.jc_history.specs.Available.{least_of_all}
use Rattle.jc_history.specs.Diaries.{is_now, moment, notes_taken, restarts, ticks}
use Rattle.jc_history.specs.Legal.{IsLegal, IsLegalNext}
use Rattle.jc_history.specs.Notes.{Ticked}
use Rattle.jc_history.specs.Replies.{AppendsNothing, clock_gives, diary, gives, log_given}
use Rattle.jc_history.proofs.LegalFacts.{notes-next}
use Rattle.jc_order.proofs.DueFacts.{IsInTime, least-is-moment}

module _ (shape : Shape) (past : List Deed) (d : Deed) (next : IsLegalNext shape past d) where
  -- A clock's reply.
  clock-reply : (add : ℕ) → d.act ≡ does.Clock add → d.reply ≡ (clock_gives (moment shape past + add)).reply
  unfolding gives
  clock-reply add a = next.reply ∙ ap (λ act. (gives shape past (log_given shape past) act).reply) a

  clock-within : (add : ℕ) → d.act ≡ does.Clock add → IsMoment (moment shape past) → IsMoment (moment shape past + cond (is_now d.reply) add 0)
  clock-within add a m = by (nat_lt (moment shape past + add) end_of_moments) refl (clock-reply add a)
    where
      by : (b : Bool) → nat_lt (moment shape past + add) end_of_moments ≡ b → d.reply
          ≡ (cond {A = Answered} b (refused (reply.Now (moment shape past + add))) (refused reply.ClockEnd)).reply
          → IsMoment (moment shape past + cond (is_now d.reply) add 0)
      by true s e = subst (λ r. IsMoment (moment shape past + cond (is_now r) add 0)) (sym e) (ltb-true (moment shape past + add) end_of_moments s)
      by false s e = subst (λ r. IsMoment (moment shape past + cond (is_now r) add 0)) (sym e) (let lt = m in omega (arith, lt))

  moment-within : IsMoment (moment shape past) → IsMoment (moment shape (d ∷ past))
  moment-within m = by d.act refl
    where
      still : (b : Bool) → IsMoment (moment shape past + cond b 0 0)
      still true = let lt = m in omega (arith, lt)
      still false = let lt = m in omega (arith, lt)

      no-ticks : (act : Act) → d.act ≡ act → ticks act ≡ 0 → IsMoment (moment shape (d ∷ past))
      no-ticks act a none = subst (λ n. IsMoment (moment shape past + cond (is_now d.reply) n 0)) (sym (ap ticks a ∙ none)) (still (is_now d.reply))

      by : (act : Act) → d.act ≡ act → IsMoment (moment shape (d ∷ past))
      by (does.Clock add) a = subst (λ n. IsMoment (moment shape past + cond (is_now d.reply) n 0)) (sym (ap ticks a)) (clock-within add a m)
      by other a = no-ticks other a refl

-- Each moment of a history is one, where that of its start is.
pub moments-are : (shape : Shape) (past : List Deed) → IsMoment shape.start → IsLegal shape past → IsMoment (moment shape past)
moments-are shape [] start legal = start
moments-are shape (d ∷ past) start legal = moment-within shape past d legal.0 (moments-are shape past start legal.1)

-- The clock moves to the least delay.
module _ (shape : Shape) (past : List Deed) (legal : IsLegal shape past) (start : IsMoment shape.start) (d : Deed)
    (next : IsLegalNext shape past d) (due : ℕ) (a : d.act ≡ does.Clock (due - moment shape past))
    (least : least_of_all shape past (log_given shape past) ≡ Some due) where
  abbrev later : ℕ
  later = moment shape past + (due - moment shape past)

  later-within : later < end_of_moments
  later-within = by (subst IsInTime least (least-is-moment shape past (log_given shape past))) (moments-are shape past start legal)
    where
      by : due < end_of_moments → moment shape past < end_of_moments → later < end_of_moments
      by lt m = omega (arith, lt, m)

  pub ticked-reply : d.reply ≡ reply.Now (moment shape past + (due - moment shape past))
  ticked-reply = clock-reply shape past d next (due - moment shape past) a ∙ by (nat_lt later end_of_moments) refl
    where
      by : (b : Bool) → nat_lt later end_of_moments ≡ b → (cond {A = Answered} b (refused (reply.Now later)) (refused reply.ClockEnd)).reply ≡ reply.Now later
      by true s = refl
      by false s = let le = ltb-false later end_of_moments s in let lt = later-within in absurd (omega (arith, le, lt))

  pub ticked-now : moment shape (d ∷ past) ≡ moment shape past + (due - moment shape past)
  ticked-now = λ i. moment shape past + cond (is_now (ticked-reply i)) (ticks (a i)) 0

  pub ticked-nothing : AppendsNothing shape past d
  unfolding log_given gives
  ticked-nothing = ap (λ act. grown (log_given shape past) (gives shape past (log_given shape past) act).entry) a ∙ by (nat_lt later end_of_moments)
    where
      by : (b : Bool) → grown (log_given shape past) (cond {A = Answered} b (refused (reply.Now later)) (refused reply.ClockEnd)).entry ≡ log_given shape past
      by true = refl
      by false = refl

  pub ticked-notes : (c : ℕ) → diary shape c (d ∷ past) ≡ Ticked (moment shape past + (due - moment shape past)) ∷ diary shape c past
  ticked-notes c =
      notes-next shape c past d legal
      ∙ (λ i. cond (restarts c (a i)) [] (notes_taken c (a i) (ticked-reply i) (moment shape past) (log_given shape (d ∷ past)) (diary shape c past) ++ diary shape c past))
