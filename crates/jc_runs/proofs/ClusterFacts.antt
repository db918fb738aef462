-- What a contract sees of one more event.
use Rattle.std.proofs.Common.{◌≡◌, ℕ, ◌≤◌, ◌<◌, List, [], ◌∷◌, ◌++◌, length, reverse, sym, ap, ◌∙◌, subst, arith}
use Rattle.std.proofs.lemmas.List.{length-map, reverse-append}
use Rattle.std.specs.Prelude.{◌^◌, get_or, slice_get, Some}
use Rattle.std.proofs.lemmas.Option.{slice_get_read}
use Rattle.jc_types.specs.declared.actions.Script.{Script}
use Rattle.jc_types.specs.declared.objects.Entry.{Entry}
use Rattle.jc_types.specs.declared.runs.Event.{Event}
use Rattle.jc_types.specs.declared.runs.Past.{Past}
use Rattle.jc_types.specs.declared.runs.Shape.{Shape}
use Rattle.jc_log.specs.Acts.{Act}
use Rattle.jc_log.specs.Deeds.{act_of_event, deed}
use Rattle.jc_history.specs.Available.{is_quiescent}
use Rattle.jc_history.specs.Legal.{ComesNext, IsOfShape, MaySettle}
use Rattle.jc_history.specs.Replies.{log_given}
use Rattle.jc_runs.specs.Fates.{Fates}
use Rattle.jc_runs.specs.Machines.{IsMachine}
use Rattle.jc_runs.specs.Seen.{Admits, IsCluster, Seen, act_seen, deeds_in, deeds_seen, happened, log_seen, past_seen, reply_seen}
use Rattle.jc_runs.specs.Teams.{Team}

-- The newest stands first.
newest_first : (items mid new : List Past) (past : Past) → new ≡ mid ++ past ∷ [] → mid ≡ items → reverse new ≡ past ∷ reverse items
newest_first items mid new past e f = ap (λ (l : List Past). reverse l) (e ∙ ap (λ (l : List Past). l ++ past ∷ []) f) ∙ reverse-append items (past ∷ [])

module _ (script : Script) (shape : Shape) (items mid new : List Past) (past : Past) (log next : List Entry) (teams news : List Team) (fates ends : Fates) (now later : ℕ) (old : IsCluster script shape (reverse items) log teams fates now)
    (is : new ≡ mid ++ past ∷ []) (mid_is : mid ≡ items) (run : IsMachine shape (deed script past ∷ deeds_in script (reverse items)) next news ends later) where
  abbrev pub before : Seen
  before = record { script = script; shape = shape; pasts = reverse items }

  -- The invariant.
  pub closed : ComesNext script.commands (reverse items) past.event → length (reverse items) < shape.events → IsCluster script shape (reverse new) next news ends later
  closed comes room =
      subst (λ pasts. IsCluster script shape pasts next news ends later) (sym (newest_first items mid new past is mid_is))
      (record { run = run; lanes = (comes, old.lanes); few = omega (arith, room); fine = old.fine; bound = old.bound })

  past_is : past ≡ past_seen before past.event
  unfolding log_given
  past_is = λ i. record { event = past.event; reply = run.legal.0.reply i; length = record { 0 = run.legal.0.length i } }

  -- What a contract sees.
  module _ (seen : Seen) (view : seen ≡ record { script = script; shape = shape; pasts = reverse items }) where
    pub seen_after : record { script = script; shape = shape; pasts = reverse new } ≡ happened seen past.event
    seen_after = (λ i. record { script = script; shape = shape; pasts = (newest_first items mid new past is mid_is ∙ ap (λ p. p ∷ reverse items) past_is) i }) ∙ ap (λ s. happened s past.event) (sym view)

    pub reply_is : past.reply ≡ reply_seen seen past.event
    reply_is = run.legal.0.reply ∙ ap (λ s. reply_seen s past.event) (sym view)

    pub closed_by : Admits seen past.event → length seen.pasts < seen.shape.events → IsCluster script shape (reverse new) next news ends later
    closed_by admits room = closed (subst (λ (s : Seen). ComesNext s.script.commands s.pasts past.event) view admits.next) (subst (λ (s : Seen). length s.pasts < s.shape.events) view room)

-- What a contract asks of an event, of the fields.
module _ (script : Script) (shape : Shape) (items : List Past) (event : Event) (seen : Seen) (view : seen ≡ record { script = script; shape = shape; pasts = reverse items }) (admits : Admits seen event) where
  pub act_is : (act : Act) → act_seen seen event ≡ act → act_of_event script.commands event ≡ act
  act_is act e = ap (λ (s : Seen). act_seen s event) (sym view) ∙ e

  pub within_is : IsOfShape shape (act_of_event script.commands event)
  within_is = subst (λ (s : Seen). IsOfShape s.shape (act_seen s event)) view admits.within

  pub settled_is : MaySettle (act_of_event script.commands event) (is_quiescent shape (deeds_in script (reverse items)) (log_given shape (deeds_in script (reverse items))))
  settled_is = subst (λ (s : Seen). MaySettle (act_seen s event) (is_quiescent s.shape (deeds_seen s) (log_seen s))) view admits.settled

-- The member that the code takes.
pub member_at : (teams : List Team) (i : ℕ) (team : Team) (n : ℕ) → i < n → n ≡ length teams → team ≡ get_or teams i team → slice_get teams i ≡ Some team
member_at teams i team n within is at = slice_get_read teams n i team is within at

-- The log is short.
pub few_entries : (script : Script) (shape : Shape) (pasts : List Past) (log : List Entry) (teams : List Team) (fates : Fates) (now : ℕ) → IsCluster script shape pasts log teams fates now → length log < 2 ^ 31
few_entries script shape pasts log teams fates now c =
    let short = c.run.short in
    let count = length-map pasts (deed script) in
    let few = c.few in
    let bound = c.bound in
    omega (arith, short, count, few, bound)

-- So is the history.
pub few_deeds : (script : Script) (shape : Shape) (pasts : List Past) (log : List Entry) (teams : List Team) (fates : Fates) (now : ℕ) → IsCluster script shape pasts log teams fates now → length (deeds_in script pasts) ≤ 200000
few_deeds script shape pasts log teams fates now c =
    let count = length-map pasts (deed script) in
    let few = c.few in
    let bound = c.bound in
    omega (arith, count, few, bound)
