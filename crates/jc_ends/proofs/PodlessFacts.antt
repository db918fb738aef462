-- A settle without pods comes to rest.
use Rattle.std.proofs.Common.{◌≡◌, ℕ, zero, suc, ◌+◌, ◌<◌, Bool, true, false, ◌||◌, List, ◌∷◌, ◌++◌, Option, Some, None, refl, sym, ap, ◌∙◌, subst, true≢false, ◌⊎◌, inl, inr}
use Rattle.jc_types.specs.declared.objects.Entry.{Entry}
use Rattle.jc_types.specs.declared.objects.Job.{Job}
use Rattle.jc_types.specs.declared.runs.Shape.{Shape}
use Rattle.jc_types.specs.declared.runs.Sys.{Sys}
use Rattle.jc_types.specs.declared.runs.Sys.TheVariants as sys
use Rattle.jc_types.specs.declared.statuses.JobStatus.{JobStatus}
use Rattle.jc_states.specs.declared.bases.Basis.{Basis}
use Rattle.jc_log.specs.Deeds.{Deed, act_of_system}
use Rattle.jc_log.specs.Range.{IsMoment}
use Rattle.jc_history.specs.Legal.{IsLegal}
use Rattle.jc_history.specs.Notes.{Note}
use Rattle.jc_runs.specs.Machines.{AllAskValid, AsksValid}
use Rattle.jc_settle.specs.Settles.{CalmsDown, ComesToRest, IsCalm, next_of_settle, settled_on, with_next}
use Rattle.jc_settle.proofs.CalmFacts.{calms-down}
use Rattle.jc_settle.proofs.OnFacts.{next-is, on-adds, on-legal, on-some, rest-earlier}
use Rattle.jc_calm.specs.SettleTurns.{Asks, AsksForAPod, BeginsAlone, ClockMoves, Fails, Finds, EndsAtOnce, MeetsFault, MovesTheClock, NodeActs, Rests, Turn, Writes, WritesAndAsks, WritesStatus, WritesNoMore, asks_for_a_pod, is_node}
use Rattle.jc_calm.proofs.GoFacts.{goes-on}
use Rattle.jc_ends.specs.Podless.{LeavesPods}
use Rattle.jc_ends.proofs.Descent.{Falls, InFaults, Lowers, holds-of-all}
use Rattle.jc_ends.proofs.FallFacts.{FallWithTurns, count_of}
use Rattle.jc_ends.proofs.TidyFacts.{Stay}
use Rattle.jc_ends.proofs.TurnFalls.{clock-falls, finds-falls, writes-falls}

-- ---- what stays so in a settle

valid-event : (x : Sys) → AsksValid (act_of_system x)
valid-event (sys.List c kind) = tt
valid-event (sys.Deliver c kind) = tt
valid-event (sys.Begin c w) = tt
valid-event (sys.Step c w) = tt
valid-event sys.Node = tt
valid-event (sys.Clock add) = tt

on-valid : (shape : Shape) (n : ℕ) (past : List Deed) → AllAskValid past → AllAskValid (settled_on shape n past)
on-valid shape zero past valid = valid
on-valid shape (suc n) past valid = on-valid shape n (with_next (next_of_settle shape past) past) (by (next_of_settle shape past) refl)
  where
    by : (o : Option Deed) → next_of_settle shape past ≡ o → AllAskValid (with_next o past)
    by None e = valid
    by (Some d) e = let x = next-is shape past d e in (subst AsksValid (ap (λ (y : Deed). y.act) x.is) (valid-event x.comes), valid)

on-leaves : (shape : Shape) (n : ℕ) (past : List Deed) → LeavesPods shape past → LeavesPods shape (settled_on shape n past)
on-leaves shape n past h events d e = h (n + events) d (ap (next_of_settle shape) (on-adds shape n events past) ∙ e)

-- A calm state from which a settle goes on without pods.
pub record Goes (shape : Shape) (past : List Deed) : Type 0 where
  pub legal : IsLegal shape past
  pub valid : AllAskValid past
  pub leaves : LeavesPods shape past
  pub calm : IsCalm shape past

goes-to : (shape : Shape) (n : ℕ) (past now : List Deed) → settled_on shape n past ≡ now → IsLegal shape past → AllAskValid past → LeavesPods shape past → IsCalm shape now → Goes shape now
goes-to shape n past now is legal valid leaves calm = record {
  legal = subst (IsLegal shape) is (on-legal shape n past legal);
  valid = subst AllAskValid is (on-valid shape n past valid);
  leaves = subst (LeavesPods shape) is (on-leaves shape n past leaves);
  calm = calm;
}

-- ---- each turn lowers the count

module _ (statuses : ℕ → List Entry → ℕ) (moments keys : ℕ → List Entry → List Note → ℕ) (known : FallWithTurns statuses moments keys) (stay : Stay) (shape : Shape) (some : 0 < shape.workers) (start : IsMoment shape.start) where
  abbrev LowersAt : List Deed → Type 0
  LowersAt = Lowers (count_of statuses moments keys shape) (Goes shape) (ComesToRest shape)

  -- What a later state gives.
  lowers : (past : List Deed) → Goes shape past → (n : ℕ) (now : List Deed) → settled_on shape n past ≡ now → IsCalm shape now → Falls (count_of statuses moments keys shape past) (count_of statuses moments keys shape now) → LowersAt past
  lowers past g n now is calm falls = record {
    next = now;
    goes = goes-to shape n past now is g.legal g.valid g.leaves calm;
    falls = falls;
    back = λ rests. rest-earlier shape n past (subst (ComesToRest shape) (sym is) rests);
  }

  module _ (past : List Deed) (g : Goes shape past) where
    clock : (d : Deed) (due : ℕ) → MovesTheClock shape past d due → LowersAt past
    clock d due h = lowers past g 1 (d ∷ past) (on-some shape 0 past d h.next) h.calm (clock-falls statuses moments keys known stay shape start past g.legal g.valid d due h)

    module _ (c w : ℕ) (basis : Basis) (begin : Deed) (b : BeginsAlone shape past c w basis begin) where
      finds : (end : Deed) → EndsAtOnce shape past c w basis begin end → LowersAt past
      finds end h = lowers past g 2 (end ∷ begin ∷ past) h.after h.calm (finds-falls statuses moments keys known stay shape start past g.legal g.valid c w basis begin b end h)

      writes : (job : Job) (status : JobStatus) (write : Deed) → WritesStatus shape past c w basis job status begin write → WritesNoMore shape past basis job status → LowersAt past
      writes job status write h m =
          lowers past g m.events (settled_on shape m.events past) refl m.calm
          (writes-falls statuses moments keys known stay shape start past g.legal g.valid c w basis begin b job status write h m)

      fails : (failed : Deed) → MeetsFault shape past c w begin failed → LowersAt past
      fails failed h = lowers past g h.events (settled_on shape h.events past) refl h.calm (InFaults h.fewer)

    -- ---- which

    no-pod : AsksForAPod shape past → ⊥
    no-pod h = true≢false (sym (or-right (is_node h.ask.act) h.asks) ∙ g.leaves h.events h.ask h.next)
      where
        or-right : (b : Bool) {t : Bool} → t ≡ true → (b || t) ≡ true
        or-right true e = refl
        or-right false e = e

    one-turn : ComesToRest shape past ⊎ LowersAt past
    one-turn = by (goes-on shape past some start g.legal g.calm)
      where
        by : Turn shape past → ComesToRest shape past ⊎ LowersAt past
        by (Rests rests) = inl (record { events = 0; rests = rests })
        by (NodeActs d e a) = absurd (true≢false (sym (ap (λ t. t || asks_for_a_pod d.reply) (ap is_node a)) ∙ g.leaves 0 d e))
        by (ClockMoves d due h) = inr (clock d due h)
        by (Finds c w basis begin end b h) = inr (finds c w basis begin b end h)
        by (Asks c w basis begin b none h at asked) = absurd (no-pod h)
        by (WritesAndAsks c w basis job status begin write b h asks asked) = absurd (no-pod asks)
        by (Writes c w basis job status begin write b h m) = inr (writes c w basis begin b job status write h m)
        by (Fails c w basis begin failed b h) = inr (fails c w basis begin b failed h)

  calm-ends : (past : List Deed) → Goes shape past → ComesToRest shape past
  calm-ends = holds-of-all (count_of statuses moments keys shape) (Goes shape) (ComesToRest shape) one-turn

  pub podless-ends : (past : List Deed) → IsLegal shape past → AllAskValid past → LeavesPods shape past → ComesToRest shape past
  podless-ends past legal valid leaves = by (calms-down shape some past legal)
    where
      by : CalmsDown shape past → ComesToRest shape past
      by h = rest-earlier shape h.events past (subst (ComesToRest shape) (sym h.are) (calm-ends (h.run ++ past) (goes-to shape h.events past (h.run ++ past) h.are legal valid leaves h.calm)))
