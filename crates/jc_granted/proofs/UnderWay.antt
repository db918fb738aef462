-- A sync under way in a legal history, as the machine has it.
use Rattle.std.proofs.Common.{◌≡◌, ℕ, ◌<◌, List, [], ◌∷◌, ◌++◌, length, slice_get, Option, Some, None, is_some, refl, sym, ap, ◌∙◌, subst, arith, true≢false}
use Rattle.std.specs.Prelude.{drop}
use Rattle.std.specs.List.{AllByRecursion as Each}
use Rattle.std.specs.Option.{option_map, unwrap_or}
use Rattle.jc_types.specs.declared.actions.Fault.{Fault}
use Rattle.jc_types.specs.declared.numbers.Version.{Version}
use Rattle.jc_types.specs.declared.replies.Answer.{Answer}
use Rattle.jc_types.specs.declared.replies.Request.{Request}
use Rattle.jc_types.specs.declared.runs.Shape.{Shape}
use Rattle.jc_states.specs.declared.bases.Basis.{Basis}
use Rattle.jc_log.specs.Deeds.{Deed}
use Rattle.jc_history.specs.Diaries.{notes}
use Rattle.jc_history.specs.Registers.{register}
use Rattle.jc_history.specs.Replies.{diary, log_given}
use Rattle.jc_ledger.proofs.FrameFacts.{AllFly-one}
use Rattle.jc_plan.specs.Plans.{planned}
use Rattle.jc_plan.specs.declared.plans.Planned.{Planned}
use Rattle.jc_sync.specs.Ask.{Ask}
use Rattle.jc_sync.specs.Flights.{Flies}
use Rattle.jc_sync.specs.Leftovers.{IsLeftBy}
use Rattle.jc_sync.specs.Readings.{gone_in, requests, steps_of}
use Rattle.jc_sync.specs.AllRegisters.{IsRegister, flights_of_all, put_at, register_at}
use Rattle.jc_sync.specs.Sends.{sends_of}
use Rattle.jc_sync.specs.Steps.{Sync}
use Rattle.jc_sync.proofs.RegisterFacts.{Around, around}
use Rattle.jc_runs.specs.Machines.{IsTeam}
use Rattle.jc_runs.specs.Teams.{Team, registers_of}
use Rattle.jc_runs.proofs.LegalRuns.{Machine}
use Rattle.jc_runs.proofs.ListFacts.{missing, register_there}
use Rattle.jc_granted.specs.SyncsDone.{IsDoing}
use Rattle.jc_granted.specs.Ready.{AreReady, IsReady, NoneTwice}

-- ---- what is left is told by the steps

dropped : {A : Type 0} (xs ys : List A) → drop (length xs) (xs ++ ys) ≡ ys
dropped [] ys = refl
dropped (x ∷ xs) ys = dropped xs ys

pub left-told : (plan : Planned) (steps : List (Request × Answer)) (left : List Ask) → IsLeftBy plan steps left → drop (length steps) (requests plan (gone_in steps)) ≡ left
left-told plan steps left h = (λ i. drop (sym h.count i) (sym h.is i)) ∙ dropped h.made left

-- ---- the sync of a register

at-index : {A : Type 0} (xs : List A) (i : ℕ) → i < length xs → (x : A) × (slice_get xs i ≡ Some x)
at-index {A} xs i less = by (slice_get xs i) refl
  where
    by : (o : Option A) → slice_get xs i ≡ o → (x : A) × (slice_get xs i ≡ Some x)
    by None e = absurd (missing xs i less e)
    by (Some x) e = (x, e)

-- The controller, and the worker's sync of this basis with its fault.
pub record IsUnderWay (shape : Shape) (past : List Deed) (m : Machine shape past) (c w : ℕ) (basis : Basis) : Type 0 where
  pub team : Team
  pub there : slice_get m.teams c ≡ Some team
  pub fault : Option Fault
  pub fault_is : slice_get team.faults w ≡ Some fault
  pub sync : Sync
  pub mine : slice_get team.registers w ≡ Some (Some sync)
  pub in_register : register_at c w (registers_of m.teams) ≡ Some (Some sync)
  pub of_basis : sync.flight.basis ≡ basis
  pub known : IsRegister c w past sync
  pub flies : Flies m.log sync.flight

module _ (shape : Shape) (past : List Deed) (m : Machine shape past) (c w : ℕ) (basis : Basis) (lt : c < shape.controllers) (less : w < shape.workers) (begun : register w (diary shape c past) ≡ Some basis) where
  one : (team : Team) × (slice_get m.teams c ≡ Some team)
  one = at-index m.teams c (let count = m.run.count in omega (arith, count, lt))

  its : IsTeam shape past m.log c one.0
  its = m.run.each c one.0 one.1

  r : (o : Option Sync) × (slice_get one.0.registers w ≡ Some o)
  r = at-index one.0.registers w (let count = its.count in omega (arith, count, less))

  f : (fault : Option Fault) × (slice_get one.0.faults w ≡ Some fault)
  f = at-index one.0.faults w (let count = its.faults in omega (arith, count, less))

  basis-is : (o : Option Sync) → slice_get one.0.registers w ≡ Some o → option_map (λ (s : Sync). s.flight.basis) o ≡ Some basis
  basis-is o q = sym (its.workers.syncs w o q) ∙ ap (λ log. register w (notes shape c past log)) m.run.log_is ∙ begun

  flies-one : (sync : Sync) → register_at c w (registers_of m.teams) ≡ Some (Some sync) → Flies m.log sync.flight
  flies-one sync at = by (around c w (registers_of m.teams) (Some sync) at)
    where
      by : Around (flights_of_all (registers_of m.teams)) (λ new. flights_of_all (put_at c w new (registers_of m.teams))) (Some sync) → Flies m.log sync.flight
      by a = AllFly-one m.log a.front a.back sync.flight (subst (λ l. Each (Flies m.log) l) a.is m.run.syncs.tied.flying)

  pub under-way : IsUnderWay shape past m c w basis
  under-way = by r.0 r.1
    where
      with-it : (sync : Sync) → slice_get one.0.registers w ≡ Some (Some sync) → register_at c w (registers_of m.teams) ≡ Some (Some sync) → IsUnderWay shape past m c w basis
      with-it sync mine at = record {
        team = one.0;
        there = one.1;
        fault = f.0;
        fault_is = f.1;
        sync = sync;
        mine = mine;
        in_register = at;
        of_basis = ap (λ (o : Option Basis). unwrap_or o basis) (basis-is (Some sync) mine);
        known = m.run.syncs.each c w sync at;
        flies = flies-one sync at;
      }

      by : (o : Option Sync) → slice_get one.0.registers w ≡ Some o → IsUnderWay shape past m c w basis
      by None q = absurd (true≢false (sym (ap is_some (basis-is None q))))
      by (Some sync) q = with-it sync q (register_there m.teams c one.0 one.0 one.1 w (Some sync) q)

-- ---- it goes on

-- The sync of this basis, as its steps tell it, has requests left that find what they ask for.
pub record IsGoing (shape : Shape) (c w : ℕ) (basis : Basis) (past : List Deed) : Type 0 where
  pub sync : Sync
  pub of_basis : sync.flight.basis ≡ basis
  pub reads : IsLeftBy (planned sync.flight.basis) (steps_of c w past) sync.left
  pub sends : sync.flight.sends ≡ sends_of sync.flight.basis (steps_of c w past)
  pub ready : AreReady (log_given shape past) sync.flight sync.left
  pub doing : IsDoing (log_given shape past) sync.flight.basis sync.left

-- What holds of it holds of any that its steps tell.
pub same-sync : (P : Basis → Version → List Ask → Type 0) → (shape : Shape) (c w : ℕ) (basis : Basis) (past : List Deed) (sync : Sync) → sync.flight.basis ≡ basis → IsRegister c w past sync → (h : IsGoing shape c w basis past)
    → P h.sync.flight.basis h.sync.flight.sends h.sync.left → P sync.flight.basis sync.flight.sends sync.left
same-sync P shape c w basis past sync of known h = by sync.flight.basis sync.flight.sends sync.left of known.sends (left-told (planned sync.flight.basis) (steps_of c w past) sync.left known.reads)
  where
    left-at : Basis → List Ask
    left-at b = drop (length (steps_of c w past)) (requests (planned b) (gone_in (steps_of c w past)))

    by : (b : Basis) (sends : Version) (left : List Ask) → b ≡ basis → sends ≡ sends_of b (steps_of c w past) → left-at b ≡ left → P h.sync.flight.basis h.sync.flight.sends h.sync.left → P b sends left
    by b sends left is sent told =
        let same : h.sync.flight.basis ≡ b = h.of_basis ∙ sym is in
        let sends-same : h.sync.flight.sends ≡ sends = h.sends ∙ ap (λ (x : Basis). sends_of x (steps_of c w past)) same ∙ sym sent in
        let left-same : h.sync.left ≡ left = sym (left-told (planned h.sync.flight.basis) (steps_of c w past) h.sync.left h.reads) ∙ ap left-at same ∙ told in
        λ x. subst (λ l. P b sends l) left-same (subst (λ v. P b v h.sync.left) sends-same (subst (λ y. P y h.sync.flight.sends h.sync.left) same x))

pub going-ready : (shape : Shape) (c w : ℕ) (basis : Basis) (past : List Deed) (sync : Sync) → sync.flight.basis ≡ basis → IsRegister c w past sync → IsGoing shape c w basis past → AreReady (log_given shape past) sync.flight sync.left
going-ready shape c w basis past sync of known h = record {
  each = same-sync (λ b v left. Each (IsReady (log_given shape past) b v) left) shape c w basis past sync of known h h.ready.each;
  apart = same-sync (λ b v left. NoneTwice left) shape c w basis past sync of known h h.ready.apart;
}

pub going-doing : (shape : Shape) (c w : ℕ) (basis : Basis) (past : List Deed) (sync : Sync) → sync.flight.basis ≡ basis → IsRegister c w past sync → IsGoing shape c w basis past → IsDoing (log_given shape past) sync.flight.basis sync.left
going-doing shape c w basis past sync of known h = same-sync (λ b v left. IsDoing (log_given shape past) b left) shape c w basis past sync of known h h.doing
