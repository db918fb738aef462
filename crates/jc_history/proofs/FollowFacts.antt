-- A cluster follows its history from event to event: one lemma for the events that no controller notes, one for those of one.
use Rattle.std.proofs.Common.{◌≡◌, ℕ, zero, suc, List, [], ◌∷◌, set, slice_get, Option, Some, None, is_some, refl, sym, ap, subst, true≢false, arith, ◌⊎◌, inl, inr}
use Rattle.std.specs.Option.{unwrap_or}
use Rattle.jc_control.proofs.LawFacts.{grown as grown-holds}
use Rattle.jc_control.specs.Schedules.{ControllerView, MirrorsLog}
use Rattle.jc_types.specs.declared.objects.Entry.{Entry}
use Rattle.jc_types.specs.declared.runs.Shape.{Shape}
use Rattle.jc_log.specs.Requests.{grown}
use Rattle.jc_log.specs.Deeds.{Deed}
use Rattle.jc_history.specs.Agrees.{IsScheduleOf}
use Rattle.jc_history.specs.Diaries.{notes}
use Rattle.jc_history.specs.Follows.{Agrees, AllAgree, ClusterWorld, FollowsHistory, TakesNoNote, cluster_after}
use Rattle.jc_history.specs.Legal.{IsLegalNext}
use Rattle.jc_history.specs.Replies.{gives, log_given}
use Rattle.jc_history.proofs.DeedSteps.{untouched}

-- The caches of a controller follow a log that grows by one event.
pub holds-after : (shape : Shape) (past : List Deed) (d : Deed) (con : ControllerView) → MirrorsLog (log_given shape past) con → MirrorsLog (log_given shape (d ∷ past)) con
unfolding log_given
holds-after shape past d con h = by (gives shape past (log_given shape past) d.act).entry
  where
    by : (o : Option Entry) → MirrorsLog (grown (log_given shape past) o) con
    by None = h
    by (Some e) = grown-holds e (log_given shape past) con h

-- A controller that takes no note of the deed.
pub quiet-agrees : (w : ClusterWorld) (d : Deed) (cons : List ControllerView) (c : ℕ) (con : ControllerView) → FollowsHistory w
    → TakesNoNote w.shape w.deeds d c → Agrees w c con → Agrees (cluster_after d w cons) c con
quiet-agrees w d cons c con f q a = record {
  schedule = untouched w.shape c w.deeds d f.legal con.schedule q.goes_on q.nothing (subst (λ log. IsScheduleOf (notes w.shape c w.deeds log) con.schedule) f.log_is a.schedule);
  holds = holds-after w.shape w.deeds d con (subst (λ log. MirrorsLog log con) f.log_is a.holds);
}

-- What stands in a list with one element set.
pub set-cases : {A : Type 0} (xs : List A) (i c : ℕ) (x y : A) → slice_get (set xs i x) c ≡ Some y → ((c ≡ i) × (y ≡ x)) ⊎ ((c ≡ i → ⊥) × (slice_get xs c ≡ Some y))
set-cases [] i c x y e = inr (λ s. nothing c e, e)
  where
    nothing : (c : ℕ) → slice_get [] c ≡ Some y → ⊥
    nothing zero e = true≢false (sym (ap is_some e))
    nothing (suc c) e = true≢false (sym (ap is_some e))
set-cases (z ∷ xs) zero zero x y e = inl (refl, sym (ap (λ o. unwrap_or o x) e))
set-cases (z ∷ xs) zero (suc c) x y e = inr (λ s. omega (arith, s), e)
set-cases (z ∷ xs) (suc i) zero x y e = inr (λ s. omega (arith, s), e)
set-cases (z ∷ xs) (suc i) (suc c) x y e = by (set-cases xs i c x y e)
  where
    by : ((c ≡ i) × (y ≡ x)) ⊎ ((c ≡ i → ⊥) × (slice_get xs c ≡ Some y)) → ((suc c ≡ suc i) × (y ≡ x)) ⊎ ((suc c ≡ suc i → ⊥) × (slice_get (z ∷ xs) (suc c) ≡ Some y))
    by (inl h) = inl (ap suc h.0, h.1)
    by (inr h) = inr (λ s. h.0 (omega (arith, s)), h.1)

-- No controller takes note: commands to the store, and the node.
pub follows-store : (w : ClusterWorld) (d : Deed) → FollowsHistory w → IsLegalNext w.shape w.deeds d → ((c : ℕ) → TakesNoNote w.shape w.deeds d c)
    → FollowsHistory (cluster_after d w w.cons)
follows-store w d f next q = record {
  legal = (next, f.legal);
  log_is = refl;
  each = λ c con e. quiet-agrees w d w.cons c con f (q c) (f.each c con e);
}

-- One controller takes note: its list, delivery, begin, step or restart.
pub follows-one : (w : ClusterWorld) (d : Deed) (i : ℕ) (new : ControllerView) → FollowsHistory w → IsLegalNext w.shape w.deeds d
    → ((c : ℕ) → (c ≡ i → ⊥) → TakesNoNote w.shape w.deeds d c)
    → Agrees (cluster_after d w (set w.cons i new)) i new → FollowsHistory (cluster_after d w (set w.cons i new))
follows-one w d i new f next q a = record {
  legal = (next, f.legal);
  log_is = refl;
  each = λ c con e. by c con (set-cases w.cons i c new con e);
}
  where
    by : (c : ℕ) (con : ControllerView) → ((c ≡ i) × (con ≡ new)) ⊎ ((c ≡ i → ⊥) × (slice_get w.cons c ≡ Some con)) → Agrees (cluster_after d w (set w.cons i new)) c con
    by c con (inl h) = subst (λ j. Agrees (cluster_after d w (set w.cons i new)) j con) (sym h.0) (subst (Agrees (cluster_after d w (set w.cons i new)) i) (sym h.1) a)
    by c con (inr h) = quiet-agrees w d (set w.cons i new) c con f (q c h.0) (f.each c con h.1)

-- All controllers take note: the clock.
pub follows-all : (w : ClusterWorld) (d : Deed) (news : List ControllerView) → FollowsHistory w → IsLegalNext w.shape w.deeds d
    → AllAgree (cluster_after d w news) → FollowsHistory (cluster_after d w news)
follows-all w d news f next each = record { legal = (next, f.legal); log_is = refl; each = each }
