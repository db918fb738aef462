-- A settle ends: descent by the faults that are pending, by the pods that may be made, by what is left of those that are
-- there, and by what is still to come.
use Rattle.std.proofs.Common.{◌⊎◌, inl, inr, ℕ, ◌+◌, ◌<◌, ◌≤◌, List, ◌++◌, Option, ap, ◌∙◌, subst, arith}
use Rattle.std.specs.List.{AllByRecursion as Each}
use Rattle.jc_types.specs.declared.actions.End.{End}
use Rattle.jc_types.specs.declared.objects.KeyNames.{KeyNames as Key}
use Rattle.jc_types.specs.declared.runs.Shape.{Shape}
use Rattle.jc_log.specs.Deeds.{Deed}
use Rattle.jc_log.specs.Log.{pods_in}
use Rattle.jc_log.specs.Range.{IsMoment}
use Rattle.jc_runs.specs.Legal.{IsLegal}
use Rattle.jc_runs.specs.Machines.{AllAskValid}
use Rattle.jc_runs.specs.Replies.{log_given}
use Rattle.jc_settle.specs.Settles.{CalmsDown, ComesToRest, settled_on}
use Rattle.jc_settle.proofs.CalmFacts.{calms-down}
use Rattle.jc_settle.proofs.OnFacts.{on-adds, on-legal}
use Rattle.jc_calm.specs.SettleTurns.{faults_pending}
use Rattle.jc_counted.proofs.CountedFacts.{Stay}
use Rattle.jc_remaining.proofs.NodeTurns.{fates-then}
use Rattle.jc_remaining.proofs.OnwardFacts.{on-says}
use Rattle.jc_ends.proofs.Descent.{Lowers, holds-of-all}
use Rattle.jc_ends.proofs.TurnCounts.{coming_at}
use Rattle.jc_remaining.specs.Nodes.{fate}
use Rattle.jc_remaining.specs.Remaining.{HasEach, LastEndsCount}
use Rattle.jc_remaining.proofs.Sums.{has-each, keys_there}
use Rattle.jc_finite.proofs.Within.{AllWithin}
use Rattle.jc_finite.specs.Finite.{EndInTheEnd, StopInTheEnd}
use Rattle.jc_finite.proofs.LastFacts.{jobs-count}
use Rattle.jc_finite.proofs.NodeWithin.{begins-within, enough_restarts}
use Rattle.jc_finite.proofs.Strong.{by-descent}
use Rattle.jc_finite.proofs.StartFacts.{ends-stop}
use Rattle.jc_finite.proofs.StoppedFacts.{ComesOrHas, pods-come}
use Rattle.jc_finite.proofs.SuccessFacts.{never-out}
use Rattle.jc_finite.proofs.TurnKinds.{AtEnd, Ends, FewerFaults, FewerPods, IsFated, LessLeft, LessToCome, TurnKind, creations_at, ends-earlier, left_at, turn-kind}

module _ (stay : Stay) (shape : Shape) (fates : Key → Option (List End)) where
  abbrev Fated : List Deed → Type 0
  Fated past = IsFated stay shape fates past

  abbrev Over : List Deed → Type 0
  Over past = Ends shape past

  -- Up to so many faults, with these keys.
  module _ (most : ℕ) (by-faults : (now : List Deed) → faults_pending shape now < most → Fated now → Over now) (keys : List Key) where
    abbrev creations : List Deed → ℕ
    creations past = creations_at stay shape fates keys past

    record Has (past : List Deed) : Type 0 where
      fated : Fated past
      each : HasEach keys (log_given shape past)
      faults : faults_pending shape past ≤ most

    module _ (few : ℕ) (by-creations : (now : List Deed) → creations now < few → Has now → Over now) where
      -- Up to so many restarts after failures.
      module _ (bound : ℕ) where
        abbrev left : List Deed → ℕ
        left past = left_at stay shape fates keys bound past

        record Within (past : List Deed) : Type 0 where
          has : Has past
          creations_most : creations past ≤ few
          restarts : AllWithin shape past bound

        record Below (little : ℕ) (past : List Deed) : Type 0 where
          within : Within past
          left_most : left past ≤ little

        module _ (little : ℕ) (by-left : (now : List Deed) → left now < little → Within now → Over now) where
          one : (past : List Deed) → Below little past → Over past ⊎ Lowers (coming_at shape) (Below little) Over past
          one past h = by (turn-kind stay shape fates keys bound past h.within.has.fated h.within.has.each h.within.restarts)
            where
              by : TurnKind stay shape fates keys bound past → Over past ⊎ Lowers (coming_at shape) (Below little) Over past
              by (AtEnd over) = inl over
              by (FewerFaults now later fewer) =
                  let enough = h.within.has.faults in inl (later.back (by-faults now (omega (arith, fewer, enough)) later.fated))
              by (FewerPods now later each faults fewer) =
                  let enough = h.within.has.faults in let limit = h.within.creations_most in
                  inl (later.back (by-creations now (omega (arith, fewer, limit)) (record { fated = later.fated; each = each; faults = omega (arith, faults, enough) })))
              by (LessLeft now later within each faults same less) =
                  let enough = h.within.has.faults in let limit = h.within.creations_most in let rest = h.left_most in
                  inl (later.back (by-left now (omega (arith, less, rest))
                  (record { has = record { fated = later.fated; each = each; faults = omega (arith, faults, enough) }; creations_most = omega (arith, same, limit); restarts = within })))
              by (LessToCome now later within each faults same still falls) =
                  let enough = h.within.has.faults in let limit = h.within.creations_most in let rest = h.left_most in
                  inr (record {
                    next = now;
                    goes = record {
                      within = record {
                        has = record { fated = later.fated; each = each; faults = omega (arith, faults, enough) };
                        creations_most = omega (arith, same, limit);
                        restarts = within;
                      };
                      left_most = omega (arith, still, rest);
                    };
                    falls = falls;
                    back = later.back;
                  })

          by-coming : (past : List Deed) → Below little past → Over past
          by-coming = holds-of-all (coming_at shape) (Below little) Over one

        on-left : (past : List Deed) → Within past → Over past
        on-left = by-descent left Within Over (λ past h more. by-coming (left past) more past (record { within = h; left_most = omega arith }))

    on-creations : (past : List Deed) → Has past → Over past
    on-creations =
        by-descent creations Has Over
        (λ past h more.
        on-left (creations past) more (enough_restarts (log_given shape past)) past
        (record { has = h; creations_most = omega arith; restarts = begins-within shape past }))

  fated-ends : (past : List Deed) → Fated past → Over past
  fated-ends =
      by-descent (faults_pending shape) Fated Over
      (λ past h more. on-creations (faults_pending shape past) more (keys_there (log_given shape past)) past
      (record { fated = h; each = has-each (log_given shape past); faults = omega arith }))

pub settle-stops : Stay → (shape : Shape) (past : List Deed) → IsLegal shape past → AllAskValid past → 0 < shape.workers → IsMoment shape.start → StopInTheEnd shape past → Ends shape past
settle-stops stay shape past legal valid some start ends = by (calms-down shape some past legal)
  where
    by : CalmsDown shape past → Ends shape past
    by h = ends-earlier shape h.events past (h.run ++ past) h.are (fated-ends stay shape (fate past) (h.run ++ past) fated)
      where
        fated : IsFated stay shape (fate past) (h.run ++ past)
        fated = record {
          between = record {
            workers = some;
            start = start;
            legal = subst (IsLegal shape) h.are (on-legal shape h.events past legal);
            valid = subst AllAskValid h.are ((on-says shape h.events past).valid valid);
            calm = h.calm;
          };
          same = λ i key. fates-then shape past h.events (h.run ++ past) h.are key i;
          comes = λ events.
              subst (λ deeds. Each (ComesOrHas (fate past) (log_given shape deeds)) (pods_in (log_given shape deeds))) (on-adds shape h.events events past ∙ ap (settled_on shape events) h.are)
              (pods-come stay shape some past legal valid ends (h.events + events));
          lasts = λ events.
              subst (λ deeds. LastEndsCount (fate past) (log_given shape deeds)) (on-adds shape h.events events past ∙ ap (settled_on shape events) h.are)
              (jobs-count shape (fate past) past ends.lasts (h.events + events));
        }

-- Where no container restarts for ever, it comes to rest.
pub settle-ends : Stay → (shape : Shape) (past : List Deed) → IsLegal shape past → AllAskValid past → 0 < shape.workers → IsMoment shape.start → EndInTheEnd past → ComesToRest shape past
settle-ends stay shape past legal valid some start ends = by (settle-stops stay shape past legal valid some start (ends-stop shape past ends))
  where
    by : Ends shape past → ComesToRest shape past
    by (inl rests) = rests
    by (inr out) = absurd (never-out shape past ends out)
