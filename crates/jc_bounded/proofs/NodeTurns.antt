-- A deed of the node in a calm state, and one of the clock: what is told of it behind, and how many pods are allowed then.
use Rattle.std.proofs.Common.{◌≡◌, ℕ, suc, ◌<◌, ◌≤◌, Bool, true, false, cond, ◌&&◌, List, [], ◌∷◌, ◌++◌, find, Option, Some, None, refl, sym, ap, ◌∙◌, subst, arith}
use Rattle.std.specs.List.{AllByRecursion as Each}
use Rattle.std.specs.Option.{unwrap_or}
use Rattle.jc_types.specs.Equality.{same_phase}
use Rattle.jc_types.specs.declared.actions.ContainerChange.{ContainerChange}
use Rattle.jc_types.specs.declared.actions.End.{End}
use Rattle.jc_types.specs.declared.actions.PhaseChange.{PhaseChange}
use Rattle.jc_types.specs.declared.numbers.Uid.{Uid}
use Rattle.jc_types.specs.declared.objects.Entry.{Entry}
use Rattle.jc_types.specs.declared.objects.Entry.TheVariants.{PodPut, PodGone}
use Rattle.jc_types.specs.declared.objects.Job.{Job}
use Rattle.jc_types.specs.declared.objects.KeyNames.{KeyNames as Key}
use Rattle.jc_types.specs.declared.objects.Phase.TheVariants.{Pending, Running}
use Rattle.jc_types.specs.declared.objects.Pod.{Pod}
use Rattle.jc_types.specs.declared.replies.Reply.{Reply}
use Rattle.jc_types.specs.declared.replies.Reply.TheVariants as reply
use Rattle.jc_types.specs.declared.runs.Shape.{Shape}
use Rattle.jc_log.specs.Acts as does
use Rattle.jc_log.specs.Deeds.{Deed}
use Rattle.jc_log.specs.Log.{job_in, pod_in}
use Rattle.jc_log.specs.Requests.{Answered, grown, is_unnamed, pod_entry, refused, report_phase_at, report_phase_gives, report_unless, same_course_of, with_report}
use Rattle.jc_history.proofs.LegalFacts.{notes-next}
use Rattle.jc_runs.specs.Diaries.{moment, notes_taken, restarts}
use Rattle.jc_runs.specs.Legal.{IsLegal}
use Rattle.jc_runs.specs.Machines.{AllAskValid}
use Rattle.jc_runs.specs.Pods.{goes, is_final}
use Rattle.jc_runs.specs.Registers.{pending, register}
use Rattle.jc_runs.specs.Replies.{diary, gives, log_given, node_gives}
use Rattle.jc_settle.specs.Settles.{CatchesUp, IsCalm, is_telling, next_of_settle, settled_on}
use Rattle.jc_settle.proofs.CatchFacts.{catches-up}
use Rattle.jc_settle.proofs.OnFacts.{next-legal, on-legal, on-some}
use Rattle.jc_calm.specs.SettleTurns.{MovesTheClock, faults_pending}
use Rattle.jc_calm.proofs.NowFacts.{faults-most}
use Rattle.jc_making.specs.Nodes.{NodeAct, change_by, fate, node_step}
use Rattle.jc_bearing.specs.AtMost.{pods_at_most}
use Rattle.jc_bearing.proofs.ReportFacts.{node-turn}
use Rattle.jc_counted.proofs.CountedFacts.{Stay, legal-counted}
use Rattle.jc_bounded.specs.Faultless.{AllowsNoMore, IsBetweenTurns, SucceedsAtLast, TurnsOver}
use Rattle.jc_bounded.proofs.OnwardFacts.{on-says}

-- ---- a report puts no Job

module _ (log : List Entry) (k : Key) where
  abbrev LeavesJob : Answered → Type 0
  LeavesJob answered = job_in k (grown log answered.entry) ≡ job_in k log

  unless-leaves : (b : Bool) (r : Reply) (a : Answered) → LeavesJob a → LeavesJob (cond b (refused r) a)
  unless-leaves true r a h = refl
  unless-leaves false r a h = h

  put-leaves : (pod : Pod) → job_in k (pod_entry pod ∷ log) ≡ job_in k log
  put-leaves pod = by (goes pod)
    where
      by : (b : Bool) → job_in k (cond b (PodGone pod) (PodPut pod) ∷ log) ≡ job_in k log
      by true = refl
      by false = refl

  report-leaves : (u : Uid) (change : PhaseChange) → LeavesJob (report_phase_gives log u change)
  report-leaves u change = by (pod_in u log)
    where
      unless : (pod : Pod) (o : Option ContainerChange) → LeavesJob (report_unless log pod change o)
      unless pod (Some unnamed) = refl
      unless pod None = unless-leaves (same_course_of pod (with_report log pod change)) (reply.Unchanged pod.version) _ (put-leaves (with_report log pod change))

      by : (o : Option Pod) → LeavesJob (report_phase_at log change o)
      by None = refl
      by (Some pod) =
          unless-leaves (is_final pod.phase) (reply.Final pod.phase) _
          (unless-leaves (same_phase pod.phase Running && same_phase change.phase Pending) (reply.BadStep Running Pending) _
          (unless pod (find (is_unnamed pod) change.containers)))

  node-leaves : (o : Option (Pod × NodeAct)) → LeavesJob (node_gives log o)
  node-leaves None = refl
  node-leaves (Some step) = report-leaves step.0.uid (change_by step.0 step.1)

pub node-jobs : (shape : Shape) (past : List Deed) (d : Deed) (k : Key) → d.act ≡ does.Node → job_in k (log_given shape (d ∷ past)) ≡ job_in k (log_given shape past)
unfolding log_given gives
node-jobs shape past d k a =
    ap (λ act. job_in k (grown (log_given shape past) (gives shape past (log_given shape past) act).entry)) a
    ∙ node-leaves (log_given shape past) k (node_step (log_given shape past) (fate past))

-- ---- the turns

-- The same state but for what the deed has done.
pub goes-to : (shape : Shape) (past : List Deed) (n : ℕ) (now : List Deed) → settled_on shape n past ≡ now → IsBetweenTurns shape past → IsCalm shape now → IsBetweenTurns shape now
goes-to shape past n now are f calm = record {
  workers = f.workers;
  start = f.start;
  legal = subst (IsLegal shape) are (on-legal shape n past f.legal);
  valid = subst AllAskValid are ((on-says shape n past).valid f.valid);
  calm = calm;
}

pub fates-then : (shape : Shape) (past : List Deed) (n : ℕ) (now : List Deed) → settled_on shape n past ≡ now → (k : Key) → fate now k ≡ fate past k
fates-then shape past n now are k = ap (λ deeds. fate deeds k) (sym are) ∙ (on-says shape n past).fates k

module _ (stay : Stay) (shape : Shape) (past : List Deed) (f : IsBetweenTurns shape past) (d : Deed) (e : next_of_settle shape past ≡ Some d) where
  module _ (a : d.act ≡ does.Node) where
    then-legal : IsLegal shape (d ∷ past)
    then-legal = (next-legal shape past d e, f.legal)

    node-notes : (c : ℕ) → diary shape c (d ∷ past) ≡ diary shape c past
    node-notes c =
        notes-next shape c past d f.legal
        ∙ ap (λ act. cond (restarts c act) [] (notes_taken c act d.reply (moment shape past) (log_given shape (d ∷ past)) (diary shape c past) ++ diary shape c past)) a

    -- The caches are told of it, and it is calm again.
    pub record IsToldOf : Type 0 where
      pub events : ℕ
      pub run : List Deed
      pub are : settled_on shape events past ≡ run ++ d ∷ past
      pub telling : Each (λ (x : Deed). is_telling x.act ≡ true) run
      pub some : 0 < events
      pub log_is : log_given shape (run ++ d ∷ past) ≡ log_given shape (d ∷ past)
      pub between : IsBetweenTurns shape (run ++ d ∷ past)
      pub faults : faults_pending shape (run ++ d ∷ past) ≤ faults_pending shape past

    pub node-told : IsToldOf
    node-told = by (catches-up shape f.workers (d ∷ past) then-legal)
      where
        by : CatchesUp shape (d ∷ past) → IsToldOf
        by u = record {
          events = suc u.events;
          run = u.run;
          are = are;
          telling = u.telling;
          some = omega arith;
          log_is = u.log_is;
          between =
              goes-to shape past (suc u.events) (u.run ++ d ∷ past) are f
              (record { caches = u.caches; free = λ c lt w less. (u.syncs c w).register_is ∙ ap (register w) (node-notes c) ∙ f.calm.free c lt w less });
          faults = faults-most shape past (u.run ++ d ∷ past) (λ c w. (u.syncs c w).pending_is ∙ ap (pending w) (node-notes c));
        }
          where
            are : settled_on shape (suc u.events) past ≡ u.run ++ d ∷ past
            are = on-some shape u.events past d e ∙ u.are

    pub node-turns : TurnsOver shape past
    node-turns = by node-told
      where
        by : IsToldOf → TurnsOver shape past
        by u = record {
          events = u.events;
          now = u.run ++ d ∷ past;
          are = u.are;
          some = u.some;
          between = u.between;
          faults = u.faults;
          fates = fates-then shape past u.events (u.run ++ d ∷ past) u.are;
          jobs = jobs;
        }
          where
            jobs : (ends : List End) (job : Job) → SucceedsAtLast shape past ends job → AllowsNoMore ends (log_given shape past) (log_given shape (u.run ++ d ∷ past)) job
            jobs ends job well = record {
              now = job;
              there = ap (job_in job.key) u.log_is ∙ node-jobs shape past d job.key a ∙ well.there;
              uid = refl;
              few = subst (λ log. pods_at_most ends log job ≤ pods_at_most ends (log_given shape past) job) (sym u.log_is)
                  (node-turn shape past d a ends job (ap (λ o. unwrap_or o []) well.fated) (legal-counted stay shape past f.legal f.valid job.key job well.there));
            }

  pub clock-turns : (due : ℕ) → MovesTheClock shape past d due → TurnsOver shape past
  clock-turns due h = record {
    events = 1;
    now = d ∷ past;
    are = are;
    some = omega arith;
    between = goes-to shape past 1 (d ∷ past) are f h.calm;
    faults = h.faults;
    fates = fates-then shape past 1 (d ∷ past) are;
    jobs = λ ends job well. record {
      now = job;
      there = ap (job_in job.key) h.log_is ∙ well.there;
      uid = refl;
      few = let same : pods_at_most ends (log_given shape (d ∷ past)) job ≡ pods_at_most ends (log_given shape past) job = ap (λ log. pods_at_most ends log job) h.log_is in omega (arith, same);
    };
  }
    where
      are : settled_on shape 1 past ≡ d ∷ past
      are = on-some shape 0 past d e
