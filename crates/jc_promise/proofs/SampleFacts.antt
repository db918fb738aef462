-- The histories that show of what is said: worked out.
use Rattle.std.proofs.Common.{◌≡◌, Bool, true, false, not, ◌&&◌, List, [], ◌∷◌, ◌++◌, drop, take, Option, Some, None, is_some, refl, sym, ap, ◌∙◌, arith, true≢false}
use Rattle.std.proofs.lemmas.List.{take-append-drop}
use Rattle.std.specs.Option.{option_map, option_map_or, unwrap_or}
use Rattle.jc_types.specs.declared.objects.Entry.{Entry}
use Rattle.jc_types.specs.declared.objects.Entry.TheVariants.{JobPut, JobGone, PodPut, PodGone}
use Rattle.jc_types.specs.declared.objects.Job.{Job}
use Rattle.jc_types.specs.declared.objects.Pod.{Pod}
use Rattle.jc_types.specs.declared.replies.Reply.TheVariants.{Ended}
use Rattle.jc_types.specs.declared.runs.Shape.{Shape}
use Rattle.jc_causes.specs.Conditions.{has_end}
use Rattle.jc_rest.specs.Owners.{is_foreign}
use Rattle.jc_plan.specs.Accounts.{counted_in, counted_out}
use Rattle.jc_plan.specs.Backoffs.{pause}
use Rattle.jc_plan.specs.Failures.{failing_in, failures_in}
use Rattle.jc_plan.specs.Plans.{planned}
use Rattle.jc_plan.specs.Statuses.{first_value, second_value}
use Rattle.jc_log.specs.Acts as does
use Rattle.jc_log.specs.Deeds.{Deed}
use Rattle.jc_log.specs.Log.{Life, Gone, Live, Never, is_never, job_in, life, pod_in, upto}
use Rattle.jc_log.specs.Requests.{grown}
use Rattle.jc_history.specs.Available.{available, is_empty, is_quiescent}
use Rattle.jc_history.specs.Legal.{IsLegal}
use Rattle.jc_history.specs.Play.{brought_up, event_played, settled_down, stepped_through, whole_play}
use Rattle.jc_history.specs.Replies.{diary, gives, log_given}
use Rattle.jc_history.specs.Samples.{pi_key, pod_made, sample_spec, status_written, uid_of, usual_shape, version_at}
use Rattle.jc_history.specs.SampleScripts.{one_pod_script}
use Rattle.jc_rest.specs.Orphans.{is_sure_of, last_about}
use Rattle.jc_rest.specs.Stuck.{is_sure}
use Rattle.jc_order.specs.Plays.{IsScriptFor}
use Rattle.jc_promise.specs.Wrong.{job_is_made, pi_job, sync_begins, sync_steps}
use Rattle.jc_promise.specs.WrongRests.{both_list}
use Rattle.jc_promise.specs.SomeDeeds.{FindsEnd, MakesPod, SomeDeed, SomeSync, one_pod_deeds, orphan_deeds, orphan_script, quiet_deeds, waiting_deeds, waiting_script}
use Rattle.jc_order.proofs.PlayFacts.{plays-whole}

-- ---- the history is legal

proper : IsScriptFor one_pod_script usual_shape
unfolding one_pod_script
proper = (tt, ((omega arith, omega arith), (tt, ((omega arith, omega arith), tt))))

pub one_pod-legal : IsLegal usual_shape one_pod_deeds
one_pod-legal = (plays-whole one_pod_script usual_shape proper).plays.legal

-- ---- its pod is made

never-is : (x : Life) → is_never x ≡ true → x ≡ Never
never-is Never e = refl
never-is (Live pod) e = absurd (true≢false (sym e))
never-is Gone e = absurd (true≢false (sym e))

abbrev tail_of : List Entry → List Entry
tail_of [] = []
tail_of (e ∷ older) = older

-- A pod that is in the log came into it with a deed.
module _ (shape : Shape) (pod : Pod) (older : List Entry) (new : life pod.uid older ≡ Never) where
  nothing : (newer : List Entry) → [] ≡ newer ++ PodPut pod ∷ older → ⊥
  nothing [] e = true≢false (ap is_empty e)
  nothing (x ∷ newer) e = true≢false (ap is_empty e)

  more : (d : Deed) (past : List Deed) → SomeDeed (MakesPod shape) past → SomeDeed (MakesPod shape) (d ∷ past)
  more d past some = record { later = d ∷ some.later; past = some.past; d = some.d; parts = ap (λ (l : List Deed). d ∷ l) some.parts; holds = some.holds }

  one-more : (d : Deed) (past : List Deed) (o : Option Entry) → log_given shape (d ∷ past) ≡ grown (log_given shape past) o → ((newer : List Entry) → log_given shape past ≡ newer ++ PodPut pod ∷ older → SomeDeed (MakesPod shape) past)
      → (newer : List Entry) → grown (log_given shape past) o ≡ newer ++ PodPut pod ∷ older → SomeDeed (MakesPod shape) (d ∷ past)
  one-more d past None is before newer e = more d past (before newer e)
  one-more d past (Some x) is before [] e = record {
    later = [];
    past = past;
    d = d;
    parts = refl;
    holds = record {
      pod = pod;
      put = is ∙ e ∙ ap (λ (l : List Entry). PodPut pod ∷ l) (sym (ap tail_of e));
      new = ap (life pod.uid) (ap tail_of e) ∙ new;
    };
  }
  one-more d past (Some x) is before (y ∷ newer) e = more d past (before newer (ap tail_of e))

  came : (deeds : List Deed) (newer : List Entry) → log_given shape deeds ≡ newer ++ PodPut pod ∷ older → SomeDeed (MakesPod shape) deeds
  unfolding log_given
  came [] newer e = absurd (nothing newer e)
  came (d ∷ past) newer e = one-more d past (gives shape past (log_given shape past) d.act).entry refl (came past) newer e

-- The newest entry makes a pod.
abbrev is_making : List Entry → Bool
is_making (PodPut pod ∷ older) = is_never (life pod.uid older)
is_making other = false

came-of : (shape : Shape) (deeds : List Deed) (newer log : List Entry) → is_making log ≡ true → log_given shape deeds ≡ newer ++ log → SomeDeed (MakesPod shape) deeds
came-of shape deeds newer [] makes e = absurd (true≢false (sym makes))
came-of shape deeds newer (PodPut pod ∷ older) makes e = came shape pod older (never-is (life pod.uid older) makes) deeds newer e
came-of shape deeds newer (PodGone pod ∷ older) makes e = absurd (true≢false (sym makes))
came-of shape deeds newer (JobPut job ∷ older) makes e = absurd (true≢false (sym makes))
came-of shape deeds newer (JobGone job ∷ older) makes e = absurd (true≢false (sym makes))

-- The log of the play.
abbrev one_pod_log : List Entry
one_pod_log = (whole_play one_pod_script usual_shape).log

making : is_making (drop 5 one_pod_log) ≡ true
unfolding failing_in failures_in whole_play brought_up stepped_through settled_down event_played gives planned first_value second_value counted_in counted_out pause available one_pod_script
making = refl

pub one_pod-made : SomeDeed (MakesPod usual_shape) one_pod_deeds
one_pod-made =
    came-of usual_shape one_pod_deeds (take 5 one_pod_log) (drop 5 one_pod_log) making
    (sym (plays-whole one_pod_script usual_shape proper).plays.log_is ∙ sym (take-append-drop 5 one_pod_log))

-- ---- its Job ends

-- The last deed is the end of the sync that has ended the Job.
found : (past : List Deed) (d : Deed) (o : Option Job) → job_in pi_key (log_given usual_shape past) ≡ o → option_map (λ (job : Job). has_end job.status.conditions) o ≡ Some true → FindsEnd usual_shape past d
found past d None there ended = absurd (true≢false (sym (ap is_some ended)))
found past d (Some job) there ended = record { key = pi_key; job = job; there = there; ended = ap (λ o. unwrap_or o false) ended }

ended-then : option_map (λ (job : Job). has_end job.status.conditions) (job_in pi_key (log_given usual_shape (drop 1 one_pod_deeds))) ≡ Some true
unfolding failing_in failures_in whole_play brought_up stepped_through settled_down event_played gives log_given planned first_value second_value counted_in counted_out pause available one_pod_script
ended-then = refl

abbrev last : Deed
last = record { lane = None; act = does.Step 0 0; reply = Ended; length = version_at 7 }

parted : one_pod_deeds ≡ last ∷ drop 1 one_pod_deeds
unfolding failing_in failures_in whole_play brought_up stepped_through settled_down event_played gives planned first_value second_value counted_in counted_out pause available one_pod_script
parted = refl

pub one_pod-ends : SomeDeed (FindsEnd usual_shape) one_pod_deeds
one_pod-ends = record {
  later = [];
  past = drop 1 one_pod_deeds;
  d = last;
  parts = parted;
  holds = found (drop 1 one_pod_deeds) last (job_in pi_key (log_given usual_shape (drop 1 one_pod_deeds))) refl ended-then;
}

-- ---- a Job that waits

proper-waiting : IsScriptFor waiting_script usual_shape
unfolding waiting_script
proper-waiting = (tt, (tt, tt))

pub waiting-legal : IsLegal usual_shape waiting_deeds
waiting-legal = (plays-whole waiting_script usual_shape proper-waiting).plays.legal

pub waiting-rests : is_quiescent usual_shape waiting_deeds (log_given usual_shape waiting_deeds) ≡ true
unfolding failing_in failures_in whole_play brought_up stepped_through settled_down event_played gives log_given planned first_value second_value counted_in counted_out pause available waiting_script
waiting-rests = refl

pub waiting-sure : is_sure pi_key (diary usual_shape 0 waiting_deeds) ≡ true
unfolding failing_in failures_in whole_play brought_up stepped_through settled_down event_played gives log_given planned first_value second_value counted_in counted_out pause available waiting_script
waiting-sure = refl

pub waiting-unended : option_map (λ (job : Job). has_end job.status.conditions) (job_in pi_key (log_given usual_shape waiting_deeds)) ≡ Some false
unfolding failing_in failures_in whole_play brought_up stepped_through settled_down event_played gives log_given planned first_value second_value counted_in counted_out pause available waiting_script
waiting-unended = refl

-- ---- an orphan

proper-orphan : IsScriptFor orphan_script usual_shape
unfolding orphan_script
proper-orphan = (tt, ((omega arith, omega arith), (tt, (tt, tt))))

pub orphan-legal : IsLegal usual_shape orphan_deeds
orphan-legal = (plays-whole orphan_script usual_shape proper-orphan).plays.legal

pub orphan-rests : is_quiescent usual_shape orphan_deeds (log_given usual_shape orphan_deeds) ≡ true
unfolding failing_in failures_in whole_play brought_up stepped_through settled_down event_played gives log_given planned first_value second_value counted_in counted_out pause available orphan_script
orphan-rests = refl

pub orphan-released : option_map_or (λ (pod : Pod). is_foreign (job_in pod.owner (log_given usual_shape orphan_deeds)) pod && not pod.tracked) (pod_in (uid_of 2) (log_given usual_shape orphan_deeds)) false ≡ true
unfolding failing_in failures_in whole_play brought_up stepped_through settled_down event_played gives log_given planned first_value second_value counted_in counted_out pause available orphan_script
orphan-released = refl

pub orphan-sure : option_map_or (λ (pod : Pod). is_sure_of pod (last_about pod (log_given usual_shape orphan_deeds)) (diary usual_shape 0 orphan_deeds)) (pod_in (uid_of 2) (log_given usual_shape orphan_deeds)) false ≡ true
unfolding failing_in failures_in whole_play brought_up stepped_through settled_down event_played gives log_given planned first_value second_value counted_in counted_out pause available orphan_script
orphan-sure = refl

-- ---- a quiet sync

pub sync-legal : IsLegal usual_shape quiet_deeds
unfolding failing_in failures_in gives log_given planned first_value second_value counted_in counted_out pause
sync-legal = (
  record { within = (omega arith, omega arith); settled = tt; reply = refl; length = refl },
  (
    record { within = (omega arith, omega arith); settled = tt; reply = refl; length = refl },
    (
      record { within = (omega arith, omega arith); settled = tt; reply = refl; length = refl },
      (
        record { within = (omega arith, omega arith); settled = tt; reply = refl; length = refl },
        (
          record { within = omega arith; settled = tt; reply = refl; length = refl },
          (record { within = omega arith; settled = tt; reply = refl; length = refl }, (record { within = tt; settled = tt; reply = refl; length = refl }, tt)),
        ),
      ),
    ),
  ),
)

sync-there : job_in pi_key (upto 1 (log_given usual_shape quiet_deeds)) ≡ Some (pi_job sample_spec)
unfolding failing_in failures_in gives log_given planned first_value second_value counted_in counted_out pause
sync-there = refl

pub sync-quiet : SomeSync usual_shape quiet_deeds (log_given usual_shape quiet_deeds)
sync-quiet = record {
  controller = 0;
  worker = 0;
  begin = sync_begins 1 1 1;
  past = both_list 1 (job_is_made sample_spec ∷ []);
  key = pi_key;
  job = pi_job sample_spec;
  last = sync_steps Ended 3;
  run = sync_steps (status_written 3) 3 ∷ sync_steps (pod_made None 2 2) 2 ∷ [];
  later = [];
  parts = refl;
  quiet = record { begins = refl; current = refl; there = sync-there; no_fault = refl; steps = (refl, (refl, (refl, tt))); goes_on = (refl, (refl, tt)); over = tt };
}
