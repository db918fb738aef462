-- The plays that are worked out, each by computation.
use Rattle.std.proofs.Common.{◌≡◌, true, false, [], ◌∷◌, map, Some, refl}
use Rattle.jc_plan.specs.Accounts.{counted_in, counted_out}
use Rattle.jc_plan.specs.Backoffs.{pause}
use Rattle.jc_plan.specs.Failures.{failing_in, failures_in}
use Rattle.jc_plan.specs.Plans.{planned}
use Rattle.jc_plan.specs.Statuses.{first_value, second_value}
use Rattle.jc_types.specs.declared.runs.Past.{Past}
use Rattle.jc_types.specs.declared.statuses.CondKind.TheVariants.{Complete, Failed, FailureTarget, SuccessCriteriaMet, Suspended}
use Rattle.jc_types.specs.declared.statuses.Reason.TheVariants as reason
use Rattle.jc_history.specs.Available.{available}
use Rattle.jc_history.specs.Play.{brought_up, event_played, settled_down, stepped_through, whole_play}
use Rattle.jc_history.specs.Replies.{gives}
use Rattle.jc_history.specs.Samples.{narrow_window, sample_shape, two_controllers, usual_shape, told_replies, told_conditions, told_counts, told_indexes, told_verdicts, verdict_counts, both_true}
use Rattle.jc_history.specs.SampleScripts.{one_pod_script, restart_script, lagging_cache_script, conflict_script, lost_status_script, lost_creation_script, dropped_creation_script, marked_pod_script, replacement_script, indexes_script}
use Rattle.jc_history.specs.SampleScripts.{one_index_twice_script, backoff_limit_script, failing_exit_script, deadline_script, late_let_go_script, made_again_script, restarted_container_script, suspension_script, window_script}
use Rattle.jc_history.specs.SampleScripts.{refusals_script, settling_script, ignoring_script}
use Rattle.jc_history.specs.SampleReplies.{one_pod_replies, restart_replies, lagging_cache_replies, conflict_replies, lost_status_replies, lost_creation_replies, dropped_creation_replies, marked_pod_replies, replacement_replies}
use Rattle.jc_history.specs.SampleReplies.{indexes_replies, one_index_twice_replies, backoff_limit_replies, failing_exit_replies, deadline_replies, late_let_go_replies, made_again_replies, restarted_container_replies, suspension_replies}
use Rattle.jc_history.specs.SampleReplies.{window_replies, refusals_replies}

pub one_pod-replies : told_replies one_pod_script usual_shape ≡ one_pod_replies
unfolding whole_play brought_up stepped_through settled_down event_played gives planned first_value second_value counted_in counted_out failing_in failures_in pause available one_pod_script one_pod_replies
one_pod-replies = refl

pub one_pod-counts : told_counts one_pod_script usual_shape ≡ Some (1, 0)
unfolding whole_play brought_up stepped_through settled_down event_played gives planned first_value second_value counted_in counted_out failing_in failures_in pause available one_pod_script
one_pod-counts = refl

pub restart-replies : told_replies restart_script usual_shape ≡ restart_replies
unfolding whole_play brought_up stepped_through settled_down event_played gives planned first_value second_value counted_in counted_out failing_in failures_in pause available restart_script restart_replies
restart-replies = refl

pub restart-counts : told_counts restart_script usual_shape ≡ Some (1, 0)
unfolding whole_play brought_up stepped_through settled_down event_played gives planned first_value second_value counted_in counted_out failing_in failures_in pause available restart_script
restart-counts = refl

pub lagging_cache-replies : told_replies lagging_cache_script usual_shape ≡ lagging_cache_replies
unfolding whole_play brought_up stepped_through settled_down event_played gives planned first_value second_value counted_in counted_out failing_in failures_in pause available lagging_cache_script lagging_cache_replies
lagging_cache-replies = refl

pub lagging_cache-counts : told_counts lagging_cache_script usual_shape ≡ Some (1, 0)
unfolding whole_play brought_up stepped_through settled_down event_played gives planned first_value second_value counted_in counted_out failing_in failures_in pause available lagging_cache_script
lagging_cache-counts = refl

pub conflict-replies : told_replies conflict_script usual_shape ≡ conflict_replies
unfolding whole_play brought_up stepped_through settled_down event_played gives planned first_value second_value counted_in counted_out failing_in failures_in pause available conflict_script conflict_replies
conflict-replies = refl

pub conflict-counts : told_counts conflict_script usual_shape ≡ Some (1, 0)
unfolding whole_play brought_up stepped_through settled_down event_played gives planned first_value second_value counted_in counted_out failing_in failures_in pause available conflict_script
conflict-counts = refl

pub lost_status-replies : told_replies lost_status_script usual_shape ≡ lost_status_replies
unfolding whole_play brought_up stepped_through settled_down event_played gives planned first_value second_value counted_in counted_out failing_in failures_in pause available lost_status_script lost_status_replies
lost_status-replies = refl

pub lost_status-counts : told_counts lost_status_script usual_shape ≡ Some (1, 0)
unfolding whole_play brought_up stepped_through settled_down event_played gives planned first_value second_value counted_in counted_out failing_in failures_in pause available lost_status_script
lost_status-counts = refl

pub lost_creation-replies : told_replies lost_creation_script usual_shape ≡ lost_creation_replies
unfolding whole_play brought_up stepped_through settled_down event_played gives planned first_value second_value counted_in counted_out failing_in failures_in pause available lost_creation_script lost_creation_replies
lost_creation-replies = refl

pub lost_creation-counts : told_counts lost_creation_script usual_shape ≡ Some (0, 0)
unfolding whole_play brought_up stepped_through settled_down event_played gives planned first_value second_value counted_in counted_out failing_in failures_in pause available lost_creation_script
lost_creation-counts = refl

pub dropped_creation-replies : told_replies dropped_creation_script usual_shape ≡ dropped_creation_replies
unfolding whole_play brought_up stepped_through settled_down event_played gives planned first_value second_value counted_in counted_out failing_in failures_in pause available dropped_creation_script dropped_creation_replies
dropped_creation-replies = refl

pub dropped_creation-counts : told_counts dropped_creation_script usual_shape ≡ Some (0, 0)
unfolding whole_play brought_up stepped_through settled_down event_played gives planned first_value second_value counted_in counted_out failing_in failures_in pause available dropped_creation_script
dropped_creation-counts = refl

pub marked_pod-replies : told_replies marked_pod_script usual_shape ≡ marked_pod_replies
unfolding whole_play brought_up stepped_through settled_down event_played gives planned first_value second_value counted_in counted_out failing_in failures_in pause available marked_pod_script marked_pod_replies
marked_pod-replies = refl

pub marked_pod-counts : told_counts marked_pod_script usual_shape ≡ Some (0, 1)
unfolding whole_play brought_up stepped_through settled_down event_played gives planned first_value second_value counted_in counted_out failing_in failures_in pause available marked_pod_script
marked_pod-counts = refl

pub replacement-replies : told_replies replacement_script usual_shape ≡ replacement_replies
unfolding whole_play brought_up stepped_through settled_down event_played gives planned first_value second_value counted_in counted_out failing_in failures_in pause available replacement_script replacement_replies
replacement-replies = refl

pub replacement-counts : told_counts replacement_script usual_shape ≡ Some (0, 1)
unfolding whole_play brought_up stepped_through settled_down event_played gives planned first_value second_value counted_in counted_out failing_in failures_in pause available replacement_script
replacement-counts = refl

pub indexes-replies : told_replies indexes_script usual_shape ≡ indexes_replies
unfolding whole_play brought_up stepped_through settled_down event_played gives planned first_value second_value counted_in counted_out failing_in failures_in pause available indexes_script indexes_replies
indexes-replies = refl

pub indexes-counts : told_counts indexes_script usual_shape ≡ Some (4, 0)
unfolding whole_play brought_up stepped_through settled_down event_played gives planned first_value second_value counted_in counted_out failing_in failures_in pause available indexes_script
indexes-counts = refl

pub one_index_twice-replies : told_replies one_index_twice_script two_controllers ≡ one_index_twice_replies
unfolding whole_play brought_up stepped_through settled_down event_played gives planned first_value second_value counted_in counted_out failing_in failures_in pause available one_index_twice_script one_index_twice_replies
one_index_twice-replies = refl

pub one_index_twice-counts : told_counts one_index_twice_script two_controllers ≡ Some (1, 0)
unfolding whole_play brought_up stepped_through settled_down event_played gives planned first_value second_value counted_in counted_out failing_in failures_in pause available one_index_twice_script
one_index_twice-counts = refl

pub backoff_limit-replies : told_replies backoff_limit_script usual_shape ≡ backoff_limit_replies
unfolding whole_play brought_up stepped_through settled_down event_played gives planned first_value second_value counted_in counted_out failing_in failures_in pause available backoff_limit_script backoff_limit_replies
backoff_limit-replies = refl

pub backoff_limit-counts : told_counts backoff_limit_script usual_shape ≡ Some (0, 1)
unfolding whole_play brought_up stepped_through settled_down event_played gives planned first_value second_value counted_in counted_out failing_in failures_in pause available backoff_limit_script
backoff_limit-counts = refl

pub failing_exit-replies : told_replies failing_exit_script usual_shape ≡ failing_exit_replies
unfolding whole_play brought_up stepped_through settled_down event_played gives planned first_value second_value counted_in counted_out failing_in failures_in pause available failing_exit_script failing_exit_replies
failing_exit-replies = refl

pub failing_exit-counts : told_counts failing_exit_script usual_shape ≡ Some (0, 1)
unfolding whole_play brought_up stepped_through settled_down event_played gives planned first_value second_value counted_in counted_out failing_in failures_in pause available failing_exit_script
failing_exit-counts = refl

pub deadline-replies : told_replies deadline_script usual_shape ≡ deadline_replies
unfolding whole_play brought_up stepped_through settled_down event_played gives planned first_value second_value counted_in counted_out failing_in failures_in pause available deadline_script deadline_replies
deadline-replies = refl

pub deadline-counts : told_counts deadline_script usual_shape ≡ Some (2, 1)
unfolding whole_play brought_up stepped_through settled_down event_played gives planned first_value second_value counted_in counted_out failing_in failures_in pause available deadline_script
deadline-counts = refl

pub late_let_go-replies : told_replies late_let_go_script usual_shape ≡ late_let_go_replies
unfolding whole_play brought_up stepped_through settled_down event_played gives planned first_value second_value counted_in counted_out failing_in failures_in pause available late_let_go_script late_let_go_replies
late_let_go-replies = refl

pub late_let_go-counts : told_counts late_let_go_script usual_shape ≡ Some (1, 0)
unfolding whole_play brought_up stepped_through settled_down event_played gives planned first_value second_value counted_in counted_out failing_in failures_in pause available late_let_go_script
late_let_go-counts = refl

pub made_again-replies : told_replies made_again_script two_controllers ≡ made_again_replies
unfolding whole_play brought_up stepped_through settled_down event_played gives planned first_value second_value counted_in counted_out failing_in failures_in pause available made_again_script made_again_replies
made_again-replies = refl

pub made_again-counts : told_counts made_again_script two_controllers ≡ Some (0, 0)
unfolding whole_play brought_up stepped_through settled_down event_played gives planned first_value second_value counted_in counted_out failing_in failures_in pause available made_again_script
made_again-counts = refl

pub restarted_container-replies : told_replies restarted_container_script usual_shape ≡ restarted_container_replies
unfolding whole_play brought_up stepped_through settled_down event_played gives planned first_value second_value counted_in counted_out failing_in failures_in pause available restarted_container_script restarted_container_replies
restarted_container-replies = refl

pub restarted_container-counts : told_counts restarted_container_script usual_shape ≡ Some (0, 1)
unfolding whole_play brought_up stepped_through settled_down event_played gives planned first_value second_value counted_in counted_out failing_in failures_in pause available restarted_container_script
restarted_container-counts = refl

pub suspension-replies : told_replies suspension_script usual_shape ≡ suspension_replies
unfolding whole_play brought_up stepped_through settled_down event_played gives planned first_value second_value counted_in counted_out failing_in failures_in pause available suspension_script suspension_replies
suspension-replies = refl

pub suspension-counts : told_counts suspension_script usual_shape ≡ Some (0, 0)
unfolding whole_play brought_up stepped_through settled_down event_played gives planned first_value second_value counted_in counted_out failing_in failures_in pause available suspension_script
suspension-counts = refl

pub window-replies : told_replies window_script narrow_window ≡ window_replies
unfolding whole_play brought_up stepped_through settled_down event_played gives planned first_value second_value counted_in counted_out failing_in failures_in pause available window_script window_replies
window-replies = refl

pub refusals-replies : told_replies refusals_script usual_shape ≡ refusals_replies
unfolding whole_play brought_up stepped_through settled_down event_played gives planned first_value second_value counted_in counted_out failing_in failures_in pause available refusals_script refusals_replies
refusals-replies = refl

pub refusals-counts : told_counts refusals_script usual_shape ≡ Some (0, 0)
unfolding whole_play brought_up stepped_through settled_down event_played gives planned first_value second_value counted_in counted_out failing_in failures_in pause available refusals_script
refusals-counts = refl

pub settling-counts : told_counts settling_script (sample_shape 1 1000 60) ≡ Some (1, 0)
unfolding whole_play brought_up stepped_through settled_down event_played gives planned first_value second_value counted_in counted_out failing_in failures_in pause available settling_script
settling-counts = refl

pub settling-ends : (whole_play settling_script (sample_shape 1 1000 60)).full ≡ false
unfolding whole_play brought_up stepped_through settled_down event_played gives planned first_value second_value counted_in counted_out failing_in failures_in pause available settling_script
settling-ends = refl

pub settling-full : (whole_play settling_script (sample_shape 1 1000 5)).full ≡ true
unfolding whole_play brought_up stepped_through settled_down event_played gives planned first_value second_value counted_in counted_out failing_in failures_in pause available settling_script
settling-full = refl

pub settling-lengths : map (λ (past : Past). past.length.0) (whole_play settling_script (sample_shape 1 1000 5)).pasts ≡ 1 ∷ 1 ∷ 1 ∷ 1 ∷ 1 ∷ []
unfolding whole_play brought_up stepped_through settled_down event_played gives planned first_value second_value counted_in counted_out failing_in failures_in pause available settling_script
settling-lengths = refl

pub one_pod-conditions : told_conditions one_pod_script usual_shape ≡ Some (both_true SuccessCriteriaMet Complete reason.CompletionsReached)
unfolding whole_play brought_up stepped_through settled_down event_played gives planned first_value second_value counted_in counted_out failing_in failures_in pause available one_pod_script
one_pod-conditions = refl

pub one_pod-verdicts : told_verdicts one_pod_script usual_shape 1 ≡ verdict_counts 1 0 0
unfolding whole_play brought_up stepped_through settled_down event_played gives planned first_value second_value counted_in counted_out failing_in failures_in pause available one_pod_script
one_pod-verdicts = refl

pub marked_pod-verdicts : told_verdicts marked_pod_script usual_shape 1 ≡ verdict_counts 0 1 0
unfolding whole_play brought_up stepped_through settled_down event_played gives planned first_value second_value counted_in counted_out failing_in failures_in pause available marked_pod_script
marked_pod-verdicts = refl

pub backoff_limit-conditions : told_conditions backoff_limit_script usual_shape ≡ Some (both_true FailureTarget Failed reason.BackoffLimitExceeded)
unfolding whole_play brought_up stepped_through settled_down event_played gives planned first_value second_value counted_in counted_out failing_in failures_in pause available backoff_limit_script
backoff_limit-conditions = refl

pub failing_exit-conditions : told_conditions failing_exit_script usual_shape ≡ Some (both_true FailureTarget Failed reason.PodFailurePolicy)
unfolding whole_play brought_up stepped_through settled_down event_played gives planned first_value second_value counted_in counted_out failing_in failures_in pause available failing_exit_script
failing_exit-conditions = refl

pub deadline-conditions : told_conditions deadline_script usual_shape ≡ Some (both_true FailureTarget Failed reason.DeadlineExceeded)
unfolding whole_play brought_up stepped_through settled_down event_played gives planned first_value second_value counted_in counted_out failing_in failures_in pause available deadline_script
deadline-conditions = refl

pub restarted_container-conditions : told_conditions restarted_container_script usual_shape ≡ Some (both_true FailureTarget Failed reason.BackoffLimitExceeded)
unfolding whole_play brought_up stepped_through settled_down event_played gives planned first_value second_value counted_in counted_out failing_in failures_in pause available restarted_container_script
restarted_container-conditions = refl

pub deadline-indexes : told_indexes deadline_script usual_shape ≡ Some (0 ∷ 1 ∷ [])
unfolding whole_play brought_up stepped_through settled_down event_played gives planned first_value second_value counted_in counted_out failing_in failures_in pause available deadline_script
deadline-indexes = refl

pub suspension-conditions : told_conditions suspension_script usual_shape ≡ Some ((Suspended, false, reason.JobResumed) ∷ [])
unfolding whole_play brought_up stepped_through settled_down event_played gives planned first_value second_value counted_in counted_out failing_in failures_in pause available suspension_script
suspension-conditions = refl

pub indexes-completed : told_indexes indexes_script usual_shape ≡ Some (1 ∷ 2 ∷ 3 ∷ 4 ∷ [])
unfolding whole_play brought_up stepped_through settled_down event_played gives planned first_value second_value counted_in counted_out failing_in failures_in pause available indexes_script
indexes-completed = refl

pub indexes-verdicts : told_verdicts indexes_script usual_shape 1 ≡ verdict_counts 4 0 4
unfolding whole_play brought_up stepped_through settled_down event_played gives planned first_value second_value counted_in counted_out failing_in failures_in pause available indexes_script
indexes-verdicts = refl

pub one_index_twice-completed : told_indexes one_index_twice_script two_controllers ≡ Some (0 ∷ [])
unfolding whole_play brought_up stepped_through settled_down event_played gives planned first_value second_value counted_in counted_out failing_in failures_in pause available one_index_twice_script
one_index_twice-completed = refl

pub one_index_twice-verdicts : told_verdicts one_index_twice_script two_controllers 1 ≡ verdict_counts 2 0 1
unfolding whole_play brought_up stepped_through settled_down event_played gives planned first_value second_value counted_in counted_out failing_in failures_in pause available one_index_twice_script
one_index_twice-verdicts = refl

pub made_again-verdicts : told_verdicts made_again_script two_controllers 3 ≡ verdict_counts 0 0 0
unfolding whole_play brought_up stepped_through settled_down event_played gives planned first_value second_value counted_in counted_out failing_in failures_in pause available made_again_script
made_again-verdicts = refl

pub settling-verdicts : told_verdicts settling_script (sample_shape 1 1000 60) 1 ≡ verdict_counts 1 0 0
unfolding whole_play brought_up stepped_through settled_down event_played gives planned first_value second_value counted_in counted_out failing_in failures_in pause available settling_script
settling-verdicts = refl

pub ignoring-counts : told_counts ignoring_script (sample_shape 1 1000 60) ≡ Some (0, 0)
unfolding whole_play brought_up stepped_through settled_down event_played gives planned first_value second_value counted_in counted_out failing_in failures_in pause available ignoring_script
ignoring-counts = refl

pub ignoring-verdicts : told_verdicts ignoring_script (sample_shape 1 1000 60) 1 ≡ verdict_counts 0 0 0
unfolding whole_play brought_up stepped_through settled_down event_played gives planned first_value second_value counted_in counted_out failing_in failures_in pause available ignoring_script
ignoring-verdicts = refl

pub ignoring-full : (whole_play ignoring_script (sample_shape 1 1000 60)).full ≡ true
unfolding whole_play brought_up stepped_through settled_down event_played gives planned first_value second_value counted_in counted_out failing_in failures_in pause available ignoring_script
ignoring-full = refl
