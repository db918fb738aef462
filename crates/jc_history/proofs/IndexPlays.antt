-- The plays of Indexed Jobs whose number of indexes changes, and of limits for each index, each by computation.
use Rattle.std.proofs.Common.{◌≡◌, true, false, [], ◌∷◌, Some, refl}
use Rattle.jc_plan.specs.Accounts.{counted_in, counted_out}
use Rattle.jc_plan.specs.Backoffs.{pause}
use Rattle.jc_plan.specs.Failures.{failing_in, failures_in}
use Rattle.jc_plan.specs.Plans.{planned}
use Rattle.jc_plan.specs.Statuses.{first_value, second_value}
use Rattle.jc_types.specs.declared.statuses.CondKind.TheVariants.{Failed, FailureTarget}
use Rattle.jc_types.specs.declared.statuses.Reason.TheVariants as reason
use Rattle.jc_history.specs.Available.{available}
use Rattle.jc_history.specs.Play.{brought_up, event_played, settled_down, stepped_through, whole_play}
use Rattle.jc_history.specs.Replies.{gives}
use Rattle.jc_history.specs.SampleReplies.{elastic_replies, failed_index_replies, unfailing_replies}
use Rattle.jc_history.specs.SampleScripts.{elastic_script, failed_index_script, unfailing_script}
use Rattle.jc_history.specs.Samples.{usual_shape, told_conditions, told_counts, told_failed, told_indexes, told_replies, told_verdicts, verdict_counts, both_true, failed_once}

pub elastic-replies : told_replies elastic_script usual_shape ≡ elastic_replies
unfolding whole_play brought_up stepped_through settled_down event_played gives planned first_value second_value counted_in counted_out failing_in failures_in pause available elastic_script elastic_replies
elastic-replies = refl

pub elastic-counts : told_counts elastic_script usual_shape ≡ Some (1, 0)
unfolding whole_play brought_up stepped_through settled_down event_played gives planned first_value second_value counted_in counted_out failing_in failures_in pause available elastic_script
elastic-counts = refl

pub elastic-completed : told_indexes elastic_script usual_shape ≡ Some (1 ∷ [])
unfolding whole_play brought_up stepped_through settled_down event_played gives planned first_value second_value counted_in counted_out failing_in failures_in pause available elastic_script
elastic-completed = refl

pub elastic-verdicts : told_verdicts elastic_script usual_shape 1 ≡ verdict_counts 2 0 1
unfolding whole_play brought_up stepped_through settled_down event_played gives planned first_value second_value counted_in counted_out failing_in failures_in pause available elastic_script
elastic-verdicts = refl

pub failed_index-replies : told_replies failed_index_script usual_shape ≡ failed_index_replies
unfolding whole_play brought_up stepped_through settled_down event_played gives planned first_value second_value counted_in counted_out failing_in failures_in pause available failed_index_script failed_index_replies
failed_index-replies = refl

pub failed_index-counts : told_counts failed_index_script usual_shape ≡ Some (1, 1)
unfolding whole_play brought_up stepped_through settled_down event_played gives planned first_value second_value counted_in counted_out failing_in failures_in pause available failed_index_script
failed_index-counts = refl

pub failed_index-conditions : told_conditions failed_index_script usual_shape ≡ Some (both_true FailureTarget Failed reason.FailedIndexes)
unfolding whole_play brought_up stepped_through settled_down event_played gives planned first_value second_value counted_in counted_out failing_in failures_in pause available failed_index_script
failed_index-conditions = refl

pub failed_index-failed : told_failed failed_index_script usual_shape ≡ Some (0 ∷ [], failed_once 0 false ∷ [])
unfolding whole_play brought_up stepped_through settled_down event_played gives planned first_value second_value counted_in counted_out failing_in failures_in pause available failed_index_script
failed_index-failed = refl

pub failed_index-verdicts : told_verdicts failed_index_script usual_shape 1 ≡ verdict_counts 1 1 1
unfolding whole_play brought_up stepped_through settled_down event_played gives planned first_value second_value counted_in counted_out failing_in failures_in pause available failed_index_script
failed_index-verdicts = refl

pub unfailing-replies : told_replies unfailing_script usual_shape ≡ unfailing_replies
unfolding whole_play brought_up stepped_through settled_down event_played gives planned first_value second_value counted_in counted_out failing_in failures_in pause available unfailing_script unfailing_replies
unfailing-replies = refl

pub unfailing-conditions : told_conditions unfailing_script usual_shape ≡ Some (both_true FailureTarget Failed reason.MaxFailedIndexesExceeded)
unfolding whole_play brought_up stepped_through settled_down event_played gives planned first_value second_value counted_in counted_out failing_in failures_in pause available unfailing_script
unfailing-conditions = refl

pub unfailing-failed : told_failed unfailing_script usual_shape ≡ Some (0 ∷ [], failed_once 0 true ∷ [])
unfolding whole_play brought_up stepped_through settled_down event_played gives planned first_value second_value counted_in counted_out failing_in failures_in pause available unfailing_script
unfailing-failed = refl
