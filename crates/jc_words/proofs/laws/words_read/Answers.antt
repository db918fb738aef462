-- Each row is computed.
use Rattle.std.proofs.Common.{refl}
use Rattle.std.specs.Fmt.{digits}
use Rattle.jc_words.specs.Options.{are_once, cut_of, pairs_of, values_of}
use Rattle.jc_words.specs.Values.{number_said}
use Rattle.jc_words.specs.Words.{order_of, run_order, run_said, shape_asked, shape_said, three_numbers}
use Rattle.jc_words.proofs.laws.words_read.Goals as goal

pub returns-clause-nothing : goal.returns-clause-nothing
unfolding order_of
returns-clause-nothing c = refl

pub returns-clause-run : goal.returns-clause-run
unfolding order_of run_order run_said shape_said pairs_of cut_of values_of are_once number_said digits
returns-clause-run c = refl

pub returns-clause-no_threads : goal.returns-clause-no_threads
unfolding order_of run_order run_said shape_said pairs_of cut_of values_of are_once number_said digits
returns-clause-no_threads c = refl

pub returns-clause-most_threads : goal.returns-clause-most_threads
unfolding order_of run_order run_said shape_said pairs_of cut_of values_of are_once number_said digits
returns-clause-most_threads c = refl

pub returns-clause-too_many_threads : goal.returns-clause-too_many_threads
unfolding order_of run_order run_said shape_said pairs_of cut_of values_of are_once number_said digits
returns-clause-too_many_threads c = refl

pub returns-clause-zero_in_front : goal.returns-clause-zero_in_front
unfolding order_of run_order run_said shape_said pairs_of cut_of values_of are_once number_said digits
returns-clause-zero_in_front c = refl

pub returns-clause-threads_twice : goal.returns-clause-threads_twice
unfolding order_of run_order pairs_of cut_of values_of are_once
returns-clause-threads_twice c = refl

pub returns-clause-turn_lock : goal.returns-clause-turn_lock
unfolding order_of run_order run_said shape_said pairs_of cut_of values_of are_once number_said digits
returns-clause-turn_lock c = refl

pub returns-clause-mutex : goal.returns-clause-mutex
unfolding order_of run_order run_said shape_said pairs_of cut_of values_of are_once number_said digits
returns-clause-mutex c = refl

pub returns-clause-lock_of_one : goal.returns-clause-lock_of_one
unfolding order_of run_order run_said shape_said pairs_of cut_of values_of are_once number_said digits
returns-clause-lock_of_one c = refl

pub returns-clause-other_lock : goal.returns-clause-other_lock
unfolding order_of run_order run_said shape_said pairs_of cut_of values_of are_once number_said digits
returns-clause-other_lock c = refl

pub returns-clause-lock_twice : goal.returns-clause-lock_twice
unfolding order_of run_order pairs_of cut_of values_of are_once
returns-clause-lock_twice c = refl

pub returns-clause-joined : goal.returns-clause-joined
unfolding order_of run_order run_said shape_said pairs_of cut_of values_of are_once number_said digits
returns-clause-joined c = refl

pub returns-clause-workers : goal.returns-clause-workers
unfolding order_of run_order run_said shape_said pairs_of cut_of values_of are_once number_said digits
returns-clause-workers c = refl

pub returns-clause-no_events : goal.returns-clause-no_events
unfolding order_of run_order run_said shape_said pairs_of cut_of values_of are_once number_said digits
returns-clause-no_events c = refl

pub returns-clause-zeros : goal.returns-clause-zeros
unfolding order_of run_order run_said shape_said pairs_of cut_of values_of are_once number_said digits
returns-clause-zeros c = refl

pub returns-clause-sign : goal.returns-clause-sign
unfolding order_of run_order run_said shape_said pairs_of cut_of values_of are_once number_said digits
returns-clause-sign c = refl

pub returns-clause-twice : goal.returns-clause-twice
unfolding order_of run_order pairs_of cut_of values_of are_once
returns-clause-twice c = refl

pub returns-clause-no_value : goal.returns-clause-no_value
unfolding order_of run_order pairs_of cut_of values_of are_once
returns-clause-no_value c = refl

pub returns-clause-other_option : goal.returns-clause-other_option
unfolding order_of run_order pairs_of cut_of values_of are_once
returns-clause-other_option c = refl

pub returns-clause-reap : goal.returns-clause-reap
unfolding order_of shape_asked shape_said pairs_of cut_of values_of are_once number_said digits
returns-clause-reap c = refl

pub returns-clause-reap_workers : goal.returns-clause-reap_workers
unfolding order_of shape_asked shape_said pairs_of cut_of values_of are_once number_said digits
returns-clause-reap_workers c = refl

pub returns-clause-reap_threads : goal.returns-clause-reap_threads
unfolding order_of shape_asked shape_said pairs_of cut_of values_of are_once number_said digits
returns-clause-reap_threads c = refl

pub returns-clause-reap_no_threads : goal.returns-clause-reap_no_threads
unfolding order_of shape_asked shape_said pairs_of cut_of values_of are_once number_said digits
returns-clause-reap_no_threads c = refl

pub returns-clause-reap_lock : goal.returns-clause-reap_lock
unfolding order_of shape_asked shape_said pairs_of cut_of values_of are_once number_said digits
returns-clause-reap_lock c = refl

pub returns-clause-reap_events : goal.returns-clause-reap_events
unfolding order_of shape_asked shape_said pairs_of cut_of values_of are_once number_said digits
returns-clause-reap_events c = refl

pub returns-clause-audit : goal.returns-clause-audit
unfolding order_of shape_asked shape_said pairs_of cut_of values_of are_once number_said digits
returns-clause-audit c = refl

pub returns-clause-audit_events : goal.returns-clause-audit_events
unfolding order_of shape_asked shape_said pairs_of cut_of values_of are_once number_said digits
returns-clause-audit_events c = refl

pub returns-clause-audit_threads : goal.returns-clause-audit_threads
unfolding order_of shape_asked shape_said pairs_of cut_of values_of are_once number_said digits
returns-clause-audit_threads c = refl

pub returns-clause-audit_lock : goal.returns-clause-audit_lock
unfolding order_of shape_asked shape_said pairs_of cut_of values_of are_once number_said digits
returns-clause-audit_lock c = refl

pub returns-clause-help : goal.returns-clause-help
unfolding order_of
returns-clause-help c = refl

pub returns-clause-generate : goal.returns-clause-generate
unfolding order_of three_numbers number_said digits
returns-clause-generate c = refl

pub returns-clause-jobs : goal.returns-clause-jobs
unfolding order_of three_numbers number_said digits
returns-clause-jobs c = refl

pub returns-clause-five_words : goal.returns-clause-five_words
unfolding order_of
returns-clause-five_words c = refl
