-- What holds of each legal history, from the laws below.
use Rattle.std.proofs.Common.{◌≡◌, arith, ◌+◌, ◌<◌, ◌^◌, subst, length, reverse, true}
use Rattle.jc_history.specs.Available.{is_quiescent}
use Rattle.jc_history.specs.Replies.{log_given}
use Rattle.jc_log.specs.Deeds.{deeds}
use Rattle.jc_order.specs.Rest.{HasComeToRest}
use Rattle.jc_runs.specs.Machines.{AllAskValid}
use Rattle.jc_promise.proofs.DeedFacts.{deeds-are}
use Rattle.jc_promise.proofs.QuietFacts.{syncs-well}
use Rattle.jc_promise.proofs.laws.legal_histories_keep_the_promises.Goals as goal

pub returns : goal.returns
returns c = λ script shape history valid some working few follows.
    let asks : AllAskValid (deeds script history) =
    subst AllAskValid (deeds-are script history.events.items) (c.valid_scripts_ask_valid.ensures script (reverse history.events.items) valid) in
    let over : is_quiescent shape (deeds script history) (log_given shape (deeds script history)) ≡ true → HasComeToRest shape (deeds script history) =
    λ quiet. record { legal = follows.legal; working = working; quiet = quiet } in
    record {
      once = c.legal_histories_count_once.ensures.at_each shape (deeds script history) follows.legal asks;
      lost = c.finalizers_are_lost_with_a_cause.ensures shape (deeds script history) follows.legal asks;
      conflicts = c.legal_histories_tell_later_versions.ensures shape (deeds script history) follows.legal asks;
      told = λ other legal events others same.
          let short : 1 + length other.events.items < 2 ^ 64 = omega (arith, legal.few, few) in
          c.lines_determine_histories.ensures script shape other history legal follows others events short same;
      bounds = λ one. c.one_controller_holds_the_bounds.ensures shape (deeds script history) one follows.legal;
      rests = λ quiet. c.no_ended_pod_is_forgotten_at_rest.ensures shape (deeds script history) (over quiet) asks some;
      causes = c.requests_have_causes.ensures shape (deeds script history) follows.legal;
      waits = λ quiet. c.no_job_is_stuck_at_rest.ensures shape (deeds script history) (over quiet) asks;
      releases = λ quiet. c.no_orphan_is_left_at_rest.ensures shape (deeds script history) (over quiet) asks;
      syncs =
          syncs-well
          (record {
            ended = c.quiet_syncs_reach_the_next_status.ensures.ended;
            next = c.quiet_syncs_reach_the_next_status.ensures.next;
            nothing = c.quiet_syncs_reach_the_next_status.ensures.nothing;
          })
          shape (deeds script history) follows.legal asks;
    }
