use Rattle.std.proofs.Common.{sym, ap, ◌∙◌}
use Rattle.std.specs.Map.{lookup}
use Rattle.std.specs.Option.{option_copied_mut}
use Rattle.jc_types.specs.Keys.{same_uid}
use Rattle.jc_states.specs.Tallies.{tally_in, tally_with, with_pod}
use Rattle.jc_states.proofs.TallyFacts.{put-row}
use Rattle.jc_states.proofs.tallies.enter.Goals as goal

-- The owner had no row.
pub returns-clause-numbers : goal.returns-clause-numbers
returns-clause-numbers c owner =
    let pod = c.args.pod.now in
    let before = c.row_mut.follows.lender-at-none in
    let same = c.row_mut.follows.holds-at-none in
    put-row pod c.tally_with-tally.result before.entries c.insert.new.self.entries
    (ap (λ rows. lookup (same_uid pod.owner_uid) rows.entries) same ∙ sym c.row_mut.ensures.value ∙ ap option_copied_mut c.in_default.is)
    (c.tally_with-tally.ensures.numbers ∙ ap (λ t. tally_with t pod) c.no_pods.ensures)
    c.in-Ok.ensures.updates.0
    owner
    ∙ ap (λ rows. with_pod owner pod (tally_in owner rows.entries)) same
