-- A run lies within the bounds; and where one of them is not within the set, not all are.
use Rattle.std.proofs.Common.{◌≡◌, ◌∙◌, true, sym, arith}
use Rattle.std.proofs.lemmas.Bool.{false≢true}
use Rattle.jc_ranges.specs.Sets.{has}
use Rattle.jc_ranges.proofs.Apart.{run_at}
use Rattle.jc_ranges.proofs.Within.{runs_one}
use Rattle.jc_ranges.proofs.set.has_runs.Goals as goal

pub has_run-requires : goal.has_run-requires
has_run-requires c =
    let at = run_at 0 c.args.runs.now c.loop-run.run-index (record { first = 0; last = 0 }) c.requires c.loop-run-test.true in
    omega (arith, at.ordered, at.small)

pub returns-then-not-has_run : goal.returns-then-not-has_run
returns-then-not-has_run c = (
  λ t. absurd (false≢true t),
  λ all.
      let one = runs_one (λ n. has n c.args.set.now ≡ true) c.args.runs.now c.loop-run.run-index (record { first = 0; last = 0 }) c.loop-run-test.true all in
      sym c.if-not-has_run.true ∙ c.has_run.ensures.1 one,
)
