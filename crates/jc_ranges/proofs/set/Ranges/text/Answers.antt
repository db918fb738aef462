use Rattle.std.proofs.Common.{◌∙◌, ◌++◌, ap, sym, arith, rules}
use Rattle.std.specs.Prelude.{string_bytes}
use Rattle.std.proofs.lemmas.Bool.{eqb-true}
use Rattle.jc_ranges.specs.declared.runs.Run.{Run}
use Rattle.jc_ranges.proofs.Apart.{run_at}
use Rattle.jc_ranges.proofs.Writing.{apart_rest, text_begin, text_next, text_end, text_none}
use Rattle.jc_ranges.proofs.set.Ranges.text.Goals as goal

pub returns-then-is_empty : goal.returns-then-is_empty
returns-then-is_empty c =
    text_none c.args.self.now _ c.as_runs-runs.result.now c.as_runs-runs.ensures.members (eqb-true _ _ (sym c.if-is_empty.ensures)) c.new-out.ensures.bytes

pub loop-run-init : goal.loop-run-init
loop-run-init c =
    text_begin c.args.self.now _ _ c.as_runs-runs.result.now (record { first = 0; last = 0 }) c.as_runs-runs.ensures.members c.as_runs-runs.ensures.apart (search rules) c.new-out.ensures.bytes c.in_ok-write_run.ensures

pub write_run-requires-in-loop-run : goal.write_run-requires-in-loop-run
write_run-requires-in-loop-run c =
    (run_at 0 _ c.loop-run.run-index (record { first = 0; last = 0 }) (apart_rest c.as_runs-runs.result.now c.as_runs-runs.ensures.apart) c.loop-run-test.true).ordered

pub loop-run-preserved : goal.loop-run-preserved
loop-run-preserved c =
    let comma = c.in_ok-push.ensures.bytes ∙ ap (λ z. string_bytes c.loop-run.out ++ z) (c.in_ok-push.ensures.ascii (omega arith)) in
    let d : Run = record { first = 0; last = 0 } in
    let at = run_at 0 _ c.loop-run.run-index d (apart_rest c.as_runs-runs.result.now c.as_runs-runs.ensures.apart) c.loop-run-test.true in
    text_next _ _ _ _ _ c.loop-run.run-index d c.loop-run-test.true at.ordered comma c.in_ok-write_run-2.ensures c.loop-run.invariant

pub returns : goal.returns
returns c = text_end _ _ _ c.loop-run.run-index c.loop-run-test.false c.loop-run.invariant
