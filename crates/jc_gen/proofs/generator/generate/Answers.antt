-- Two commands are pushed for a Job, and one at the end.
use Rattle.std.proofs.Common.{◌≡◌, refl, ap, sym, ◌∙◌, ◌++◌, [], ◌∷◌, arith, flat_map}
use Rattle.std.specs.List.{range_with_len}
use Rattle.jc_types.specs.declared.actions.Action1.TheVariants.{Settle}
use Rattle.jc_gen.proofs.Rows.{pushed_two}
use Rattle.jc_gen.specs.Generated.{creation, fate_command, generated, job_commands, on_first_lane}
use Rattle.jc_gen.proofs.generator.generate.Goals as goal

pub loop-i-preserved : goal.loop-i-preserved
loop-i-preserved c =
    pushed_two (creation c.args.number c.args.pods) (fate_command c.args.number) c.loop-i.i _ _ _ _ _
    c.loop-i.invariant c.in_ok-creation.ensures c.in_ok-fate.ensures
    c.in_ok-push.ensures.added c.in_ok-push-2.ensures.added

pub returns : goal.returns
unfolding generated
returns c =
    let last : c.loop-i.i ≡ c.args.jobs = omega arith in
    ap (λ xs. record { commands = xs }) (c.in_ok-push-3.ensures.added
    ∙ ap (λ xs. xs ++ on_first_lane Settle ∷ []) c.loop-i.invariant
    ∙ ap (λ n. flat_map (job_commands c.args.number c.args.pods) (range_with_len 0 n) ++ on_first_lane Settle ∷ []) last)
