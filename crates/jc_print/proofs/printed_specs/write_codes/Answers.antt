use Rattle.std.proofs.Common.{get_or, pos, rules}
use Rattle.std.proofs.lemmas.List.{get_or_default}
use mir.Syntax.{w32}
use mir.Val.{SFits}
use Rattle.serde_json.specs.Data.{number}
use Rattle.serde_json.specs.Find.{of_integer}
use Rattle.jc_print.proofs.Writing.{adds_exit, list_of, no_item, one_item}
use Rattle.jc_print.proofs.printed_specs.write_codes.Goals as goal

pub loop-exit-init : goal.loop-exit-init
loop-exit-init c = no_item (λ z. number (of_integer z)) _

pub loop-exit-preserved : goal.loop-exit-preserved
loop-exit-preserved c =
    let exit = get_or c.args.exits.now c.loop-exit.exit-index (pos 0) in
    let fits : SFits w32 exit = search rules in
    one_item (λ z. number (of_integer z)) _ _ exit _ _ _ c.loop-exit-test.true
    (get_or_default c.args.exits.now c.loop-exit.exit-index (pos 0) exit c.loop-exit-test.true)
    (adds_exit _ _ _ _ _ fits c.from.ensures c.in_ok-i64.ensures) c.loop-exit.invariant

pub returns : goal.returns
returns c =
    list_of (λ z. number (of_integer z)) _ _ _ _ _ _ _ _ c.loop-exit-test.false c.in_ok-begin_array.ensures
    c.loop-exit.invariant c.in_ok-end_array.ensures
