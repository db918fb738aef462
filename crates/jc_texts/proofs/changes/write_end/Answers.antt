use Rattle.std.proofs.Common.{Some, ap, refl, rules}
use Rattle.std.proofs.lemmas.Int.{to_z-of_z}
use mir.Syntax.{w32}
use mir.Val.{SFits}
use Rattle.jc_texts.specs.ChangeTexts.{end_data, exit_data}
use Rattle.jc_texts.proofs.ChangeMembers.{in_end}
use Rattle.jc_print.proofs.Writing.{more, no_more, object_of}
use Rattle.jc_texts.proofs.changes.write_end.Goals as goal

pub returns : goal.returns
unfolding end_data
returns c =
    let exit = c.args.end.now.exit in
    let fits : SFits w32 exit = search rules in
    object_of (in_end c.args.end.now) _ _ _ _ _ _ refl c.in_ok-begin_object.ensures
    (more _ _ _ _ _ _ _ c.in_ok-write_number.ensures refl
    (more _ _ _ _ _ _ _ c.in_ok-write_exit.ensures (ap (λ z. Some (exit_data z)) (to_z-of_z w32 exit fits))
    (more _ _ _ _ _ _ _ c.in_ok-write_end_condition.ensures refl (no_more _))))
    c.in_ok-end_object.ensures
