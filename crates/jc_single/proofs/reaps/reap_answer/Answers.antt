-- What a text says fits its shape, and gives few TTLs.
use Rattle.std.proofs.Common.{arith}
use Rattle.jc_single.proofs.ShapeFacts.{read_within}
use Rattle.jc_single.proofs.reaps.reap_answer.Goals as goal

pub settled_answer-requires-clause-fits_shape : goal.settled_answer-requires-clause-fits_shape
settled_answer-requires-clause-fits_shape c =
    read_within c.args.shape _ (c.scripts_fit_their_shape.ensures.within _ _ _ c.requires.fits.some_controllers
    c.requires.fits.some_workers c.in_ok-script.ensures.script)

pub settled_answer-requires-clause-few_ttls : goal.settled_answer-requires-clause-few_ttls
settled_answer-requires-clause-few_ttls c =
    let same = c.as_many_ttls_as_commands.ensures.many c.args.shape c.args.input.now _ _ c.in_ok-script.ensures.script c.in_ok-ttls.ensures.ttls in
    omega (arith, same)
