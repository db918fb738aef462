use Rattle.jc_print.specs.Tokens.{data_tokens}
use Rattle.jc_print.proofs.Writing.{adds_one, keyed}
use Rattle.jc_print.proofs.writes.write_text.Goals as goal

pub returns : goal.returns
unfolding data_tokens
returns c = keyed _ _ _ _ _ _ c.in_ok-key.ensures (adds_one _ _ _ _ c.in_ok-string.ensures)
