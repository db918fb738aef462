use Rattle.jc_script.proofs.FirstByte.{first_byte}
use Rattle.jc_script.proofs.lines.line_end.Goals as goal

pub returns : goal.returns
returns c = first_byte 10 c.args.text.now c.memchr.result c.memchr.ensures
