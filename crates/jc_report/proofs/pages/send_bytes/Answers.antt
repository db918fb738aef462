-- The page goes out, and the bytes behind it.
use Rattle.std.proofs.Common.{rules}
use Rattle.jc_report.proofs.SendFacts.{front-behind, went-both}
use Rattle.jc_report.proofs.pages.send_bytes.Goals as goal

pub returns-in_err-write_part-clause-front : goal.returns-in_err-write_part-clause-front
returns-in_err-write_part-clause-front g c =
    let front = front-behind _ _ _ _ _ c.in_ok-write_page.ensures.all c.in_err-write_part.ensures.front in search (rules, front)

pub returns-clause-sends : goal.returns-clause-sends
returns-clause-sends g c = went-both _ _ _ _ _ _ c.in_ok-write_page.ensures.all c.in_ok-write_page.ensures.blank c.in_ok-write_part.ensures.all
