-- The lines of events, what stands behind them, and the page.
use Rattle.std.proofs.Common.{rules, string_bytes}
use Rattle.jc_report.proofs.SendFacts.{all-front, all-went, first-failed, last-failed, second-failed}
use Rattle.jc_report.proofs.drafted.send_all.Goals as goal

pub returns-in_err-send_lines-clause-front : goal.returns-in_err-send_lines-clause-front
returns-in_err-send_lines-clause-front g c =
    let front = first-failed _ _ (string_bytes c.args.page.now) _ c.args.last.now c.requires.blank c.in_err-send_lines.ensures.front in
    search (rules, front)

pub returns-in_err-send_text-clause-front : goal.returns-in_err-send_text-clause-front
returns-in_err-send_text-clause-front g c =
    let front = second-failed _ _ _ (string_bytes c.args.page.now) (string_bytes c.send_lines.new.page) _ _ c.requires.blank
    c.in_ok-send_lines.ensures.sends c.in_err-send_text.ensures.front in
    search (rules, front)

pub returns-in_err-write_page-clause-front : goal.returns-in_err-write_page-clause-front
returns-in_err-write_page-clause-front g c =
    let front = last-failed _ _ _ _ (string_bytes c.args.page.now) (string_bytes c.send_lines.new.page) (string_bytes c.send_text.new.page) _ _
    c.requires.blank c.in_ok-send_lines.ensures.sends c.in_ok-send_text.ensures.sends c.in_err-write_page.ensures.front in
    search (rules, front)

pub returns-in_err-finish-clause-front : goal.returns-in_err-finish-clause-front
returns-in_err-finish-clause-front g c =
    let sent = all-went _ _ _ _ (string_bytes c.args.page.now) (string_bytes c.send_lines.new.page) (string_bytes c.send_text.new.page) _ _
    c.requires.blank c.in_ok-send_lines.ensures.sends c.in_ok-send_text.ensures.sends c.in_ok-write_page.ensures.all in
    let front = all-front _ _ _ _ sent c.in_err-finish.ensures.bytes in
    search (rules, front)
