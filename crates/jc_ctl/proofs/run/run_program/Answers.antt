-- All that is promised is told by how the run has ended.
use Rattle.jc_words.specs.declared.words.Order.TheVariants.{Audit}
use Rattle.jc_ctl.proofs.DoneFacts.{headline_of, passes_of, yes_of}
use Rattle.jc_ctl.proofs.run.run_program.Goals as goal

pub returns-clause-headline : goal.returns-clause-headline
returns-clause-headline g c =
    headline_of _ _ _ _ c.run_words.ensures
    (λ order is single input printed. c.runs_tell_their_history.ensures order input printed (c.orders_fit.ensures.orders _ order is))

pub returns-clause-passes : goal.returns-clause-passes
returns-clause-passes g c =
    passes_of _ _ _ _ c.run_words.ensures
    (λ order is single input printed. c.runs_tell_their_history.ensures order input printed (c.orders_fit.ensures.orders _ order is))
    (λ order is input. c.written_reports_pass_audits.ensures order input _ _ _ (c.orders_fit.ensures.orders _ order is))

pub returns-clause-yes : goal.returns-clause-yes
returns-clause-yes g c =
    yes_of _ _ _ _ c.run_words.ensures (λ shape input is says.
    c.audited_reports_keep_the_promises.ensures shape input (c.orders_fit.ensures.orders _ (Audit shape) is) says)
