use Rattle.jc_history.proofs.DeedSteps.{began, breaks_off, expired, finished, goes_on, listed-jobs, listed-pods, restarted, ticked, told-entry, untouched}
use Rattle.jc_history.proofs.laws.deeds_are_kept.Goals as goal

pub returns : goal.returns
returns c = record {
  untouched = λ o old legal quiet held. untouched o.shape o.controller o.past o.deed legal old quiet.goes_on quiet.nothing held;
  restarted = λ o legal act. restarted o.shape o.controller o.past o.deed legal act;
  listed_jobs = λ o old it. listed-jobs o.shape o.controller o.past o.deed it.legal old it.act_is it.reply_is;
  listed_pods = λ o old it. listed-pods o.shape o.controller o.past o.deed it.legal old it.act_is it.reply_is;
  told = λ o old kind version entry it. told-entry o.shape o.controller o.past o.deed it.legal old kind version entry it.act_is it.reply_is;
  expired = λ o old kind floor it. expired o.shape o.controller o.past o.deed it.legal old kind floor it.act_is it.reply_is;
  began = λ o con worker it still mirrors held. began o.shape o.controller o.past o.deed it.legal con worker it.act_is it.reply_is still held mirrors;
  ticked = λ o old add now it. ticked o.shape o.controller o.past o.deed it.legal old add now it.act_is it.reply_is;
  finished = λ o old worker basis it. finished o.shape o.controller o.past o.deed it.legal old worker basis it.act_is it.reply_is;
  goes_on = λ o x old it. goes_on o.shape o.controller o.past o.deed it.done.legal old x.worker x.basis x.asked x.given it.done.act_is it.done.reply_is it.its;
  breaks_off = λ o x old end it.
      breaks_off o.shape o.controller o.past o.deed it.done.legal old x.worker x.basis x.asked x.given end it.done.act_is it.done.reply_is it.its;
}
