use Rattle.jc_control.proofs.LawFacts.{forgot-delays, forgot-known, forgot-number, forgot-queue, idle-number, lost-number}
use Rattle.jc_control.proofs.laws.forgotten_caches_have_no_number.Goals as goal

pub returns : goal.returns
returns c = record {
  forgot = forgot-number;
  queue = forgot-queue;
  delays = forgot-delays;
  known = forgot-known;
  unavailable = lost-number;
  idle = idle-number;
}
