-- The members of what is counted out.
use Rattle.jc_account.proofs.Totals.{counted_apart, same_members, unreleased_at}
use Rattle.jc_account.proofs.accounts.count_out.Goals as goal

pub returns : goal.returns
returns c = record {
  counted =
      counted_apart c.args.status.now c.args.released.now _ c.in_ok-succeeded.succeeded c.in_ok-failed.failed
      (unreleased_at c.as_slice.ensures c.as_slice-2.ensures c.in_ok-succeeded.ensures.rest)
      (unreleased_at c.as_slice-3.ensures c.as_slice-4.ensures c.in_ok-failed.ensures.rest)
      (same_members c.args.status.now _ _ _ _ _ _ c.in_ok-copy.ensures c.in_ok-copy-2.ensures c.in_ok-copy-3.ensures c.succeeded.view_is c.failed.view_is c.in_ok-copy-4.ensures)
      c.raised.ensures
      c.raised-2.ensures;
}
