use Rattle.std.proofs.Common.{sym, ap, reverse, ◌∙◌}
use Rattle.jc_log.specs.Log.{entry_at}
use Rattle.jc_store.proofs.Versions.{entry_at-zero, entry_read}
use Rattle.jc_store.proofs.store.Store.entry.Goals as goal

pub returns-then-version-eq0 : goal.returns-then-version-eq0
returns-then-version-eq0 c =
    sym (ap (λ n. entry_at n c.args.self.now) c.if-version-eq0.true ∙ entry_at-zero c.args.self.now)

pub returns : goal.returns
returns c =
    entry_read c.as_slice.result.now c.args.self.now c.args.version.0 c.get.result
    (sym c.self.view_is ∙ ap reverse (sym c.as_slice.ensures)) c.if-version-eq0.false c.get.ensures.lookup
