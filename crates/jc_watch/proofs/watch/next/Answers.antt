use Rattle.std.proofs.Common.{◌+◌, ap, sym, ◌∙◌, arith}
use Rattle.std.specs.Prelude.{option_copied}
use Rattle.jc_watch.proofs.Versions.{entry_there}
use Rattle.jc_watch.proofs.watch.next.Goals as goal

pub unreachable-requires : goal.unreachable-requires
unreachable-requires c =
    entry_there c.args.store.now (c.args.from.0 + 1) (omega arith)
    (omega (arith, c.requires, c.if-from-length.false, c.log_len-length.ensures))
    (sym c.entry.ensures ∙ ap option_copied c.in-None.is)
