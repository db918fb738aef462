use Rattle.std.proofs.Common.{rules, sym, subst}
use mathlib.Core.List.{IsPrefix}
use Rattle.jc_marks.proofs.Keeps.{grows_at}
use Rattle.jc_marks.proofs.log.Log.grow.Goals as goal

pub load-requires : goal.load-requires
load-requires g c =
    let more = subst (λ v. IsPrefix v.seen g.L.ListTag.list) (sym c.self.view_is) c.requires in
    let i = c.self.invariant in
    (i.1, search rules, grows_at _ _ g.L.ListTag.list c.self.inside.place.me.0.seen _ i.2 more)
