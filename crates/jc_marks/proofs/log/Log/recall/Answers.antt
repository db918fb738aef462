use Rattle.std.proofs.Common.{rules, ◌≡◌, ap, sym, ◌∙◌, true}
use Rattle.jc_marks.specs.MarkRules.{met_views}
use Rattle.jc_marks.proofs.Keeps.{meets, compares_at}
use Rattle.jc_marks.proofs.log.Log.recall.Goals as goal

pub join_seat-requires : goal.join_seat-requires
join_seat-requires c =
    let i = c.self.invariant in
    let name = ap (λ m. m.name) c.mark.view_is ∙ (c.requires ∙ sym (ap (λ l. l.name) c.self.view_is)) in
    (i.1, name, c.mark.invariant, search rules, meets _ _ _ _ (ap (λ m. m.0.is_log) i.2))

pub load-requires : goal.load-requires
load-requires c =
    let i = c.self.invariant in
    let v = c.self.inside.place.me.0 in
    let is : v.is_log ≡ true = ap (λ m. m.0.is_log) i.2 in
    let joined = c.join_seat.ensures.2 ∙ ap (λ cs. (met_views v c.mark.inside.place.me.0, cs)) (ap (λ m. m.1) i.2) in
    (search rules, search rules, compares_at _ _ (met_views v c.mark.inside.place.me.0) _ is joined)
