use Rattle.std.proofs.Common.{ap, arith, length, nat_le, nat_lt, ◌∙◌, ◌≡◌}
use Rattle.std.specs.List.{list_any}
use Rattle.jc_states.proofs.HeldFacts.{any-from}
use Rattle.jc_states.proofs.held.Held.has_from.Goals as goal

pub returns : goal.returns
returns c =
    let seen = c.self.inside.indexes.items in
    let len : c.len.result ≡ length seen = omega (arith, c.len.ensures, c.self.inside.indexes.ok) in
    ap (nat_lt c.place_for.result) len
    ∙ ap (λ i. nat_lt i (length seen)) c.place_for.ensures
    ∙ any-from c.args.first seen
    ∙ ap (list_any (λ n. nat_le c.args.first n)) c.self.view_is
