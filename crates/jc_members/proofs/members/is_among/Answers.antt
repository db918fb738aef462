use Rattle.std.proofs.Common.{◌∙◌, sym, bytes_eq, List, ℕ, Bor}
use Rattle.jc_types.proofs.ListFacts.{any_map}
use Rattle.jc_members.proofs.members.is_among.Goals as goal

pub returns : goal.returns
returns c =
    c.is_known.ensures
    ∙ sym (any_map (λ (k : Bor (List ℕ)). k.now) (λ k. bytes_eq k c.args.name.now) c.args.known.now)
