-- The name's text is the name.
use Rattle.std.proofs.Common.{◌≡◌, ◌++◌, List, ℕ, OnOk, codes, string_bytes}
use Rattle.std.proofs.Common.{subst, ◌∙◌}
use Rattle.jc_texts.proofs.replies.print_no_container.Goals as goal

pub returns : goal.returns
returns c =
    subst (λ (name : List ℕ). OnOk c.print_pair.result
    (string_bytes c.print_pair.new.out ≡ string_bytes c.args.out.now ++ (codes "no-container " ++ name)))
    (c.as_str.ensures.value ∙ c.deref.ensures) c.print_pair.ensures.text
