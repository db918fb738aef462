-- The name stands behind the request and the words in front of it.
use Rattle.std.proofs.Common.{◌≡◌, ◌++◌, List, ℕ, OnOk, codes, string_bytes, ap, subst, ◌∙◌, append_assoc}
use Rattle.jc_types.specs.declared.replies.Answer.TheVariants as answer
use Rattle.jc_texts.specs.ReplyTexts.{answer_text, request_text}
use Rattle.jc_texts.proofs.replies.print_stepped_at.Goals as goal

pub returns : goal.returns
returns c =
    let old = string_bytes c.args.out.now in
    let request = request_text c.args.request.now in
    let said = answer_text (answer.NoContainer c.args.name.now) in
    subst (λ (text : List ℕ). OnOk c.print_no_container.result (string_bytes c.print_no_container.new.out ≡ text))
    (ap (λ (l : List ℕ). l ++ said) c.in_ok-print_request.ensures.text
    ∙ append_assoc old (request ++ codes " ") said
    ∙ ap (λ (l : List ℕ). old ++ l) (append_assoc request (codes " ") said))
    c.print_no_container.ensures
