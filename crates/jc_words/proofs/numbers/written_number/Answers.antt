-- A number that is read, and that is plain, is how it is written.
use Rattle.std.proofs.Common.{◌≡◌, ◌≢◌, ◌∙◌, ◌<◌, ◌⊎◌, refl, sym, subst, List, ℕ, length, slice_index}
use Rattle.jc_words.proofs.Decimals.{not_plain, plain, unread}
use Rattle.jc_words.proofs.numbers.written_number.Goals as goal

pub returns-in_err-number : goal.returns-in_err-number
returns-in_err-number c =
    rw c.from_residual.ensures (unread c.args.text.now c.parse.result c.parse.ensures.value.0 (sym c.ok.ensures.value ∙ c.in_err-number.was))

pub returns-then-is_plain : goal.returns-then-is_plain
returns-then-is_plain c =
    let P : List ℕ → Type 0 = λ t. (slice_index t 0 ≢ 43) × (slice_index t 0 ≡ 48 → length t ≡ 1) in
    plain c.args.text.now c.parse.result c.in_ok-number.number c.parse.ensures.value.0 (sym c.ok.ensures.value ∙ c.in_ok-number.was)
    (subst P c.as_bytes.ensures.value (c.if-is_plain.ensures.plain refl))

pub returns : goal.returns
returns c n few e =
    let P : List ℕ → Type 0 = λ t. (slice_index t 0 ≡ 43) ⊎ ((slice_index t 0 ≡ 48) × (1 < length t)) in
    not_plain c.args.text.now n few e (subst P c.as_bytes.ensures.value (c.if-is_plain.ensures.other refl))
