-- The first pair of some words.
use Rattle.std.proofs.Common.{◌∙◌, sym, ap, map, string_bytes}
use Rattle.jc_words.proofs.Pairs.{joined_named, joined_unnamed, apart_named, apart_unnamed, alone}
use Rattle.jc_words.proofs.options.first_option.Goals as goal
use Rattle.std.proofs.lemmas.List.{nil_from_length as nothing}

pub returns-in_err-option_named-clause-pairs : goal.returns-in_err-option_named-clause-pairs
returns-in_err-option_named-clause-pairs c =
    let named = sym c.option_named.ensures ∙ c.in_err-option_named.was in
    rw c.from_residual.ensures (joined_unnamed c.args.word.now (c.in-Some.name.now, c.in-Some.value.now) (map string_bytes c.args.behind.now) c.in-Some.ensures named)

pub returns-in-Some-clause-pairs : goal.returns-in-Some-clause-pairs
returns-in-Some-clause-pairs c =
    let named = sym c.option_named.ensures ∙ c.in_ok-option_named.was in
    joined_named c.args.word.now (c.in-Some.name.now, c.in-Some.value.now) c.in_ok-option_named.field-0 (map string_bytes c.args.behind.now) c.in-Some.ensures named

pub returns-in_err-value-clause-pairs : goal.returns-in_err-value-clause-pairs
returns-in_err-value-clause-pairs c =
    rw c.from_residual-in_err-value.ensures (alone c.args.word.now _ c.in_default.ensures (ap (map string_bytes) (nothing c.args.behind.now c.in_err-value.ensures.cases)))

pub returns-in_err-option_named-2-clause-pairs : goal.returns-in_err-option_named-2-clause-pairs
returns-in_err-option_named-2-clause-pairs c =
    let named = sym c.option_named-2.ensures ∙ c.in_err-option_named-2.was in
    rw c.from_residual-in_err-option_named-2.ensures (apart_unnamed c.args.word.now (string_bytes c.in_ok-value.value.now) _ (map string_bytes c.in_ok-value.rest.now) c.in_default.ensures
    (ap (map string_bytes) c.in_ok-value.ensures.cases.0) named)

pub returns-clause-pairs : goal.returns-clause-pairs
returns-clause-pairs c =
    let named = sym c.option_named-2.ensures ∙ c.in_ok-option_named-2.was in
    let two = ap (map string_bytes) c.in_ok-value.ensures.cases.0 in
    rw c.as_str.ensures.value (apart_named c.args.word.now c.in_ok-option_named-2.field-0 (string_bytes c.in_ok-value.value.now) _ (map string_bytes c.in_ok-value.rest.now) c.in_default.ensures two named)
