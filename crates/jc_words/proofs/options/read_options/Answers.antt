use Rattle.std.proofs.Common.{◌∙◌, ◌∷◌, sym, ap, subst, arith, List, map, string_bytes, String, Global}
use Rattle.jc_words.specs.Options.{pairs_of}
use Rattle.jc_words.proofs.Reading.{IsRead, begins, ends, repeats_kept, takes_kept}
use Rattle.jc_words.proofs.options.read_options.Goals as goal
use Rattle.std.proofs.lemmas.List.{nil_from_length as nothing}

pub reading-init : goal.reading-init
reading-init c = begins _ c.new-said.result c.new-said.ensures

pub returns-then-is_some : goal.returns-then-is_some
returns-then-is_some c =
    let first = ap (λ ws. pairs_of (map string_bytes ws)) c.in-Some.ensures.cases.0
    ∙ ap (λ t. pairs_of (t ∷ map string_bytes c.in-Some.behind.now)) (sym c.as_str.ensures.value) ∙ c.in_ok-name.ensures.pairs in
    repeats_kept _ (map string_bytes c.reading.left.now) c.reading.said c.reading.invariant c.in_ok-name.name c.in_ok-name.value.now
    (map string_bytes c.in_ok-name.rest.now) first c.value.result c.value.ensures (sym c.if-is_some.ensures)

pub reading-smaller : goal.reading-smaller
reading-smaller c = omega (arith, c.in-Some.ensures.cases.1, c.in_ok-name.ensures.fewer)

pub reading-preserved : goal.reading-preserved
reading-preserved c =
    let first = ap (λ ws. pairs_of (map string_bytes ws)) c.in-Some.ensures.cases.0
    ∙ ap (λ t. pairs_of (t ∷ map string_bytes c.in-Some.behind.now)) (sym c.as_str.ensures.value) ∙ c.in_ok-name.ensures.pairs in
    takes_kept _ (map string_bytes c.reading.left.now) c.reading.said c.reading.invariant c.in_ok-name.name c.in_ok-name.value.now
    (map string_bytes c.in_ok-name.rest.now) first c.set.new.self c.value.result c.value.ensures (sym c.if-is_some.ensures) c.set.ensures

pub returns : goal.returns
returns c =
    let P : List (String Global) → Type 0 = λ left. IsRead (map string_bytes c.args.words.now) (map string_bytes left) c.reading.said in
    ends (map string_bytes c.args.words.now) c.reading.said (subst P (nothing c.reading.left.now c.in_default.ensures.cases) c.reading.invariant)
