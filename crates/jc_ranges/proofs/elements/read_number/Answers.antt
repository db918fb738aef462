use Rattle.std.proofs.Common.{◌≡◌, ◌≢◌, ◌⊎◌, ◌∙◌, ℕ, List, length, get_or, refl, sym, subst, arith}
use Rattle.std.proofs.lemmas.Result.{MatchResult-at_ok, MatchResult-at_err}
use Rattle.jc_ranges.proofs.Numerals.{decimal_utf8, parse_reads, parse_spells, err_of, ok_of}
use Rattle.jc_ranges.proofs.elements.read_number.Goals as goal

pub returns-in_err-ok : goal.returns-in_err-ok
returns-in_err-ok c =
    rw c.from_residual.ensures
    (λ n h e.
    let err = err_of c.from_utf8.result c.in_err-ok.ensures.value in
    (MatchResult-at_err _ _ err.0 err.1 c.from_utf8.ensures.cases).0 (decimal_utf8 n c.args.word.now h e))

pub returns-in_err-number : goal.returns-in_err-number
returns-in_err-number c =
    let same = (MatchResult-at_ok _ _ c.in_ok-ok.field-0 (ok_of _ c.from_utf8.result c.in_ok-ok.ensures.value) c.from_utf8.ensures.cases).0 in
    rw c.from_residual-in_err-number.ensures
    (λ n h e.
    let read = parse_reads n c.in_ok-ok.field-0.now c.parse.result h (same ∙ e) c.parse.ensures.value.0 in
    let err = err_of c.parse.result c.in_err-number.ensures.value in
    let other = err.1 in
    cc (read, other))

pub returns-then-number-gt-GREATEST_INDEX : goal.returns-then-number-gt-GREATEST_INDEX
returns-then-number-gt-GREATEST_INDEX c =
    let same = (MatchResult-at_ok _ _ c.in_ok-ok.field-0 (ok_of _ c.from_utf8.result c.in_ok-ok.ensures.value) c.from_utf8.ensures.cases).0 in
    λ n h e.
    let read = parse_reads n c.in_ok-ok.field-0.now c.parse.result h (same ∙ e) c.parse.ensures.value.0 in
    let number = ok_of c.in_ok-number.number c.parse.result c.in_ok-number.ensures.value in
    let is : n ≡ c.in_ok-number.number = cc (read, number) in
    omega (arith, is)

pub returns : goal.returns
returns c =
    let same = (MatchResult-at_ok _ _ c.in_ok-ok.field-0 (ok_of _ c.from_utf8.result c.in_ok-ok.ensures.value) c.from_utf8.ensures.cases).0 in
    let number = ok_of c.in_ok-number.number c.parse.result c.in_ok-number.ensures.value in
    let plain = subst (λ (w : List ℕ). ((get_or w 0 0 ≡ 48) × (length w ≡ 1)) ⊎ ((get_or w 0 0 ≢ 48) × (get_or w 0 0 ≢ 43))) (sym same) (c.if-not-begins_plainly.ensures.plain refl) in
    (omega arith, sym same ∙ parse_spells c.in_ok-number.number c.in_ok-ok.field-0.now c.parse.result plain c.parse.ensures.value.0 number)
