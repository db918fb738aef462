use Rattle.std.proofs.Common.{◌∙◌, inl, inr, arith}
use Rattle.std.proofs.lemmas.Bool.{eq-eqb, ne_eqb, not_from_false}
use Rattle.std.proofs.lemmas.Option.{slice_get-get_or, same_Some}
use Rattle.jc_ranges.proofs.Numerals.{word_begins}
use Rattle.jc_ranges.proofs.elements.begins_plainly.Goals as goal

pub returns-in-None-clause-all : goal.returns-in-None-clause-all
returns-in-None-clause-all c = λ n numeral.
    let begins = word_begins n c.args.word.now numeral.0 numeral.1 in
    let some = slice_get-get_or c.args.word.now 0 0 begins.0 in
    let none = c.in-None.ensures.value in
    cc

pub returns-in-Some-eq48-clause-all : goal.returns-in-Some-eq48-clause-all
returns-in-Some-eq48-clause-all c = λ n numeral.
    let begins = word_begins n c.args.word.now numeral.0 numeral.1 in
    let is = same_Some _ _ (c.in-Some-eq48.ensures.value ∙ slice_get-get_or c.args.word.now 0 0 begins.0) in
    elim begins.1 [
      | inl zero_alone ↦ eq-eqb _ _ zero_alone.1
      | inr more ↦ absurd (omega (arith, more, is, c.in-Some-eq48.field-0-test))
    ]

pub returns-in-Some-clause-all : goal.returns-in-Some-clause-all
returns-in-Some-clause-all c = λ n numeral.
    let begins = word_begins n c.args.word.now numeral.0 numeral.1 in
    let is = same_Some _ _ (c.in-Some.ensures.value ∙ slice_get-get_or c.args.word.now 0 0 begins.0) in
    elim begins.1 [
      | inl zero_alone ↦ absurd (c.in-Some.first-test.1 (is ∙ zero_alone.0))
      | inr more ↦ not_from_false _ (ne_eqb _ _ (λ q. omega (arith, more, is)))
    ]
