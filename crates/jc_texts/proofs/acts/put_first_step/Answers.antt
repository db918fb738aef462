-- The digit of the first ones.
use Rattle.std.proofs.Common.{◌≡◌, [], ◌∷◌, arith, decimal, rules}
use Rattle.std.proofs.lemmas.Fmt.{decimal_digit}
use Rattle.jc_texts.proofs.acts.put_first_step.Goals as goal

pub returns : goal.returns
returns c =
    let zero : decimal 0 ≡ 48 ∷ [] = decimal_digit 0 (omega arith) in
    search (rules, zero)
