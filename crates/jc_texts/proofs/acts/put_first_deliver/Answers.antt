-- The digit of the first one.
use Rattle.std.proofs.Common.{◌≡◌, [], ◌∷◌, arith, decimal, rules}
use Rattle.std.proofs.lemmas.Fmt.{decimal_digit}
use Rattle.jc_texts.proofs.acts.put_first_deliver.Goals as goal

pub returns-in-Jobs : goal.returns-in-Jobs
returns-in-Jobs c =
    let zero : decimal 0 ≡ 48 ∷ [] = decimal_digit 0 (omega arith) in
    search (rules, zero)

pub returns-in-Pods : goal.returns-in-Pods
returns-in-Pods c =
    let zero : decimal 0 ≡ 48 ∷ [] = decimal_digit 0 (omega arith) in
    search (rules, zero)
