-- What rules find where there is nothing to find.
use Rattle.std.proofs.Common.{◌≡◌, false, List, [], ◌∷◌, refl}
use Rattle.jc_types.specs.declared.policies.Pattern.{Pattern}
use Rattle.jc_failpol.specs.Rules.{shows_one_of}

-- No pattern finds a condition where there is none.
pub shows-none : (patterns : List Pattern) → shows_one_of patterns [] ≡ false
shows-none [] = refl
shows-none (pattern ∷ patterns) = shows-none patterns
