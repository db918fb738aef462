-- A condition that is put, as far as the list was gone through.
use Rattle.std.proofs.Common.{◌≡◌, ◌≤◌, Bool, true, false, List, [], ◌∷◌, length, refl, ap, ◌∙◌, arith}
use Rattle.std.specs.Prelude.{fold}
use Rattle.jc_types.specs.declared.policies.Pattern.{Pattern}
use Rattle.jc_log.specs.Requests.{put_pattern}

-- What comes of the rest: as it is once the given one has its place, and else with it.
abbrev pub rest_of : Bool → List Pattern → Pattern → List Pattern
rest_of true rest given = rest
rest_of false rest given = put_pattern rest given

-- Where there were none, at most one that is given is all.
pub only_given : (old given : List Pattern) → old ≡ [] → length given ≤ 1 → fold put_pattern old given ≡ given
only_given old given none few = ap (λ old. fold put_pattern old given) none ∙ by given few
  where
    by : (given : List Pattern) → length given ≤ 1 → fold put_pattern [] given ≡ given
    by [] few = refl
    by (pattern ∷ []) few = refl
    by (pattern ∷ next ∷ given) few = absurd (omega (arith, few))
