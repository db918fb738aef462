-- Lists that are empty, and one more.
use Rattle.std.proofs.Common.{◌≡◌, ℕ, zero, suc, List, [], ◌∷◌, ◌++◌, Vec, refl}
use Rattle.std.specs.declared.alloc.Global.{Global}
use Rattle.jc_verdicts.specs.ByUid.{AreEmpty}

pub empty_more : (lists : List (Vec ℕ Global)) (list : Vec ℕ Global) → list.items ≡ [] → AreEmpty lists → AreEmpty (lists ++ list ∷ [])
empty_more [] list none are zero = none
empty_more [] list none are (suc i) = refl
empty_more (first ∷ lists) list none are zero = are zero
empty_more (first ∷ lists) list none are (suc i) = empty_more lists list none (λ j. are (suc j)) i
