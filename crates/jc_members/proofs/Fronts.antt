-- Lists that are read item by item.
use Rattle.std.proofs.Common.{◌≡◌, refl, ap, List, [], ◌∷◌, ◌++◌, Result, Ok, Err, append_assoc}
use Rattle.jc_members.specs.Items.{with_front}

-- one more item in front
pub one_more : {A E : Type 0} (front : List A) (a : A) (rest : Result (List A) E)
    → with_front (front ++ a ∷ []) rest ≡ with_front front (with_front (a ∷ []) rest)
one_more front a (Ok rest) = ap (λ xs. Ok xs) (append_assoc front (a ∷ []) rest)
one_more front a (Err fault) = refl
