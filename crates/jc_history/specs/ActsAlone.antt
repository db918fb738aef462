-- What is known of two histories, or of one, from the acts alone.
--     SameActs xs ys     the same lanes and acts, in the same order
use Rattle.std.specs.Prelude.{◌≡◌, List, [], ◌∷◌}
use Rattle.jc_log.specs.Deeds.{Deed}

-- The same lanes and acts, in the same order.
abbrev pub SameActs : List Deed → List Deed → Type 0
SameActs [] [] = Unit {0}
SameActs [] (e ∷ ys) = ⊥
SameActs (d ∷ xs) [] = ⊥
SameActs (d ∷ xs) (e ∷ ys) = (d.lane ≡ e.lane) × (d.act ≡ e.act) × SameActs xs ys
