-- The items of a list, each with its place.
--     each_said read place ds     what each item says, from the place on, or the first cause
--     all_said read xs            what each of a list says, or the first cause
--     with_front front said       what is said, behind what was said before
use Rattle.std.specs.Prelude.{ℕ, ◌+◌, List, [], ◌∷◌, ◌++◌, Result, Ok, Err}
use Rattle.serde_json.specs.Data.{Data}
use Rattle.jc_members.specs.declared.causes.Cause.{Cause}

-- what is said, behind what was said before it
abbrev pub with_front : {A E : Type 0} → List A → Result (List A) E → Result (List A) E
with_front front (Ok rest) = Ok (front ++ rest)
with_front front (Err fault) = Err fault

-- the first item's answer, and those of the rest
abbrev pub then_each : {A : Type 0} → Result A Cause → Result (List A) Cause → Result (List A) Cause
then_each (Ok a) rest = with_front (a ∷ []) rest
then_each (Err cause) rest = Err cause

abbrev pub each_said : {A : Type 0} → (ℕ → Data → Result A Cause) → ℕ → List Data → Result (List A) Cause
each_said read place [] = Ok []
each_said read place (d ∷ ds) = then_each (read place d) (each_said read (place + 1) ds)

abbrev pub all_said : {X A : Type 0} → (X → Result A Cause) → List X → Result (List A) Cause
all_said read [] = Ok []
all_said read (x ∷ xs) = then_each (read x) (all_said read xs)
