-- Where it matters only whether a Job would make a pod, the first of those that it would make tells it.
use Rattle.std.proofs.Common.{◌≡◌, ℕ, zero, suc, nat_lt, Bool, true, false, if◌then◌else◌, List, [], ◌∷◌, Option, refl, sym, ap, arith, ◌∙◌, lt-ltb}
use Rattle.jc_types.specs.declared.specifications.Mode.{Mode}
use Rattle.jc_types.specs.declared.specifications.Mode.TheVariants.{NonIndexed, Indexed}
use Rattle.jc_manage.specs.Backoffs.{is_delayed_until}
use Rattle.jc_manage.specs.Creations.{creates, foremost, looked_for, new_pods, next}

pub front_pods : (one : Bool) → (mode : Mode) → (n : ℕ) → (free : List ℕ) → new_pods mode (looked_for one n) free ≡ foremost one (new_pods mode n free)
front_pods false mode n free = refl
front_pods true NonIndexed zero free = refl
front_pods true NonIndexed (suc n) free = ap (λ b. new_pods NonIndexed (if b then 1 else suc n) free) (lt-ltb 0 (suc n) (omega (arith)))
front_pods true Indexed zero free = refl
front_pods true Indexed (suc n) [] = ap (λ b. new_pods Indexed (if b then 1 else suc n) []) (lt-ltb 0 (suc n) (omega (arith)))
front_pods true Indexed (suc n) (f ∷ fs) = ap (λ b. new_pods Indexed (if b then 1 else suc n) (f ∷ fs)) (lt-ltb 0 (suc n) (omega (arith)))

pub next_front : (one : Bool) → (opening : Option ℕ) → (now : ℕ) → (made : List (Option ℕ)) → next opening now (foremost one made) ≡ next opening now made
next_front false opening now made = refl
next_front true opening now [] = refl
next_front true opening now (m ∷ ms) = refl

pub creates_front : (one : Bool) → (opening : Option ℕ) → (now : ℕ) → (made : List (Option ℕ)) → is_delayed_until opening now ≡ one → creates opening now (foremost one made) ≡ creates opening now made
creates_front false opening now made h = refl
creates_front true opening now made h =
    ap (λ b. if b then [] else foremost true made) h ∙ sym (ap (λ b. if b then [] else made) h)
