-- The clock goes through the controllers one by one.
use Rattle.std.proofs.Common.{◌≡◌, ℕ, zero, suc, ◌+◌, ◌<◌, List, [], ◌∷◌, ◌++◌, length, map, set, get_or, take, drop, sym, ap, ◌∙◌, arith, add-one}

put_next_at : {A : Type 0} (f : A → A) (xs : List A) (i : ℕ) (x : A) → i < length xs → x ≡ get_or (map f (take i xs) ++ drop i xs) i x → set (map f (take i xs) ++ drop i xs) i (f x) ≡ map f (take (suc i) xs) ++ drop (suc i) xs
put_next_at f [] i x within at = absurd (omega (arith, within))
put_next_at f (y ∷ xs) zero x within at = ap (λ z. f z ∷ xs) at
put_next_at f (y ∷ xs) (suc i) x within at = ap (λ l. f y ∷ l) (put_next_at f xs i x (omega (arith, within)) at)

-- One more of them is changed.
pub put_next : {A : Type 0} (f : A → A) (xs new : List A) (i : ℕ) (x : A) → i < length xs → new ≡ map f (take i xs) ++ drop i xs → x ≡ get_or new i x → set new i (f x) ≡ map f (take (i + 1) xs) ++ drop (i + 1) xs
put_next f xs new i x within is at =
    ap (λ l. set l i (f x)) is ∙ put_next_at f xs i x within (at ∙ ap (λ l. get_or l i x) is) ∙ ap (λ n. map f (take n xs) ++ drop n xs) (sym (add-one i))
