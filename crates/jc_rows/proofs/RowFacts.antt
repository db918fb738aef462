-- Which refusal comes first.
use Rattle.std.proofs.Common.{◌≡◌, ◌∙◌, sym, ap, subst, ℕ, List, None, Result, Err}
use Rattle.std.specs.Option.{option_or}
use Rattle.jc_rows.specs.declared.refusals.ManifestFault.{ManifestFault}
use Rattle.jc_rows.specs.declared.refusals.ManifestFault.TheVariants.{Missing, WrongType, OutOfRange, Invalid, Want}
use Rattle.jc_rows.specs.ManifestRows.{Row, Reads, IsRefusal}

-- the refusal of a row is that of the rows from it on
pub refuses_or : (fault : ManifestFault) (row rest : Row) → IsRefusal fault row → IsRefusal fault (option_or row rest)
refuses_or (Missing path) row rest h = ap (λ r. option_or r rest) h
refuses_or (WrongType path) row rest h = ap (λ r. option_or r rest) h
refuses_or (OutOfRange path) row rest h = ap (λ r. option_or r rest) h
refuses_or (Invalid path rule) row rest h = ap (λ r. option_or r rest) h
refuses_or Want row rest h = tt

-- a row that refuses nothing is passed over
pub refuses_later : (fault : ManifestFault) (row rest : Row) → row ≡ None → IsRefusal fault rest → IsRefusal fault (option_or row rest)
refuses_later fault row rest none h = subst (λ r. IsRefusal fault (option_or r rest)) (sym none) h

-- an answer is read as the fault that it gives
pub reads_err : {X A : Type 0} (view : X → A) (result : Result X ManifestFault) (given fault : ManifestFault) (row : Row) (said : A)
    → result ≡ Err given → given ≡ fault → IsRefusal fault row → Reads view result row said
reads_err view result given fault row said is same h =
    subst (λ r. Reads view r row said) (sym is) (subst (λ f. IsRefusal f row) (sym same) h)

-- rows that refuse nothing
pub none_or : (row rest : Row) → row ≡ None → rest ≡ None → option_or row rest ≡ None
none_or row rest none more = ap (λ r. option_or r rest) none ∙ more

-- a row, and what is said, at an equal path and of an equal value
pub refuses_at : {A : Type 0} (fault : ManifestFault) (row : List ℕ → A → Row) (at at' : List ℕ) (a a' : A) → at ≡ at' → a ≡ a'
    → IsRefusal fault (row at a) → IsRefusal fault (row at' a')
refuses_at fault row at at' a a' path value h = subst (λ p. IsRefusal fault (row p a')) path (subst (λ v. IsRefusal fault (row at v)) value h)

pub none_at : {A : Type 0} (row : List ℕ → A → Row) (at at' : List ℕ) (a a' : A) → at ≡ at' → a ≡ a' → row at a ≡ None → row at' a' ≡ None
none_at row at at' a a' path value h = subst (λ p. row p a' ≡ None) path (subst (λ v. row at v ≡ None) value h)

pub said_at : {A B : Type 0} (said : List ℕ → A → B) (at at' : List ℕ) (a a' : A) (b : B) → at ≡ at' → a ≡ a' → b ≡ said at a → b ≡ said at' a'
said_at said at at' a a' b path value h = subst (λ p. b ≡ said p a') path (subst (λ v. b ≡ said at v) value h)
