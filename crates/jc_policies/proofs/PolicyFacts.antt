-- Policies that are given.
use Rattle.std.proofs.Common.{◌≡◌, sym, ◌∙◌, ap, subst, ℕ, List, Option, Some, None, option_map, Result, Ok, Bor}
use Rattle.std.specs.Result.{result_unwrap_or}
use Rattle.serde_json.specs.Data.{Data}
use Rattle.jc_json.specs.View.{view}
use Rattle.jc_json.specs.declared.value.Value.{Value}
use Rattle.jc_json.specs.Field.{Refusal}
use Rattle.jc_rows.specs.declared.refusals.ManifestFault.{ManifestFault}
use Rattle.jc_rows.specs.ManifestRows.{Row, IsRefusal, rows_of_given}

-- the value that was read is the one that is given
given : (read : Result (Option Data) Refusal) (found : Option (Bor Value)) (value : Bor Value)
    → read ≡ Ok (option_map (λ v. view v.now) found) → found ≡ Some value → read ≡ Ok (Some (view value.now))
given read found value e is = e ∙ ap (λ o. Ok (option_map (λ v. view v.now) o)) is

pub given_refused : (fault : ManifestFault) (row : List ℕ → Data → Row) (read : Result (Option Data) Refusal) (found : Option (Bor Value))
    (value : Bor Value) (at at' : List ℕ) → read ≡ Ok (option_map (λ v. view v.now) found) → found ≡ Some value → at ≡ at'
    → IsRefusal fault (row at (view value.now)) → IsRefusal fault (rows_of_given read (row at'))
given_refused fault row read found value at at' e is path h =
    subst (λ r. IsRefusal fault (rows_of_given r (row at'))) (sym (given read found value e is))
    (subst (λ p. IsRefusal fault (row p (view value.now))) path h)

pub given_none : (row : List ℕ → Data → Row) (read : Result (Option Data) Refusal) (found : Option (Bor Value))
    (value : Bor Value) (at at' : List ℕ) → read ≡ Ok (option_map (λ v. view v.now) found) → found ≡ Some value → at ≡ at'
    → row at (view value.now) ≡ None → rows_of_given read (row at') ≡ None
given_none row read found value at at' e is path h =
    ap (λ r. rows_of_given r (row at')) (given read found value e is) ∙ ap (λ p. row p (view value.now)) (sym path) ∙ h

pub given_said : {A : Type 0} (said : List ℕ → Data → A) (read : Result (Option Data) Refusal) (found : Option (Bor Value))
    (value : Bor Value) (at at' : List ℕ) (a : A) → read ≡ Ok (option_map (λ v. view v.now) found) → found ≡ Some value → at ≡ at'
    → a ≡ said at (view value.now) → Some a ≡ option_map (said at') (result_unwrap_or read None)
given_said said read found value at at' a e is path h =
    ap Some (h ∙ ap (λ p. said p (view value.now)) path)
    ∙ sym (ap (λ r. option_map (said at') (result_unwrap_or r None)) (given read found value e is))
