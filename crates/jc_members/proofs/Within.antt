-- What a line says is known part by part, and its numbers are within bounds.
use Rattle.std.proofs.Common.{◌≡◌, refl, sym, ℕ, ◌≤◌, ℤ, pos, negsuc, nat_abs, List, nat_le, Bool, true, false, ◌&&◌, cond, Option, Some, None, IfSome, Result, Ok, Err, true≢false, arith}
use Rattle.std.specs.Prelude.{IfOk, int_le, ok_or, option_map, option_and_then, unwrap_or}
use Rattle.std.proofs.lemmas.Bool.{leb-true, and_parts}
use Rattle.serde_json.specs.Data.{Data}
use Rattle.serde_json.specs.Find.{as_integer, as_number}
use Rattle.jc_json.specs.Field.{◌>>=◌, wrong_type, out_of_range, member_of, bounded_number, may_be, within_bounds, optional_number}
use Rattle.jc_json.specs.Place.{path_to}
use Rattle.jc_members.specs.LineCauses.{read_as}
use Rattle.jc_members.specs.Members.{given_number_in}

-- ---- answers one after the other

-- what follows from what is known of the first one
pub using_first : {A B E : Type 0} (P : B → Type 0) (Q : A → Type 0) (first : Result A E) (next : A → Result B E)
    → IfOk first Q → ((a : A) → Q a → IfOk (next a) P) → IfOk (first >>= next) P
using_first P Q (Ok a) next known holds = holds a known
using_first P Q (Err fault) next known holds = tt

-- nothing need be known of it
pub whatever : {A B E : Type 0} (P : B → Type 0) (first : Result A E) (next : A → Result B E)
    → ((a : A) → IfOk (next a) P) → IfOk (first >>= next) P
whatever P (Ok a) next holds = holds a
whatever P (Err fault) next holds = tt

-- ---- numbers within bounds

abbrev pub IsUpTo : ℕ → Option ℕ → Type 0
IsUpTo greatest o = IfSome o (λ n. n ≤ greatest)

pub whole_is_within : (path : List ℕ) (least greatest : ℕ) (z : ℤ) (b : Bool)
    → (int_le (pos least) z && int_le z (pos greatest)) ≡ b
    → IfOk (read_as (cond b (Ok z) (Err (out_of_range path)) >>= (λ a. Ok (Some a))) >>= λ o. Ok (option_map nat_abs o))
    (IsUpTo greatest)
whole_is_within path least greatest (pos n) true e =
    leb-true n greatest ((and_parts (nat_le least n) (nat_le n greatest) e).1)
whole_is_within path least greatest (negsuc n) true e = absurd (true≢false (sym e))
whole_is_within path least greatest z false e = tt

pub number_is_within : (path : List ℕ) (least greatest : ℕ) (w : Option ℤ)
    → IfOk (read_as ((ok_or w (wrong_type path) >>= within_bounds path (pos least) (pos greatest)) >>= (λ a. Ok (Some a)))
    >>= λ o. Ok (option_map nat_abs o)) (IsUpTo greatest)
number_is_within path least greatest None = tt
number_is_within path least greatest (Some z) =
    whole_is_within path least greatest z (int_le (pos least) z && int_le z (pos greatest)) refl

pub member_is_within : (path : List ℕ) (least greatest : ℕ) (o : Option Data)
    → IfOk (read_as (may_be (bounded_number path (pos least) (pos greatest)) o) >>= λ o. Ok (option_map nat_abs o))
    (IsUpTo greatest)
member_is_within path least greatest None = tt
member_is_within path least greatest (Some d) =
    number_is_within path least greatest (option_and_then as_integer (as_number d))

pub given_is_within : (path name : List ℕ) (least greatest : ℕ) (d : Data)
    → IfOk (given_number_in path name least greatest d) (IsUpTo greatest)
unfolding given_number_in optional_number
given_is_within path name least greatest d =
    member_is_within (path_to path name) least greatest (member_of name d)

pub or_zero : (o : Option ℕ) (greatest : ℕ) → IsUpTo greatest o → unwrap_or o 0 ≤ greatest
or_zero None greatest within_bounds = omega arith
or_zero (Some n) greatest within_bounds = within_bounds
