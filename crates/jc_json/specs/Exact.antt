-- That a reader's answer is exactly what a definition gives. Only want of memory is free.
use Rattle.std.specs.Prelude.{◌≡◌, ℕ, List, ℤ, Result, Ok, Err}
use Rattle.jc_json.specs.Field.{Refusal, missing, wrong_type, out_of_range}
use Rattle.jc_json.specs.declared.field.FieldFault.{FieldFault}
use Rattle.jc_json.specs.declared.field.FieldFault.TheVariants.{Missing, WrongType, OutOfRange, Want}
use Rattle.jc_json.specs.declared.numbers.Unfit.{Unfit}
use Rattle.jc_json.specs.declared.numbers.Unfit.TheVariants.{OfType, OfRange}

-- the fault is the refusal that was read
abbrev pub Refuses : {A : Type 0} → FieldFault → Result A Refusal → Type 0
Refuses (Missing path) read = read ≡ Err (missing path)
Refuses (WrongType path) read = read ≡ Err (wrong_type path)
Refuses (OutOfRange path) read = read ≡ Err (out_of_range path)
Refuses Want read = Unit {0}

-- the answer, as seen by `view`, is what was read
abbrev pub Gives : {X A : Type 0} → (X → A) → Result X FieldFault → Result A Refusal → Type 0
Gives view (Ok x) read = read ≡ Ok (view x)
Gives view (Err fault) read = Refuses fault read

-- the number, or its refusal with that path
abbrev pub refused_number : List ℕ → Result ℤ Unfit → Result ℤ Refusal
refused_number path (Ok n) = Ok n
refused_number path (Err OfType) = Err (wrong_type path)
refused_number path (Err OfRange) = Err (out_of_range path)
