-- Why a line is bad, and that an answer is exactly what a definition says.
--     cause_of refusal       the cause that a member was not read
--     Says view answer said  the answer is what is said, as seen by `view`; want of memory is free
--     cause_text cause       the text of a cause
use Rattle.std.specs.Prelude.{◌≡◌, ℕ, List, [], ◌∷◌, ◌++◌, Result, Ok, Err, codes, decimal}
use Rattle.jc_json.specs.Field.{Refusal, missing, wrong_type, out_of_range}
use Rattle.jc_json.specs.declared.field.FieldFault.{FieldFault}
use Rattle.jc_json.specs.declared.field.FieldFault.TheVariants as field
use Rattle.jc_rows.specs.declared.refusals.ManifestFault.{ManifestFault}
use Rattle.jc_rows.specs.declared.refusals.ManifestFault.TheVariants as manifest
use Rattle.jc_members.specs.declared.causes.Cause.{Cause}
use Rattle.jc_members.specs.declared.causes.Cause.TheVariants.{NotJson, LineTooLong, TooMany, Missing, WrongType, OutOfRange, Invalid}
use Rattle.jc_members.specs.declared.causes.LineFault.{LineFault}
use Rattle.jc_members.specs.declared.causes.LineFault.TheVariants.{Bad, Want}

-- the cause that a member was not read
abbrev pub cause_of : Refusal → Cause
cause_of (missing path) = Missing path
cause_of (wrong_type path) = WrongType path
cause_of (out_of_range path) = OutOfRange path

-- what was read of a member, or the cause that it was not
abbrev pub read_as : {A : Type 0} → Result A Refusal → Result A Cause
read_as (Ok a) = Ok a
read_as (Err refusal) = Err (cause_of refusal)

-- the fault of a member that was not read
abbrev pub fault_of_field : FieldFault → LineFault
fault_of_field (field.Missing path) = Bad (Missing path)
fault_of_field (field.WrongType path) = Bad (WrongType path)
fault_of_field (field.OutOfRange path) = Bad (OutOfRange path)
fault_of_field field.Want = Want

-- the fault of a manifest that is refused
abbrev pub of_manifest : ManifestFault → LineFault
of_manifest (manifest.Missing path) = Bad (Missing path)
of_manifest (manifest.WrongType path) = Bad (WrongType path)
of_manifest (manifest.OutOfRange path) = Bad (OutOfRange path)
of_manifest (manifest.Invalid path rule) = Bad (Invalid path rule)
of_manifest manifest.Want = Want

-- ---- answers

-- the fault has that cause. Want of memory may stand in place of any other answer
abbrev pub IsCause : LineFault → Cause → Type 0
IsCause (Bad found) cause = found ≡ cause
IsCause Want cause = Unit {0}

-- the fault is what is said
abbrev pub IsFault : {A : Type 0} → LineFault → Result A Cause → Type 0
IsFault (Bad cause) said = said ≡ Err cause
IsFault Want said = Unit {0}

-- the answer, as seen by `view`, is what is said
abbrev pub Says : {X A : Type 0} → (X → A) → Result X LineFault → Result A Cause → Type 0
Says view (Ok x) said = said ≡ Ok (view x)
Says view (Err fault) said = IsFault fault said

-- ---- texts

-- a path as it is printed: the empty one as a point
abbrev pub shown : List ℕ → List ℕ
shown [] = codes "."
shown (b ∷ bs) = b ∷ bs

abbrev pub cause_text : Cause → List ℕ
cause_text NotJson = codes "not json"
cause_text LineTooLong = codes "line too long"
cause_text TooMany = codes "too many commands"
cause_text (Missing path) = codes "missing " ++ shown path
cause_text (WrongType path) = codes "wrong type " ++ shown path
cause_text (OutOfRange path) = codes "out of range " ++ shown path
cause_text (Invalid path rule) = codes "invalid " ++ (shown path ++ (codes " rule " ++ decimal rule))
