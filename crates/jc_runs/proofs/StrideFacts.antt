-- What the code of a step does, as the words for it say.
use Rattle.std.proofs.Common.{◌≡◌, ℕ, zero, suc, ◌<◌, Bool, false, cond, List, [], ◌∷◌, length, set, get_or, slice_get, Option, Some, None, is_some, refl, sym, ap, ◌∙◌}
use Rattle.std.specs.Option.{unwrap_or}
use Rattle.std.proofs.lemmas.Option.{slice_get_read}
use Rattle.jc_types.specs.declared.actions.Fault.{Fault}
use Rattle.jc_types.specs.declared.objects.Entry.{Entry}
use Rattle.jc_sync.specs.AllRegisters.{register_of}
use Rattle.jc_asks.specs.Steps.{Next, GoesOn, Ends, Sync}
use Rattle.jc_runs.specs.Teams.{Team, end_of_next, stride_at, stride_of}

pub read_at : {A : Type 0} (xs : List A) (i : ℕ) (x : A) (n : ℕ) → i < n → n ≡ length xs → x ≡ get_or xs i x → slice_get xs i ≡ Some x
read_at xs i x n within is at = slice_get_read xs n i x is within at

pub stride_is : (log : List Entry) (now : ℕ) (team seen : Team) (w : ℕ) (register : Option Sync) (fault : Option Fault) → team ≡ seen → slice_get team.registers w ≡ Some register → slice_get team.faults w ≡ Some fault
    → stride_of log now seen w ≡ stride_at log now fault team.con.schedule register
stride_is log now team seen w register fault view e f =
    ap (λ t. stride_of log now t w) (sym view) ∙ (λ i. stride_at log now (unwrap_or (f i) None) team.con.schedule (unwrap_or (e i) None))

set_twice : {A : Type 0} (xs : List A) (i : ℕ) (x y : A) → set (set xs i x) i y ≡ set xs i y
set_twice [] i x y = refl
set_twice (z ∷ xs) zero x y = refl
set_twice (z ∷ xs) (suc i) x y = ap (λ l. z ∷ l) (set_twice xs i x y)

-- The registers once the worker's was closed or not.
pub closed_register : (rs : List (Option Sync)) (w : ℕ) (over : Bool) (next : Next) (sync : Sync) → over ≡ is_some (end_of_next next) → (over ≡ false → register_of next ≡ Some sync)
    → cond over (set (set rs w (Some sync)) w None) (set rs w (Some sync)) ≡ set rs w (register_of next)
closed_register rs w over (GoesOn s) sync o goes = ap (λ b. cond b (set (set rs w (Some sync)) w None) (set rs w (Some sync))) o ∙ ap (set rs w) (sym (goes o))
closed_register rs w over (Ends end) sync o goes = ap (λ b. cond b (set (set rs w (Some sync)) w None) (set rs w (Some sync))) o ∙ set_twice rs w (Some sync) None
