-- Results that may be an error.
use Rattle.std.specs.Prelude.{OnErr, Result, Ok, Err}

-- What holds anyway holds where a result is an error.
pub on_err : {X E : Type 0} (r : Result X E) (P : Type 0) → P → OnErr r P
on_err (Ok x) P h = tt
on_err (Err e) P h = h
