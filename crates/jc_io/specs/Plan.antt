-- Which calls are to fail: the calls of an object count from 1, and a plan lists the numbers of those that fail.
use Rattle.std.specs.Prelude.{ℕ, Bool, if◌then◌else◌, nat_eq, Vec}
use Rattle.std.specs.List.{list_any}
use Rattle.std.specs.declared.alloc.Global.{Global}
use Rattle.jc_io.specs.declared.plan.Plan.{Plan}
use Rattle.jc_io.specs.Faults.{raised_count}

-- the plan before the first call
abbrev pub new_plan : Vec ℕ Global → Plan
new_plan fails = record { fails = fails; calls = 0; faults = 0 }

-- whether the next call is among those that are to fail
abbrev pub fails_next : Plan → Bool
fails_next p = list_any (λ number. nat_eq number (raised_count p.calls)) p.fails.items

-- the plan after a call, which was refused or not: the call is counted, and so is its fault
abbrev pub after_call : Plan → Bool → Plan
after_call p refused = record p { calls = raised_count p.calls; faults = if refused then raised_count p.faults else p.faults }
