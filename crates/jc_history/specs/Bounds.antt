-- The versions that deeds tell are places of the log.
--     IsTold n act reply      the versions that a list, a delivery or a begin was answered are at most n
--     AreTold n deeds         so are those of each deed
use Rattle.std.specs.Prelude.{ℕ, ◌≤◌, List}
use Rattle.std.specs.List.{AllByRecursion as Each}
use Rattle.jc_log.specs.Acts as does
use Rattle.jc_types.specs.declared.replies.Reply.{Reply}
use Rattle.jc_types.specs.declared.replies.Reply.TheVariants as reply
use Rattle.jc_log.specs.Acts.{Act}
use Rattle.jc_log.specs.Deeds.{Deed}

-- The versions that the reply tells are at most n.
abbrev pub TellsWithin : ℕ → Reply → Type 0
TellsWithin n (reply.Listed at) = at.0 ≤ n
TellsWithin n (reply.Delivered version) = version.0 ≤ n
TellsWithin n (reply.Begun key jobs_at pods_at) = (jobs_at.0 ≤ n) × (pods_at.0 ≤ n)
TellsWithin n other = Unit {0}

-- The versions that a list, a delivery or a begin was answered are at most n.
abbrev pub IsTold : ℕ → Act → Reply → Type 0
IsTold n (does.List controller kind) reply = TellsWithin n reply
IsTold n (does.Deliver controller kind) reply = TellsWithin n reply
IsTold n (does.Begin controller worker) reply = TellsWithin n reply
IsTold n other reply = Unit {0}

-- So it is of each of the deeds.
abbrev pub AreTold : ℕ → List Deed → Type 0
AreTold n deeds = Each (λ d. IsTold n d.act d.reply) deeds
