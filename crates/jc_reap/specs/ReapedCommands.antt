-- What the commands of a reaper say: such numbers as a script may, and keys that a create command gave.
--     IsSmallTtl ttl            the TTL, if there is one, is a number of 31 bits
--     Creates P action          of the key of a Job that the action creates it holds
--     CanBeSaid P action        what the action of a reaper says is so
--     AllCreate P commands, AllCanBeSaid P commands      of each of the commands the one or the other holds
use Rattle.std.specs.Prelude.{ℕ, ◌≤◌, ◌<◌, ◌^◌, List, Option, IfSome}
use Rattle.std.specs.List.{AllByRecursion as Each}
use Rattle.jc_types.specs.declared.actions.Action1.{Action1}
use Rattle.jc_types.specs.declared.actions.Action1.TheVariants as act
use Rattle.jc_types.specs.declared.actions.Command.{Command}
use Rattle.jc_types.specs.declared.objects.KeyNames.{KeyNames as Key}
use Rattle.jc_reap.specs.TtlLines.{greatest_ttl}

-- The TTL, if there is one, is a number of 31 bits.
abbrev pub IsSmallTtl : Option ℕ → Type 0
IsSmallTtl ttl = IfSome ttl (λ seconds. seconds ≤ greatest_ttl)

-- Of the key of a Job that the action creates it holds.
abbrev pub Creates : (Key → Type 0) → Action1 → Type 0
Creates P (act.Create key spec) = P key
Creates P other = Unit {0}

-- It deletes a Job of such a key, marks a pod by a number of 32 bits, waits for no more seconds than 32 bits hold, or
-- settles.
abbrev pub CanBeSaid : (Key → Type 0) → Action1 → Type 0
CanBeSaid P (act.Delete key) = P key
CanBeSaid P (act.Mark pod) = (1 ≤ pod.0) × (pod.0 < 2 ^ 32)
CanBeSaid P (act.Clock add) = add < 2 ^ 32
CanBeSaid P act.Settle = Unit {0}
CanBeSaid P other = ⊥

-- Of the keys of all Jobs that the commands create it holds.
abbrev pub AllCreate : (Key → Type 0) → List Command → Type 0
AllCreate P commands = Each (λ (command : Command). Creates P command.action) commands

-- What the commands of a reaper say is so.
abbrev pub AllCanBeSaid : (Key → Type 0) → List Command → Type 0
AllCanBeSaid P commands = Each (λ (command : Command). CanBeSaid P command.action) commands
