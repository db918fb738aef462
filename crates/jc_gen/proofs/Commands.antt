-- What holds of each command of a generated script.
use Rattle.std.proofs.Common.{◌≡◌, ◌≢◌, ◌⊎◌, inl, inr, refl, ℕ, zero, suc, ◌+◌, ◌<◌, ◌≤◌, ◌++◌, List, [], ◌∷◌, length, ap, arith, flat_map}
use Rattle.std.specs.List.{AllByRecursion as Each, range_with_len}
use Rattle.jc_types.specs.declared.actions.Action1.TheVariants.{Settle}
use Rattle.jc_types.specs.declared.actions.Command.{Command}
use Rattle.jc_states.specs.ValidActions.{AreValidCommands, IsValidAction}
use Rattle.jc_gen.proofs.Fit.{spec_is_valid, some_end}
use Rattle.jc_gen.specs.Generated.{IsGenerated, creation, fate_command, generated, job_commands, job_ends, on_first_lane}

-- The creations and fates of the Jobs from a place on, and the settle behind them.
from_place : (P : Command → Type 0) (number jobs pods : ℕ)
    → ((i : ℕ) → i < jobs → P (creation number pods i)) → ((i : ℕ) → i < jobs → P (fate_command number i))
    → P (on_first_lane Settle) → (a n : ℕ) → a + n ≤ jobs
    → Each P (flat_map (job_commands number pods) (range_with_len a n) ++ on_first_lane Settle ∷ [])
from_place P number jobs pods created fated settled a zero within = (settled, tt)
from_place P number jobs pods created fated settled a (suc n) within =
    let here : a < jobs = omega arith in
    (created a here, (fated a here, from_place P number jobs pods created fated settled (a + 1) n (omega arith)))

-- What holds of each creation, of each fate and of the settle holds of each command.
pub each_command : (P : Command → Type 0) (number jobs pods : ℕ)
    → ((i : ℕ) → i < jobs → P (creation number pods i)) → ((i : ℕ) → i < jobs → P (fate_command number i))
    → P (on_first_lane Settle) → Each P (generated number jobs pods).commands
unfolding generated
each_command P number jobs pods created fated settled =
    from_place P number jobs pods created fated settled 0 jobs (omega arith)

pub each_is_generated : (number jobs pods : ℕ)
    → Each (λ (command : Command). IsGenerated number jobs pods command) (generated number jobs pods).commands
each_is_generated number jobs pods =
    each_command (λ (command : Command). IsGenerated number jobs pods command) number jobs pods
    (λ i within. inl (i, within, refl)) (λ i within. inr (inl (i, within, refl))) (inr (inr refl))

ends_are_some : (number i : ℕ) → job_ends number i ≢ []
ends_are_some number i none = let some = some_end number i in absurd (omega (arith, some, ap length none))

pub each_is_valid : (number jobs pods : ℕ) → 1 ≤ pods → pods ≤ 20
    → AreValidCommands (generated number jobs pods).commands
each_is_valid number jobs pods some few =
    each_command (λ (command : Command). IsValidAction command.action) number jobs pods
    (λ i within. spec_is_valid number pods i some few) (λ i within. ends_are_some number i) tt
