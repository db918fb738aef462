-- Which acts say how pods end: a command for it alone.
use Rattle.std.proofs.Common.{◌≡◌, ℕ, None, ap}
use Rattle.jc_log.specs.Acts as does
use Rattle.jc_log.specs.Acts.{Act}
use Rattle.jc_log.specs.Deeds.{Deed}
use Rattle.jc_types.specs.declared.objects.KeyNames.{KeyNames as Key}
use Rattle.jc_history.specs.Nodes.{fate_told}
use Rattle.jc_runs.proofs.NoteFacts.{IsOf, IsStoreAct}

-- The act says nothing of how pods end.
abbrev pub KeepsFates : Act → Type 0
KeepsFates (does.Fate key ends) = ⊥
KeepsFates other = Unit {0}

pub fate_told-none : (k : Key) (d : Deed) (act : Act) → d.act ≡ act → KeepsFates act → fate_told k d ≡ None
fate_told-none k d (does.Fate key ends) e keeps = absurd keeps
fate_told-none k d other e keeps = ap (λ act. fate_told k (record d { act = act })) e

pub own_fates : (i : ℕ) (act : Act) → IsOf i act → KeepsFates act
own_fates i (does.Fate key ends) o = absurd o
own_fates i other o = tt

pub store_fates : (act : Act) → IsStoreAct act → KeepsFates act
store_fates (does.Fate key ends) s = absurd s
store_fates other s = tt
