-- How the pods of keys are to end, as commands have said.
--     Fates                      the ends of each key's pods, where some were said
--     AreFated deeds fates       they are those that the deeds say
--     WithFate fates new k ends  the new ones have these ends at the key, and are else as before
use Rattle.std.specs.Prelude.{◌≡◌, List, if◌then◌else◌, Option, Some}
use Rattle.jc_types.specs.declared.actions.End.{End}
use Rattle.jc_types.specs.declared.objects.KeyNames.{KeyNames as Key}
use Rattle.jc_types.specs.Keys.{same_key}
use Rattle.jc_log.specs.Deeds.{Deed}
use Rattle.jc_history.specs.Nodes.{fate}

-- The ends of each key's pods, where some were said.
abbrev pub Fates : Type 0
Fates = Key → Option (List End)

-- They are those that the deeds say.
abbrev pub AreFated : List Deed → Fates → Type 0
AreFated deeds fates = (k : Key) → fates k ≡ fate deeds k

-- The new ones have these ends at the key, and are as before at every other.
abbrev pub WithFate : Fates → Fates → Key → List End → Type 0
WithFate fates new key ends =
    (k : Key) → new k ≡ (if same_key key k then Some ends else fates k)
