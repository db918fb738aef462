-- What the completion mode of a Job decides about its successes (KEP-2214). A Job that is not Indexed counts
-- succeeded pods, by their UIDs; an Indexed Job counts completed indexes.
--     indexes_of pods                    the indexes of the pods
--     listing mode newly                 the UIDs that join the list of uncounted successes
--     kept_indexes ended n set           the completed indexes that stay, where n completions are wanted
--     indexes_below n pods               the indexes of the pods that are below n
--     completed_after mode ended n set newly    the completed indexes afterwards
--     succeeded_after mode total set     the succeeded total afterwards
--     gained before after                how many indexes a set has that the other has not
--     gain mode newly before after       how many successes are counted in now
use Rattle.std.specs.Prelude.{ℕ, nat_lt, Bool, not, List, [], filter, length, count_by, if◌then◌else◌}
use Rattle.std.specs.List.{filter_map}
use Rattle.jc_ranges.specs.Sets.{has}
use Rattle.jc_types.specs.declared.numbers.Uid.{Uid}
use Rattle.jc_types.specs.declared.objects.Pod.{Pod}
use Rattle.jc_types.specs.declared.specifications.Mode.{Mode}
use Rattle.jc_types.specs.declared.specifications.Mode.TheVariants.{NonIndexed, Indexed}
use Rattle.jc_states.specs.UidLists.{join, uids_of}

-- The indexes of the pods.
abbrev pub indexes_of : List Pod → List ℕ
indexes_of pods = filter_map (λ pod. pod.index) pods

-- The UIDs of newly judged successes that join the list. Those of an Indexed Job join none.
abbrev pub listing : Mode → List Pod → List Uid
listing NonIndexed pods = uids_of pods
listing Indexed pods = []

-- The completed indexes that stay: those below the completions. Once the Job has ended all stay.
abbrev pub kept_indexes : Bool → ℕ → List ℕ → List ℕ
kept_indexes ended completions completed =
    if ended then completed else filter (λ n. nat_lt n completions) completed

-- The indexes of the pods that are below the completions.
abbrev pub indexes_below : ℕ → List Pod → List ℕ
indexes_below completions pods = filter (λ n. nat_lt n completions) (indexes_of pods)

-- The completed indexes that stay, with those of the newly judged successes that are below the completions: where
-- fewer completions are wanted than before, the set may shrink.
abbrev pub completed_after : Mode → Bool → ℕ → List ℕ → List Pod → List ℕ
completed_after NonIndexed ended completions completed pods = completed
completed_after Indexed ended completions completed pods =
    join (kept_indexes ended completions completed) (indexes_below completions pods)

-- The total with those that left the list; of an Indexed Job, how many indexes are completed.
abbrev pub succeeded_after : Mode → ℕ → List ℕ → ℕ
succeeded_after NonIndexed total completed = total
succeeded_after Indexed total completed = length completed

-- How many members of the one set the set before it had not.
abbrev pub gained : List ℕ → List ℕ → ℕ
gained before after = count_by (λ n. not (has n before)) after

-- How many successes are counted in now: pods, or of an Indexed Job indexes that the set gained.
abbrev pub gain : Mode → List Pod → List ℕ → List ℕ → ℕ
gain NonIndexed pods before after = length pods
gain Indexed pods before after = gained before after
