-- The number of a cache: up to which version it has seen the log.
--     number kind notes      that of the newest list or delivery; none where the cache expired since, or a
--                            request was not answered
use Rattle.std.specs.Prelude.{List, Option, Some, None, if◌then◌else◌}
use Rattle.std.specs.Option.{unwrap_or}
use Rattle.jc_control.specs.ControllerCalls.{forgets_caches}
use Rattle.jc_types.specs.declared.numbers.Version.{Version}
use Rattle.jc_types.specs.declared.objects.Kind.{Kind}
use Rattle.jc_types.specs.declared.objects.Kind.TheVariants.{Jobs, Pods}
use Rattle.jc_history.specs.Notes.{Note, Listed, Told, Expired, Ended, newest}

module _ {A : Type 0} where
  -- The value, where the kinds are the same.
  abbrev pub where_same : Kind → Kind → A → Option A
  where_same Jobs Jobs x = Some x
  where_same Jobs Pods x = None
  where_same Pods Jobs x = None
  where_same Pods Pods x = Some x

-- What a note tells of the cache: its number, or that it has none.
abbrev pub number_told : Kind → Note → Option (Option Version)
number_told kind (Listed other at keys) = where_same kind other (Some at)
number_told kind (Told other version key) = where_same kind other (Some version)
number_told kind (Expired other) = where_same kind other None
number_told kind (Ended worker basis end now) = if forgets_caches end then Some None else None
number_told kind note = None

-- The number of the cache.
abbrev pub number : Kind → List Note → Option Version
number kind notes = unwrap_or (newest (number_told kind) notes) None
