-- What the laws speak of.
--     IsSeen own row          the row is an active tracked pod of these, at its version
use Rattle.std.specs.Prelude.{◌≡◌, true, List}
use Rattle.std.specs.List.{Contains}
use Rattle.jc_types.specs.declared.numbers.Uid.{Uid}
use Rattle.jc_types.specs.declared.numbers.Version.{Version}
use Rattle.jc_types.specs.declared.objects.Pod.{Pod}
use Rattle.jc_states.specs.Pods.{is_tracked_active}
use Rattle.jc_manage.specs.LetGoes.{seen}

-- The row is an active tracked pod of these, at its version.
pub record IsSeen (own : List Pod) (row : Uid × Version) : Type 0 where
  pub pod : Pod
  pub among : Contains own pod
  pub active : is_tracked_active pod ≡ true
  pub here : row ≡ seen pod
