-- When two keys, or two UIDs, are the same.
--     same_key a b      namespace and name agree byte by byte
--     same_uid a b      the numbers agree
use Rattle.std.specs.Prelude.{Bool, ◌&&◌, ◌==◌, nat_eq}
use Rattle.std.specs.Cmp.Lexicographic.{pointwise}
use Rattle.jc_types.specs.declared.numbers.Uid.{Uid}
pub use Rattle.jc_types.specs.declared.objects.KeyNames.{KeyNames as Key}

-- Namespace and name agree byte by byte.
abbrev pub same_key : Key → Key → Bool
same_key a b = pointwise nat_eq a.namespace b.namespace && pointwise nat_eq a.name b.name

-- The numbers agree.
abbrev pub same_uid : Uid → Uid → Bool
same_uid a b = a.0 == b.0
