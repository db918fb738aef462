use Rattle.std.proofs.Common.{List, [], ◌∷◌, ap, ◌∙◌}
use Rattle.indexmap.specs.IndexMap.{insert_entry}
use Rattle.jc_types.specs.declared.objects.Pod.{Pod}
use Rattle.jc_types.specs.declared.objects.KeyNames.{KeyNames as Key}
use Rattle.jc_types.specs.Keys.{same_key}
use Rattle.jc_cache.specs.Caches.{pods_at}
use Rattle.jc_cache.proofs.CacheFacts.{one-row}
use Rattle.jc_cache.proofs.pods.row_of.Goals as goal

-- The one row holds all pods.
pub returns : goal.returns
returns c = λ k.
    ap (pods_at k)
    (c.in_ok-insert.ensures.entries
    ∙ ap (λ (rows : List (Key × List Pod)). insert_entry same_key rows c.args.owner c.in_ok-new.field-0) c.new-rows.ensures.empty
    ∙ ap (λ (pods : List Pod). (c.args.owner, pods) ∷ []) c.in_ok-new.ensures)
    ∙ one-row c.args.owner c.args.pods c.requires k
