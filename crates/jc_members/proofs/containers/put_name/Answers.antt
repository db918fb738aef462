use Rattle.std.proofs.Common.{◌∙◌, ap}
use Rattle.serde_json.specs.Data.{put}
use Rattle.jc_json.specs.View.{ordered_view}
use Rattle.jc_json.proofs.Views.{ordered_view-insert}
use Rattle.jc_members.proofs.containers.put_name.Goals as goal

pub returns : goal.returns
returns c =
    let old = c.args.members.now.entries in
    ap ordered_view c.in_ok-insert.ensures.entries ∙ ordered_view-insert old _ _
    ∙ ap (λ d. put c.args.name.now d (ordered_view old)) c.requires
