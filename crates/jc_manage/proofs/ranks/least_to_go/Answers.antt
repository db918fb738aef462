use Rattle.std.proofs.Common.{◌-◌, length}
use Rattle.jc_manage.proofs.Ranked.{told_alike, less-is}
use Rattle.jc_manage.specs.Ranks.{is_below_rank}
use Rattle.jc_manage.proofs.ranks.least_to_go.Goals as goal

pub returns : goal.returns
returns c =
    told_alike _ is_below_rank less-is c.args.ranks.items (length c.args.ranks.items - c.args.staying) _ c.least_of_greatest.ensures
