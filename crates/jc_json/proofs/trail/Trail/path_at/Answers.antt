use Rattle.std.proofs.Common.{◌∙◌, ap}
use Rattle.jc_json.specs.Place.{path_at}
use Rattle.jc_json.proofs.TrailFacts.{spelled-Item}
use Rattle.jc_json.proofs.trail.Trail.path_at.Goals as goal

pub returns : goal.returns
returns c = spelled-Item _ c.args.index ∙ ap (λ list. path_at list c.args.index) c.self.view_is
