use Rattle.std.proofs.Common.{◌∙◌, ap}
use Rattle.jc_json.specs.Place.{path_to}
use Rattle.jc_json.proofs.TrailFacts.{spelled-Member}
use Rattle.jc_json.proofs.trail.Trail.path_to.Goals as goal

pub returns : goal.returns
returns c =
    spelled-Member _ c.args.name ∙ ap (λ object. path_to object c.args.name.now) c.self.view_is
