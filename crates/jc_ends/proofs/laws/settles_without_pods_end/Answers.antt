-- The lemmas on settles without pods.
use Rattle.jc_coming.specs.Drafts.{statuses_to_come}
use Rattle.jc_coming.specs.Moments.{keys_to_come, moments_to_come}
use Rattle.jc_ends.proofs.ComingFacts.{coming-falls}
use Rattle.jc_ends.proofs.PodlessFacts.{podless-ends}
use Rattle.jc_ends.proofs.laws.settles_without_pods_end.Goals as goal

pub returns : goal.returns
returns c = λ shape past legal valid some start leaves.
    podless-ends statuses_to_come moments_to_come keys_to_come coming-falls c.allowed_updates_stay_valid.ensures shape some start past legal valid leaves
