-- The lemma on all turns.
use Rattle.jc_bounded.proofs.FoldFacts.{stays-within}
use Rattle.jc_bounded.proofs.laws.settles_make_no_pod_beyond.Goals as goal

pub returns : goal.returns
returns c = λ shape past events ends job f well. stays-within c.allowed_updates_stay_valid.ensures shape ends events past f job well
