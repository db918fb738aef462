-- The path that a trail spells.
use Rattle.std.specs.Prelude.{ℕ, List, []}
use Rattle.jc_json.specs.Place.{path_to, path_at}
use Rattle.jc_json.specs.declared.trail.Chain.{Chain, fold-Chain}
use Rattle.jc_json.specs.declared.trail.Chain.TheOpen.{Chain-F}

-- one step, with the steps before it already spelled
abbrev pub spelled_step : Chain-F (List ℕ) → List ℕ
spelled_step Chain-F.Document = []
spelled_step (Chain-F.Member object name) = path_to object.now name.now
spelled_step (Chain-F.Item list index) = path_at list.now index

abbrev pub spelled : Chain → List ℕ
spelled = fold-Chain (List ℕ) spelled_step
