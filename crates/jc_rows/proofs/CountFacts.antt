-- The numbers of pods.
use Rattle.std.proofs.Common.{◌≡◌, ℕ, List, Option, codes}
use Rattle.std.specs.Prelude.{unwrap_or}
use Rattle.serde_json.specs.Data.{Data}
use Rattle.jc_types.specs.declared.limits.TheConstants.{GREATEST_COMPLETIONS, GREATEST_PARALLELISM}
use Rattle.jc_rows.specs.declared.counts.Numbers.{Numbers}
use Rattle.jc_rows.specs.PodCountRows.{completions_or, parallelism_in, completions_in, numbers_in}
use Rattle.jc_rows.specs.ManifestRows.{number_in}

-- both numbers, with their defaults
pub numbers_said : (path : List ℕ) (spec : Data) (parallelism completions : Option ℕ) (running : ℕ) (wanted : Option ℕ)
    → running ≡ unwrap_or parallelism 1 → wanted ≡ completions_or parallelism completions
    → parallelism ≡ number_in path spec (codes "parallelism") GREATEST_PARALLELISM
    → completions ≡ number_in path spec (codes "completions") GREATEST_COMPLETIONS
    → (let numbers : Numbers = record { parallelism = running; completions = wanted } in numbers ≡ numbers_in path spec)
unfolding numbers_in parallelism_in completions_in
numbers_said path spec parallelism completions running wanted p w ps cs = cc
