use Rattle.std.proofs.Common.{◌≡◌, ℕ, ◌≤◌, length}
use Rattle.jc_table.specs.Pages.{places}
use Rattle.jc_table.proofs.numbered.trim.Given as goal

abbrev pub invariant-loop-page : goal.invariant-loop-page
invariant-loop-page g l =
    record {
      same : (n : ℕ) → places n l.page.items ≡ places n l.initial.page.items;
      shorter : length l.page.items ≤ length l.initial.page.items;
    }

abbrev pub decreases-loop-page : goal.decreases-loop-page
decreases-loop-page g l = length l.page.items
