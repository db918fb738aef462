use Rattle.std.proofs.Common.{◌≡◌, ℕ, ◌+◌, ◌-◌, ◌≤◌, length, vec_len}
use Rattle.jc_table.specs.Pages.{places}
use Rattle.jc_table.proofs.numbered.grow_page.Given as goal

abbrev pub invariant-loop-page : goal.invariant-loop-page
invariant-loop-page g l =
    record {
      same : (n : ℕ) → places n l.page.items ≡ places n l.initial.page.items;
      short : length l.page.items ≤ 64;
      grown : length l.initial.page.items ≤ length l.page.items;
    }

abbrev pub decreases-loop-page : goal.decreases-loop-page
decreases-loop-page g l = l.place + 1 - vec_len l.page
