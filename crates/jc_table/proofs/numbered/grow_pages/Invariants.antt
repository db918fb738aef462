use Rattle.std.proofs.Common.{◌≡◌, ◌+◌, ◌-◌, ◌≤◌, length, vec_len}
use Rattle.jc_table.specs.Pages.{AreShort, paged}
use Rattle.jc_table.proofs.numbered.grow_pages.Given as goal

abbrev pub invariant-loop-alloc : goal.invariant-loop-alloc
invariant-loop-alloc g l =
    record {
      same : paged 0 l.pages.items ≡ paged 0 l.initial.pages.items;
      short : AreShort l.pages.items;
      grown : length l.initial.pages.items ≤ length l.pages.items;
    }

abbrev pub decreases-loop-alloc : goal.decreases-loop-alloc
decreases-loop-alloc g l = l.page + 1 - vec_len l.pages
