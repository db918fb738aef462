use Rattle.std.proofs.Common.{◌∷◌, [], ap, arith, length, length-append, subst, sym, ◌∙◌}
use Rattle.jc_table.specs.Pages.{AreShort, paged}
use Rattle.jc_table.proofs.PageFacts.{paged-push, short-push}
use Rattle.jc_table.proofs.numbered.grow_pages.Goals as goal

-- One more page, which has no place.
pub loop-alloc-preserved : goal.loop-alloc-preserved
loop-alloc-preserved g c =
    record {
      same = ap (paged 0) c.in_ok-push.ensures.items ∙ paged-push 0 c.loop-alloc.pages.items c.new.result c.new.ensures.items ∙ c.loop-alloc.invariant.same;
      short = subst AreShort (sym c.in_ok-push.ensures.items) (short-push c.loop-alloc.pages.items c.new.result c.loop-alloc.invariant.short c.new.ensures.items);
      grown = omega (arith, ap length c.in_ok-push.ensures.items, length-append c.loop-alloc.pages.items (c.new.result ∷ []));
    }
