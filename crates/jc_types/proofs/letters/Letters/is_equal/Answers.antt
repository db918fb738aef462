use Rattle.std.proofs.Common.{◌≡◌, ℕ, ◌%◌, nat_eq, true, List, sym, ◌∙◌, subst}
use Rattle.std.specs.Cmp.Lexicographic.{pointwise, bytes_decides}
use Rattle.std.proofs.lemmas.Bool.{ltb-true}
use Rattle.jc_types.specs.Letters.{IsCoded, text_spelled}
use Rattle.jc_types.proofs.LetterFacts.{short_codes_differ}
use Rattle.jc_types.proofs.letters.Letters.is_equal.Goals as goal

-- Codes are equal, and the one of a short text.
pub returns-then-is_short : goal.returns-then-is_short
returns-then-is_short c =
    c.if-is_short.true
    ∙ sym (subst (λ bytes. pointwise nat_eq bytes c.args.other.now ≡ true) c.self.view_is
    (subst (λ bytes. pointwise nat_eq (text_spelled c.self.inside.spelled) bytes ≡ true) c.other.view_is ((bytes_decides (text_spelled c.self.inside.spelled) (text_spelled c.other.inside.spelled)).1 same)))
  where
    same : text_spelled c.self.inside.spelled ≡ text_spelled c.other.inside.spelled
    same =
        short_codes_differ c.self.inside.code (text_spelled c.self.inside.spelled) (text_spelled c.other.inside.spelled) c.self.invariant
        (subst (λ code. IsCoded code (text_spelled c.other.inside.spelled)) (sym c.if-self-other.true) c.other.invariant) (ltb-true (c.self.inside.code % 256) 8 (sym c.is_short.ensures ∙ c.if-is_short.true))
