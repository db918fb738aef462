use Rattle.std.proofs.Common.{◌<◌, ◌&&◌, ◌∙◌, ap, arith, bytes_eq, codes, length, sym, take}
use Rattle.jc_audit.proofs.TailFacts.{end_more, end_of_none, end_only, end_other}
use Rattle.jc_audit.proofs.tails.at_end.Goals as goal

pub returns-then-is_empty : goal.returns-then-is_empty
returns-then-is_empty c = end_of_none c.args.line c.args.rest.now c.args.full (grind arith)

pub returns-then-not-is_last : goal.returns-then-not-is_last
returns-then-not-is_last c =
    let some : 0 < length c.args.rest.now = grind arith in
    end_other c.args.line c.args.rest.now c.args.full some
    (ap (λ n. c.args.full && bytes_eq (take n c.args.rest.now) (codes "full\n")) (sym c.line_len-end.ensures.is) ∙ sym c.is_last.ensures ∙ c.if-not-is_last.true)

pub returns-then-end-rest : goal.returns-then-end-rest
returns-then-end-rest c =
    let some : 0 < length c.args.rest.now = grind arith in
    end_only c.args.line c.args.rest.now c.args.full some
    (ap (λ n. c.args.full && bytes_eq (take n c.args.rest.now) (codes "full\n")) (sym c.line_len-end.ensures.is) ∙ sym c.is_last.ensures ∙ c.if-not-is_last.false)
    (sym c.line_len-end.ensures.is ∙ c.if-end-rest.true)

pub returns : goal.returns
returns c =
    let some : 0 < length c.args.rest.now = grind arith in
    let is = c.line_len-end.ensures.is in
    let within = c.line_len-end.ensures.within in
    let other = c.if-end-rest.false in
    end_more c.args.line c.args.rest.now c.args.full some
    (ap (λ n. c.args.full && bytes_eq (take n c.args.rest.now) (codes "full\n")) (sym is) ∙ sym c.is_last.ensures ∙ c.if-not-is_last.false)
    (omega (arith, is, within, other))
