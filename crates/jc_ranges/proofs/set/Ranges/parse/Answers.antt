use Rattle.std.proofs.Common.{◌∙◌}
use Rattle.std.specs.List.{flat_map}
use Rattle.std.proofs.lemmas.Result.{err_from_is_err_and}
use Rattle.jc_ranges.specs.Texts.{numbers}
use Rattle.jc_ranges.proofs.Rising.{names_once, names_unbroken}
use Rattle.jc_ranges.proofs.Back.{text_names, fault_want, fault_place}
use Rattle.jc_ranges.proofs.set.Ranges.parse.Goals as goal

pub returns-in_err-runs-clause-read : goal.returns-in_err-runs-clause-read
returns-in_err-runs-clause-read c = λ xs names.
    let p = err_from_is_err_and c.from_residual.result c.from_residual.ensures.1 in
    rw p.1 (p.2 ∙ fault_want c.args.text.now xs c.in_err-runs.field-0.0 names c.in_err-runs.ensures.named)

pub returns-in_err-runs-clause-back : goal.returns-in_err-runs-clause-back
returns-in_err-runs-clause-back c = λ xs set text.
    let p = err_from_is_err_and c.from_residual.result c.from_residual.ensures.1 in
    rw p.1 (p.2 ∙ fault_want c.args.text.now xs c.in_err-runs.field-0.0 (text_names c.args.text.now xs set text) c.in_err-runs.ensures.named)

pub returns-in_err-runs-clause-refused : goal.returns-in_err-runs-clause-refused
returns-in_err-runs-clause-refused c = λ at breaks.
    let p = err_from_is_err_and c.from_residual.result c.from_residual.ensures.1 in
    rw (p.1, p.2) (fault_place c.args.text.now at c.in_err-runs.field-0.0 breaks c.in_err-runs.ensures.named)

pub returns-clause-read : goal.returns-clause-read
returns-clause-read c = λ xs names.
    c.in_ok-set.ensures ∙ names_once c.args.text.now (flat_map numbers c.in_ok-runs.runs.items) xs c.in_ok-runs.ensures.named names

pub returns-clause-back : goal.returns-clause-back
returns-clause-back c = λ xs set text.
    c.in_ok-set.ensures ∙ names_once c.args.text.now (flat_map numbers c.in_ok-runs.runs.items) xs c.in_ok-runs.ensures.named (text_names c.args.text.now xs set text)

pub returns-clause-refused : goal.returns-clause-refused
returns-clause-refused c = λ at breaks. names_unbroken c.args.text.now (flat_map numbers c.in_ok-runs.runs.items) at c.in_ok-runs.ensures.named breaks
