use Rattle.std.proofs.Common.{◌≡◌, ◌+◌, ◌∙◌, suc, get_or, ap, sym, subst, arith}
use Rattle.std.specs.List.{flat_map}
use Rattle.jc_ranges.specs.Sets.{IsFirstMissing}
use Rattle.jc_ranges.specs.Texts.{numbers, StandApart}
use Rattle.jc_ranges.specs.declared.runs.Run.{Run}
use Rattle.jc_ranges.proofs.Apart.{run_at, run_of_member, missing_behind}
use Rattle.jc_ranges.proofs.set.Ranges.first_missing.Goals as goal

pub bounds-runs-place : goal.bounds-runs-place
bounds-runs-place c =
    let apart = subst (StandApart 0) (sym c.as_slice-runs.ensures) c.self.invariant.apart in
    (run_of_member c.args.from c.as_slice-runs.result.now c.place_of_number-place.result (record { first = 0; last = 0 }) apart c.place_of_number-place.ensures (sym c.if-is_at.ensures)).0

pub overflow_add-result : goal.overflow_add-result
overflow_add-result c =
    let d : Run = record { first = 0; last = 0 } in
    let apart = subst (StandApart 0) (sym c.as_slice-runs.ensures) c.self.invariant.apart in
    let found = run_of_member c.args.from c.as_slice-runs.result.now c.place_of_number-place.result d apart c.place_of_number-place.ensures (sym c.if-is_at.ensures) in
    let at = run_at 0 c.as_slice-runs.result.now c.place_of_number-place.result d apart found.0 in
    omega (arith, at.small)

pub returns-then-is_at-clause-missing : goal.returns-then-is_at-clause-missing
returns-then-is_at-clause-missing c =
    let d : Run = record { first = 0; last = 0 } in
    let apart = subst (StandApart 0) (sym c.as_slice-runs.ensures) c.self.invariant.apart in
    let same = ap (flat_map numbers) c.as_slice-runs.ensures ∙ c.self.view_is in
    let found = run_of_member c.args.from c.as_slice-runs.result.now c.place_of_number-place.result d apart c.place_of_number-place.ensures (sym c.if-is_at.ensures) in
    let last = (get_or c.as_slice-runs.result.now c.place_of_number-place.result d).last in
    let next : suc last ≡ last + 1 = omega arith in
    let missing = missing_behind c.as_slice-runs.result.now c.place_of_number-place.result c.args.from d apart found.0 found.1 found.2 in
    subst (λ m. IsFirstMissing c.args.self.now c.args.from m) next (subst (λ xs. IsFirstMissing xs c.args.from (suc last)) same missing)

pub returns-then-is_at-clause-within : goal.returns-then-is_at-clause-within
returns-then-is_at-clause-within c =
    let d : Run = record { first = 0; last = 0 } in
    let apart = subst (StandApart 0) (sym c.as_slice-runs.ensures) c.self.invariant.apart in
    let found = run_of_member c.args.from c.as_slice-runs.result.now c.place_of_number-place.result d apart c.place_of_number-place.ensures (sym c.if-is_at.ensures) in
    let at = run_at 0 c.as_slice-runs.result.now c.place_of_number-place.result d apart found.0 in
    omega (arith, at.small)
