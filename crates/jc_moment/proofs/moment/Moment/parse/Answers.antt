use Rattle.std.proofs.Common.{◌≡◌, ℕ, refl, arith}
use Rattle.jc_moment.specs.Text.{IsMomentText}
use Rattle.jc_moment.proofs.moment.Moment.parse.Goals as goal
use Rattle.jc_moment.proofs.moment.Moment.parse.Goals.{in_default-via-in-Some+else-has_text, in_default-via-in_default}

pub returns-in-Some-clause-read : goal.returns-in-Some-clause-read
returns-in-Some-clause-read c = λ m.
    let it : IsMomentText c.in-Some.moment c.args.text.now = c.if-has_text.ensures.0 refl in (
      λ same. let e : c.in-Some.moment ≡ m = cc in rw (← e) it,
      λ t. let known = c.in-Some.ensures m t in cc,
    )

pub returns-in_default : goal.returns-in_default
returns-in_default c =
    let none : (m : ℕ) → IsMomentText m c.args.text.now → ⊥ = λ m t.
    let known = c.candidate.ensures m t in
    elim c.in_default.branch [
      | in_default-via-in-Some+else-has_text w ↦
          let e : m ≡ w.in-Some.moment = cc in
          let yes = w.has_text.ensures.1 (rw (← e) t) in cc
      | in_default-via-in_default w ↦ w.in_default.not-Some m known
    ] in
    record { read = λ m. (λ e. absurd (grind arith), λ t. absurd (none m t)); bad = (λ _. none, λ _. refl) }
