-- What words of a run on threads, or of an audit, ask for.
use Rattle.std.proofs.Common.{◌≡◌, ℕ, Bool, true, false, List, Result, Ok, Err, Option, Some, None, is_some, not, refl, ap, arith, subst, sym, true≢false, ◌∙◌}
use Rattle.std.specs.Prelude.{IfSome, IsTrue, is_ok}
use Rattle.std.proofs.lemmas.Option.{same_Some}
use Rattle.jc_types.specs.declared.actions.Command.{Command}
use Rattle.jc_types.specs.declared.runs.Shape.{Shape}
use Rattle.jc_audit.specs.Audits.{VerdictHolds}
use Rattle.jc_audit.specs.declared.verdicts.Verdict.TheVariants.{Yes}
use Rattle.jc_script.specs.Scripts.{BadLine, script_of}
use Rattle.jc_words.specs.declared.words.LockKind.{LockKind}
use Rattle.jc_words.specs.declared.words.Order.{Order}
use Rattle.jc_words.specs.declared.words.Order.TheVariants.{Audit, Generate, Reap, Run}
use Rattle.jc_ctl.proofs.AuditFacts.{audit-good}
use Rattle.jc_ctl.specs.Audited.{IsPromised, OfAudit, TellsVerdict}
use Rattle.jc_single.specs.declared.status.Status.{Status}
use Rattle.jc_single.proofs.EndFacts.{EndsBad}
use Rattle.jc_single.proofs.RunFacts.{order_same, same_bad}
use Rattle.jc_single.specs.Played.{as_script}
use Rattle.jc_single.specs.RunAnswers.{IsSingle, OfInput, answer_of, reported}
use Rattle.jc_ctl.specs.declared.run.Asked.{Asked}
use Rattle.jc_ctl.specs.declared.run.Asked.TheVariants as ask
use Rattle.jc_ctl.specs.Asked.{HasThreads, order_asked}

-- What is asked for is not done on one thread.
not-single : (asked : Asked) → HasThreads asked → IsSingle (order_asked asked) → ⊥
not-single (ask.Threads threads lock shape) some zero = omega (arith, zero, some)
not-single (ask.Audit shape) some none = none

-- An order is done on one thread where it is found to be no run on threads and no audit.
found-is : (order : Order) (asked : Option Asked) (b : Bool) → is_some asked ≡ not b
    → IfSome asked (λ asked. order ≡ order_asked asked) → IfSome asked HasThreads → (asked ≡ None → IsSingle order)
    → (IsTrue b → IsSingle order) × (IsSingle order → IsTrue b)
found-is order None true is found some none = ((λ t. none refl), (λ h. refl))
found-is order None false is found some none = absurd (true≢false (sym is))
found-is order (Some asked) true is found some none = absurd (true≢false is)
found-is order (Some asked) false is found some none =
    ((λ t. absurd (true≢false (sym t))), (λ h. absurd (not-single asked some (subst IsSingle found h))))

-- So it is with the order of the words.
pub single-is : (words : Option Order) (order : Order) (asked : Option Asked) (b : Bool) → words ≡ Some order
    → is_some asked ≡ not b → IfSome asked (λ asked. order ≡ order_asked asked) → IfSome asked HasThreads
    → (asked ≡ None → IsSingle order)
    → (IsTrue b → (order : Order) → words ≡ Some order → IsSingle order)
    × (((order : Order) → words ≡ Some order → IsSingle order) → IsTrue b)
single-is words order asked b words_are is found some none =
    let found_is = found-is order asked b is found some none in (
      (λ t other same. subst IsSingle (same_Some order other (sym words_are ∙ same)) (found_is.0 t)),
      (λ h. found_is.1 (h order words_are)),
    )

-- Bad words ask for none of both.
pub bad-single : (words : Option Order) → words ≡ None
    → (IsTrue true → (order : Order) → words ≡ Some order → IsSingle order)
    × (((order : Order) → words ≡ Some order → IsSingle order) → IsTrue true)
bad-single words none = ((λ t order is. absurd (cc (none, is))), (λ h. refl))

-- A bad line is the same on any number of threads.
pub bad-same : (threads : ℕ) (lock : LockKind) (shape : Shape) (input : List ℕ) (bad : BadLine) → script_of shape input ≡ Err bad
    → answer_of (Run threads lock shape) input ≡ Err bad
unfolding answer_of
bad-same threads lock shape input bad e = ap (λ r. reported shape (as_script r)) e

-- A bad line is the script's.
pub said-bad : (threads : ℕ) (lock : LockKind) (shape : Shape) (input : List ℕ) (bad : BadLine) → answer_of (Run threads lock shape) input ≡ Err bad
    → script_of shape input ≡ Err bad
unfolding answer_of
said-bad threads lock shape input bad e = by (script_of shape input) e
  where
    by : (said : Result (List Command) BadLine) → reported shape (as_script said) ≡ Err bad → said ≡ Err bad
    by (Ok commands) e = absurd (true≢false (ap is_ok e))
    by (Err other) e = ap (λ (one : BadLine). Err one) (same_bad (reported shape (as_script (Err other))) other bad refl e)

-- ---- audits

-- Of an audit no script is bad.
pub none-bad : (words : Option Order) (shape : Shape) (left : Option (List ℕ)) (ended : Status) → words ≡ Some (Audit shape)
    → (order : Order) → words ≡ Some order → OfInput order left (EndsBad order ended)
none-bad words shape left ended is order asks =
    subst (λ o. OfInput o left (EndsBad o ended)) (order_same order (Audit shape) words is asks) (by left)
  where
    by : (left : Option (List ℕ)) → IfSome left (EndsBad (Audit shape) ended)
    by None = tt
    by (Some input) = λ few bad e. absurd (audit-good shape input bad e)

shape-in : Order → Shape → Shape
shape-in (Audit shape) other = shape
shape-in (Run threads lock shape) other = other
shape-in (Reap shape) other = other
shape-in (Generate number jobs pods) other = other

-- Words ask for one shape.
pub same-shape : (words : Option Order) (a b : Shape) → words ≡ Some (Audit a) → words ≡ Some (Audit b) → a ≡ b
unfolding shape-in
same-shape words a b is asks = ap (λ (o : Order). shape-in o a) (same_Some (Audit a) (Audit b) (sym is ∙ asks))

-- What holds of the shape holds of the words.
pub of-audit : (words : Option Order) (shape : Shape) (P : Shape → Type 0) → words ≡ Some (Audit shape) → P shape
    → IfSome words (λ order. OfAudit order P)
of-audit words shape P is p = subst (λ o. IfSome o (λ order. OfAudit order P)) (sym is) p

-- Of a report whose verdict was told all promises hold.
pub promised-too : (shape : Shape) (left old new : Option (List ℕ))
    → ((input : List ℕ) → VerdictHolds shape input Yes → IsPromised shape input)
    → IfSome left (λ input. TellsVerdict shape input Yes old new)
    → IfSome left (λ input. TellsVerdict shape input Yes old new × IsPromised shape input)
promised-too shape None old new keeps told = tt
promised-too shape (Some input) old new keeps told = (told, keeps input told.says)
