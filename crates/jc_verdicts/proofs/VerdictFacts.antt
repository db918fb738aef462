-- What is counted of what is kept.
use Rattle.std.proofs.Common.{◌≡◌, ℕ, ◌<◌, List, map, filter, length, reverse, ap, ◌∙◌, subst, arith}
use Rattle.std.specs.List.{IsDistinct}
use Rattle.std.proofs.lemmas.List.{length-map, length-reverse}
use Rattle.jc_types.specs.declared.actions.Script.{Script}
use Rattle.jc_types.specs.declared.numbers.Uid.{Uid}
use Rattle.jc_types.specs.declared.objects.Entry.{Entry}
use Rattle.jc_types.specs.declared.runs.History.{History}
use Rattle.jc_types.specs.declared.runs.Past.{Past}
use Rattle.jc_log.specs.Deeds.{Deed, deeds}
use Rattle.jc_types.specs.Keys.{same_uid}
use Rattle.jc_failpol.specs.declared.outcomes.Outcome.TheVariants.{Succeeded, Failed}
use Rattle.jc_failpol.specs.Outcomes.{same_outcome}
use Rattle.jc_account.specs.declared.judgements.Judgement.{Judgement as Row}
use Rattle.jc_ledger.specs.Ledger.{Record, Ledger, judged_as, ledger_of}
use Rattle.jc_verdicts.specs.Verdicts.{IsCount, deeds_of, row_of}
use Rattle.jc_ledger.specs.Ledger.{verdicts_of}
use Rattle.jc_verdicts.proofs.VerdictRows.{judged_rows}
use Rattle.jc_ledger.proofs.VerdictBounds.{few_records, few_done}

-- What is kept after all events of a history.
pub kept_of : (script : Script) (history : History) (events : List Past) (log es : List Entry) (j : Uid) (rows : List Row) (done : List ℕ) → events ≡ history.events.items → es ≡ log
    → IsCount rows done (ledger_of j (deeds_of script events) (reverse es)) → IsCount rows done (ledger_of j (deeds script history) (reverse log))
kept_of script history events log es j rows done same log_is kept =
    subst (λ l. IsCount rows done (ledger_of j (deeds script history) (reverse l))) log_is
    (subst (λ evs. IsCount rows done (ledger_of j (deeds_of script evs) (reverse es))) same kept)

module _ (j : Uid) (past : List Deed) (log : List Entry) (n : ℕ) (rows : List Row) (done : List ℕ)
    (kept : IsCount rows done (ledger_of j past (reverse log)))
    (once : IsDistinct same_uid (map (λ (r : Record). r.pod.uid) (ledger_of j past (reverse log)).records))
    (few : length log < n) where
  -- There are fewer rows than entries of the log may be.
  pub few_rows : (items : List Row) → items ≡ rows → length items < n
  few_rows items same =
      let are = ap length (same ∙ kept.rows_are) in
      let count = length-map (ledger_of j past (reverse log)).records row_of in
      let records = few_records j past (reverse log) once in
      let long = length-reverse log in
      omega (arith, few, are, count, records, long)

  -- And so of indexes.
  pub few_kept : length done < n
  few_kept =
      let are = ap length kept.done_is in
      let indexes = few_done j past (reverse log) in
      let long = length-reverse log in
      omega (arith, few, are, indexes, long)

-- The verdicts of a ledger, by what is kept.
pub verdicts_are : (ledger : Ledger) (rows items : List Row) (done : List ℕ) (succeeded failed indexes : ℕ) → IsCount rows done ledger → items ≡ rows
    → succeeded ≡ length (filter (λ (row : Row). same_outcome row.outcome Succeeded) items)
    → failed ≡ length (filter (λ (row : Row). same_outcome row.outcome Failed) items)
    → indexes ≡ length done
    → record { succeeded = succeeded; failed = failed; indexes = indexes } ≡ verdicts_of ledger
verdicts_are ledger rows items done succeeded failed indexes kept same s f i =
    ap (λ x. record { succeeded = x; failed = failed; indexes = indexes }) (s ∙ judged_rows Succeeded ledger.records items (same ∙ kept.rows_are))
    ∙ ap (λ x. record { succeeded = length (judged_as Succeeded ledger.records); failed = x; indexes = indexes }) (f ∙ judged_rows Failed ledger.records items (same ∙ kept.rows_are))
    ∙ ap (λ x. record { succeeded = length (judged_as Succeeded ledger.records); failed = length (judged_as Failed ledger.records); indexes = x }) (i ∙ ap length kept.done_is)
