-- The books of all Jobs, as a pass over a history keeps them, and what they come to.
--     Knows known rows         the outcomes under UIDs are those of the rows
--     IsBookOf j log book      the book has pods of the Job of the UID, and is in order
--     AreBooksOf log books     so it is of each book
--     rows_at j books          the rows of the Job's book; none where it has no book
--     done_at j books          the indexes of the Job's book; none where it has no book
--     AreCounts ledgers books  the rows and the indexes of each Job are those of its ledger
--     totals_of book           how many rows have each outcome, and how many indexes there are
--     AreFew books             no book has more rows or indexes than a total can say
--     verdicts_at job rows     the verdicts in the row of the UID; none where it has no row
use Rattle.std.specs.Prelude.{◌≡◌, ℕ, ◌<◌, ◌^◌, IfSome, List, [], filter, length, Some}
use Rattle.std.specs.Option.{option_map_or}
use Rattle.jc_ranges.specs.Sets.{IsIncreasing}
use Rattle.jc_types.specs.declared.numbers.Uid.{Uid}
use Rattle.jc_types.specs.declared.objects.Entry.{Entry}
use Rattle.jc_types.specs.Keys.{same_uid}
use Rattle.jc_log.specs.Tables.{at}
use Rattle.jc_failpol.specs.declared.outcomes.Outcome.{Outcome}
use Rattle.jc_failpol.specs.declared.outcomes.Outcome.TheVariants.{Succeeded, Failed}
use Rattle.jc_failpol.specs.Outcomes.{same_outcome}
use Rattle.jc_verdicts.specs.declared.books.Book.{Book}
use Rattle.jc_ledger.specs.declared.counts.Verdicts.{Verdicts}
use Rattle.jc_account.specs.declared.judgements.Judgement.{Judgement as Row}
use Rattle.jc_ledger.specs.Ledger.{Ledger}
use Rattle.jc_verdicts.specs.Verdicts.{EndsAt, HasSeen, IsCount, outcome_in}

-- The outcome under each UID is that of the first row of the UID.
abbrev pub Knows : List (Uid × Outcome) → List Row → Type 0
Knows known rows = (u : Uid) → at same_uid known u ≡ outcome_in rows u

-- The book of the Job of the UID has those of the Job's pods among the first entries that stay; its
-- indexes rise, its outcomes are those of its rows, and no pod of a UID above its last was judged.
pub record IsBookOf (j : Uid) (log : List Entry) (book : Book) : Type 0 where
  pub seen : HasSeen j log book.known.entries book.pods.items book.at
  pub order : IsIncreasing book.done.items
  pub known : Knows book.known.entries book.rows.items
  pub last : EndsAt book.last (at same_uid book.known.entries)

-- So it is of each book.
abbrev pub AreBooksOf : List Entry → List (Uid × Book) → Type 0
AreBooksOf log books = (j : Uid) → IfSome (at same_uid books j) (λ book. IsBookOf j log book)

-- The rows of the Job's book; none where it has no book.
abbrev pub rows_at : Uid → List (Uid × Book) → List Row
rows_at j books = option_map_or (λ (book : Book). book.rows.items) (at same_uid books j) []

-- The indexes of the Job's book; none where it has no book.
abbrev pub done_at : Uid → List (Uid × Book) → List ℕ
done_at j books = option_map_or (λ (book : Book). book.done.items) (at same_uid books j) []

-- The rows and the indexes of each Job are those of its ledger.
abbrev pub AreCounts : (Uid → Ledger) → List (Uid × Book) → Type 0
AreCounts ledgers books = (j : Uid) → IsCount (rows_at j books) (done_at j books) (ledgers j)

-- How many rows have each outcome, and how many indexes there are.
abbrev pub totals_of : Book → Verdicts
totals_of book = record {
  succeeded = length (filter (λ (row : Row). same_outcome row.outcome Succeeded) book.rows.items);
  failed = length (filter (λ (row : Row). same_outcome row.outcome Failed) book.rows.items);
  indexes = length book.done.items;
}

-- No book has more rows or indexes than a total can say.
abbrev pub AreFew : List (Uid × Book) → Type 0
AreFew books = (j : Uid) (book : Book) → at same_uid books j ≡ Some book
    → (length book.rows.items < 2 ^ 32) × (length book.done.items < 2 ^ 32)

-- The verdicts in the row of the UID; none where it has no row.
abbrev pub verdicts_at : Uid → List (Uid × Verdicts) → Verdicts
verdicts_at job rows =
    option_map_or (λ (v : Verdicts). v) (at same_uid rows job)
    (record { succeeded = 0; failed = 0; indexes = 0 })
