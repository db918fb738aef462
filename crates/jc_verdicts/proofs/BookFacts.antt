-- The books of all Jobs: what one more write does to them, and what they come to.
use Rattle.std.proofs.Common.{◌≡◌, ℕ, ◌+◌, ◌<◌, ◌^◌, Bool, true, false, cond, List, [], ◌∷◌, ◌++◌, length, map, reverse, take, drop, slice_get, Option, Some, None, IfSome, refl, sym, ap, ◌∙◌, subst}
use Rattle.std.specs.List.{IsDistinct}
use Rattle.std.specs.Option.{option_map, option_map_or, option_or}
use Rattle.std.proofs.lemmas.List.{drop_more}
use Rattle.std.proofs.lemmas.Option.{get_or_from_slice_get, slice_get_within}
use Rattle.jc_types.specs.declared.numbers.Uid.{Uid}
use Rattle.jc_types.specs.declared.objects.Entry.{Entry}
use Rattle.jc_types.specs.declared.objects.Job.{Job}
use Rattle.jc_types.specs.declared.objects.Pod.{Pod}
use Rattle.jc_types.specs.declared.specifications.JobSpec.{JobSpec}
use Rattle.jc_types.specs.Keys.{same_uid}
use Rattle.jc_types.proofs.KeyFacts.{same_uid-eq, same_uid-either_way}
use Rattle.jc_log.specs.Deeds.{Deed}
use Rattle.jc_log.specs.Log.{upto, pods_in, pods_of}
use Rattle.jc_log.specs.Tables.{at, Sets}
use Rattle.jc_log.proofs.LogFacts.{upto-reverse}
use Rattle.jc_log.proofs.PodFacts.{pods_in-rises}
use Rattle.jc_states.specs.PodLists.{IsRising}
use Rattle.jc_states.specs.UidLists.{join}
use Rattle.jc_states.proofs.PodListFacts.{rises_filter}
use Rattle.jc_failpol.specs.declared.outcomes.Outcome.{Outcome}
use Rattle.jc_verdicts.specs.declared.books.Book.{Book}
use Rattle.jc_ledger.specs.declared.counts.Verdicts.{Verdicts}
use Rattle.jc_account.specs.declared.judgements.Judgement.{Judgement as Row}
use Rattle.jc_verdicts.specs.Books.{AreCounts, AreFew, AreBooksOf, IsBookOf, Knows, done_at, rows_at, totals_of, verdicts_at}
use Rattle.jc_ledger.specs.Ledger.{kept, Judging, Ledger, Record, entered, judged_by, ledger_of}
use Rattle.jc_verdicts.specs.LogPlaces.{touching_places}
use Rattle.jc_verdicts.specs.Verdicts.{HasSeen, IsCount, before_place, done_once_seen, done_by, fresh_rows, new_rows, outcome_in, rows_for, success_indexes}
use Rattle.jc_ledger.specs.Ledger.{verdicts_of}
use Rattle.jc_verdicts.proofs.StayFacts.{judged-stay, rows-kept_pods}
use Rattle.jc_verdicts.proofs.VerdictFacts.{few_rows, few_kept, verdicts_are}
use Rattle.jc_verdicts.proofs.VerdictRows.{outcomes-append, count_entered}

-- The outcomes are those of the rows after new ones are added.
pub knows-more : (known more : List (Uid × Outcome)) (rows new all : List Row) → Knows known rows → ((u : Uid) → at same_uid more u ≡ option_or (at same_uid known u) (outcome_in new u)) → all ≡ rows ++ new → Knows more all
knows-more known more rows new all old noted is u =
    noted u ∙ ap (λ o. option_or o (outcome_in new u)) (old u) ∙ sym (outcomes-append u rows new) ∙ ap (λ rs. outcome_in rs u) (sym is)

-- What is judged where the outcomes are those of the rows.
pub rows-known : (spec : JobSpec) (known : List (Uid × Outcome)) (rows : List Row) (pods : List Pod) → Knows known rows → rows_for spec (at same_uid known) pods ≡ new_rows spec rows pods
rows-known spec known rows pods knows = ap (λ f. rows_for spec f pods) (λ i u. knows u i)

-- The pods of a Job rise.
pub owned-rise : (j : Uid) (log : List Entry) (pods : List Pod) → pods ≡ pods_of j log → IsRising pods
owned-rise j log pods are = subst IsRising (sym are) (rises_filter 0 (λ pod. same_uid pod.owner_uid j) (pods_in log) (pods_in-rises log))

-- The pods that were seen are those that stay after new rows are added too.
pub seen-judged : (known more : List (Uid × Outcome)) (j : Uid) (log : List Entry) (pods : List Pod) (number : ℕ) (spec : JobSpec) (new : List Row) → HasSeen j log known pods number
    → new ≡ rows_for spec (at same_uid known) pods → ((u : Uid) → at same_uid more u ≡ option_or (at same_uid known u) (outcome_in new u)) → HasSeen j log more pods number
seen-judged known more j log pods number spec new seen are notes =
    let older : List Entry = reverse (take (before_place (touching_places j log) number log) log) in
    record {
      within = seen.within;
      pods_are =
          seen.pods_are
          ∙ sym
          (judged-stay known (pods_of j older) (owned-rise j older (pods_of j older) refl) spec more new
          (are ∙ ap (rows_for spec (at same_uid known)) seen.pods_are ∙ rows-kept_pods known spec (pods_of j older)) notes);
    }

-- The rows of what is judged are those that the write judges.
pub new-is : (job : Job) (spec : JobSpec) (log : List Entry) (seen : ℕ) (known : List (Uid × Outcome)) (rows new : List Row) (pods : List Pod) → spec ≡ job.spec → pods ≡ pods_of job.uid (reverse (take seen log)) → Knows known rows
    → new ≡ rows_for spec (at same_uid known) pods → new ≡ fresh_rows job rows log seen
new-is job spec log seen known rows new pods same are knows is =
    is ∙ ap (λ s. rows_for s (at same_uid known) pods) same ∙ rows-known job.spec known rows pods knows ∙ ap (new_rows job.spec rows) are

-- The indexes that are done by what is known are those by the rows.
pub done-known : (job : Job) (log : List Entry) (seen : ℕ) (known : List (Uid × Outcome)) (rows : List Row) (done more : List ℕ) (pods : List Pod) → pods ≡ pods_of job.uid (reverse (take seen log)) → Knows known rows
    → more ≡ success_indexes job (at same_uid known) pods → join (kept job done) more ≡ done_once_seen job rows done log seen
done-known job log seen known rows done more pods are knows is =
    ap (join (kept job done)) (is ∙ ap (λ f. success_indexes job f pods) (λ i u. knows u i) ∙ ap (success_indexes job (outcome_in rows)) are)

module _ (u : Uid) (old mid new : List (Uid × Book)) (book : Book)
    (others : (j : Uid) → same_uid u j ≡ false → at same_uid mid j ≡ at same_uid old j)
    (sets : Sets same_uid mid new u (Some book)) where
  -- Each book is its Job's where one was changed that is.
  pub books-sound : (log : List Entry) → AreBooksOf log old → IsBookOf u log book → AreBooksOf log new
  books-sound log all is j =
      subst (λ o. IfSome o (λ b. IsBookOf j log b)) (sym (sets j)) (by (same_uid u j) refl)
    where
      by : (b : Bool) → same_uid u j ≡ b → IfSome (cond b (Some book) (at same_uid mid j)) (λ x. IsBookOf j log x)
      by true s = subst (λ x. IsBookOf x log book) (same_uid-eq u j s) is
      by false s = subst (λ o. IfSome o (λ b. IsBookOf j log b)) (sym (others j s)) (all j)

-- Each book counts as its ledger after a write of the Job.
pub books-counted : (job : Job) (log : List Entry) (seen version : ℕ) (ledgers : Uid → Ledger) (old mid new : List (Uid × Book)) (book : Book)
    → ((j : Uid) → same_uid job.uid j ≡ false → at same_uid mid j ≡ at same_uid old j)
    → Sets same_uid mid new job.uid (Some book)
    → book.rows.items ≡ rows_at job.uid old ++ fresh_rows job (rows_at job.uid old) log seen
    → book.done.items ≡ done_once_seen job (rows_at job.uid old) (done_at job.uid old) log seen
    → AreCounts ledgers old
    → AreCounts (λ j. judged_by j (reverse log) (Some (record { job = job; seen = seen; at = version })) (ledgers j)) new
books-counted job log seen version ledgers old mid new book others sets more joins counts j =
    subst (λ o. IsCount (items o) (indexes o) (judged_by j (reverse log) (Some (record { job = job; seen = seen; at = version })) (ledgers j))) (sym (sets j))
    (by (same_uid job.uid j) refl)
  where
    items : Option Book → List Row
    items o = option_map_or (λ (b : Book). b.rows.items) o []

    indexes : Option Book → List ℕ
    indexes o = option_map_or (λ (b : Book). b.done.items) o []

    pods_are : pods_of job.uid (reverse (take seen log)) ≡ pods_of job.uid (upto seen (reverse log))
    pods_are = ap (pods_of job.uid) (sym (upto-reverse seen log))

    own : IsCount book.rows.items book.done.items (entered job (pods_of job.uid (upto seen (reverse log))) seen version (ledgers job.uid))
    own =
        count_entered job (pods_of job.uid (upto seen (reverse log))) seen version (ledgers job.uid) (rows_at job.uid old) book.rows.items (done_at job.uid old) book.done.items (counts job.uid)
        (more ∙ ap (λ pods. rows_at job.uid old ++ new_rows job.spec (rows_at job.uid old) pods) pods_are)
        (joins ∙ ap (λ pods. done_by job (outcome_in (rows_at job.uid old)) (done_at job.uid old) pods) pods_are)

    by : (b : Bool) → same_uid job.uid j ≡ b
        → IsCount (items (cond b (Some book) (at same_uid mid j))) (indexes (cond b (Some book) (at same_uid mid j)))
        (cond b (entered job (pods_of j (upto seen (reverse log))) seen version (ledgers j)) (ledgers j))
    by true s =
        subst (λ x. IsCount book.rows.items book.done.items (entered job (pods_of x (upto seen (reverse log))) seen version (ledgers x))) (same_uid-eq job.uid j s) own
    by false s = subst (λ o. IsCount (items o) (indexes o) (ledgers j)) (sym (others j s)) (counts j)

-- So it does where the book is what the Job's book became.
pub book-judged : (job : Job) (log : List Entry) (seen version : ℕ) (ledgers : Uid → Ledger) (old mid new : List (Uid × Book)) (before after : Book)
    → ((j : Uid) → same_uid job.uid j ≡ false → at same_uid mid j ≡ at same_uid old j)
    → Sets same_uid mid new job.uid (Some after)
    → before.rows.items ≡ rows_at job.uid old
    → before.done.items ≡ done_at job.uid old
    → after.rows.items ≡ before.rows.items ++ fresh_rows job before.rows.items log seen
    → after.done.items ≡ done_once_seen job before.rows.items before.done.items log seen
    → AreCounts ledgers old
    → AreCounts (λ j. judged_by j (reverse log) (Some (record { job = job; seen = seen; at = version })) (ledgers j)) new
book-judged job log seen version ledgers old mid new before after others sets rows done more joins counts =
    books-counted job log seen version ledgers old mid new after others sets
    (more ∙ ap (λ rs. rs ++ fresh_rows job rs log seen) rows)
    (joins
    ∙ ap (λ rs. done_once_seen job rs before.done.items log seen) rows
    ∙ ap (λ ds. done_once_seen job (rows_at job.uid old) ds log seen) done)
    counts

-- The rows and the indexes of a book that is there, and of none.
pub rows-of : (u : Uid) (books : List (Uid × Book)) (found : Option Book) → at same_uid books u ≡ found → option_map_or (λ (b : Book). b.rows.items) found [] ≡ rows_at u books
rows-of u books found there = sym (ap (λ o. option_map_or (λ (b : Book). b.rows.items) o []) there)

pub done-of : (u : Uid) (books : List (Uid × Book)) (found : Option Book) → at same_uid books u ≡ found → option_map_or (λ (b : Book). b.done.items) found [] ≡ done_at u books
done-of u books found there = sym (ap (λ o. option_map_or (λ (b : Book). b.done.items) o []) there)

-- So it does after the event that is the write.
pub counts-after : (log : List Entry) (judging judged : Option Judging) → judging ≡ judged → (ledgers : Uid → Ledger) (books : List (Uid × Book)) → AreCounts (λ j. judged_by j log judging (ledgers j)) books
    → AreCounts (λ j. judged_by j log judged (ledgers j)) books
counts-after log judging judged same ledgers books counts = subst (λ (o : Option Judging). AreCounts (λ j. judged_by j log o (ledgers j)) books) same counts

-- What stands at a place is the first of the list from there on.
pub drop-found : {X : Type 0} (xs : List X) (i n : ℕ) (x : X) → i + 1 ≡ n → slice_get xs i ≡ Some x → drop i xs ≡ x ∷ drop n xs
drop-found xs i n x next found =
    drop_more xs i x (slice_get_within xs i x found)
    ∙ ap (λ y. y ∷ drop (i + 1) xs) (get_or_from_slice_get xs i x x found)
    ∙ ap (λ k. x ∷ drop k xs) next

-- The totals of one more book.
pub tallied-more : (books rest : List (Uid × Book)) (uid : Uid) (book : Book) (old new : List (Uid × Verdicts)) (v : Verdicts) → books ≡ (uid, book) ∷ rest → v ≡ totals_of book
    → Sets same_uid old new uid (Some v)
    → ((j : Uid) → at same_uid old j ≡ option_map totals_of (at same_uid rest j))
    → (j : Uid) → at same_uid new j ≡ option_map totals_of (at same_uid books j)
tallied-more books rest uid book old new v is total sets before j =
    sets j ∙ ap (λ b. cond b (Some v) (at same_uid old j)) (same_uid-either_way uid j) ∙ by (same_uid j uid)
    ∙ ap (λ bs. option_map totals_of (at same_uid bs j)) (sym is)
  where
    by : (b : Bool) → cond b (Some v) (at same_uid old j) ≡ option_map totals_of (cond b (Some book) (at same_uid rest j))
    by true = ap Some total
    by false = before j

module _ (past : List Deed) (log : List Entry) (books : List (Uid × Book)) (counts : AreCounts (λ j. ledger_of j past (reverse log)) books) where
  -- The book of a Job is that of its ledger.
  own_count : (j : Uid) (book : Book) → at same_uid books j ≡ Some book → IsCount book.rows.items book.done.items (ledger_of j past (reverse log))
  own_count j book there =
      subst (λ (o : Option Book). IsCount (option_map_or (λ (b : Book). b.rows.items) o []) (option_map_or (λ (b : Book). b.done.items) o []) (ledger_of j past (reverse log))) there (counts j)

  -- No book has more rows or indexes than a total can say.
  pub books-few : ((j : Uid) → IsDistinct same_uid (map (λ (r : Record). r.pod.uid) (ledger_of j past (reverse log)).records)) → length log < 2 ^ 32 → AreFew books
  books-few once few j book there =
      let kept = own_count j book there in
      (few_rows j past log (2 ^ 32) book.rows.items book.done.items kept (once j) few book.rows.items refl, few_kept j past log (2 ^ 32) book.rows.items book.done.items kept (once j) few)

  -- The verdicts of each Job.
  pub verdicts-each : (rows : List (Uid × Verdicts)) → ((j : Uid) → at same_uid rows j ≡ option_map totals_of (at same_uid books j)) → (j : Uid) → verdicts_at j rows ≡ verdicts_of (ledger_of j past (reverse log))
  verdicts-each rows are j =
      ap (λ (o : Option Verdicts). option_map_or (λ (v : Verdicts). v) o (record { succeeded = 0; failed = 0; indexes = 0 })) (are j) ∙ by (at same_uid books j) (counts j)
    where
      by : (o : Option Book) → IsCount (option_map_or (λ (b : Book). b.rows.items) o []) (option_map_or (λ (b : Book). b.done.items) o []) (ledger_of j past (reverse log))
          → option_map_or (λ (v : Verdicts). v) (option_map totals_of o) (record { succeeded = 0; failed = 0; indexes = 0 }) ≡ verdicts_of (ledger_of j past (reverse log))
      by None kept = verdicts_are (ledger_of j past (reverse log)) [] [] [] 0 0 0 kept refl refl refl refl
      by (Some book) kept =
          verdicts_are (ledger_of j past (reverse log)) book.rows.items book.rows.items book.done.items (totals_of book).succeeded (totals_of book).failed (totals_of book).indexes kept refl refl refl refl
