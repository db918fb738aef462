-- Lists of events, Jobs, pods and rows, with one item more.
use Rattle.std.proofs.Common.{◌≡◌, ℕ, Bool, true, false, ◌||◌, List, [], ◌∷◌, ◌++◌, Option, Some, None, refl, sym, ap, ◌∙◌, append_assoc}
use Rattle.std.specs.Prelude.{is_some, reverse, if◌then◌else◌}
use Rattle.std.proofs.lemmas.List.{append-nil, reverse-append}
use Rattle.std.proofs.lemmas.List.Folds.{list_any-append}
use Rattle.std.proofs.Math.Bool.{or-true}
use Rattle.jc_types.specs.declared.actions.Command.{Command}
use Rattle.jc_types.specs.declared.numbers.Uid.{Uid}
use Rattle.jc_types.specs.declared.objects.Entry.{Entry}
use Rattle.jc_types.specs.declared.objects.Job.{Job}
use Rattle.jc_types.specs.declared.runs.Past.{Past}
use Rattle.jc_types.specs.declared.objects.KeyNames.{KeyNames as Key}
use Rattle.jc_types.specs.Keys.{same_uid}
use Rattle.jc_reap.specs.declared.expiries.Expiry.{Expiry}
use Rattle.jc_reap.specs.Expiries.{expired, expires_at, with_expiry}
use Rattle.jc_reap.specs.Makers.{maker}
use Rattle.jc_reap.specs.Reaping.{clock_to, is_present, later_moment, reached_after, removal, removals}

-- ---- events

-- The makers after one more event.
pub maker-more : (commands : List Command) (first more : List Past) (past : Past) (new : Uid → Option ℕ)
    → more ≡ first ++ past ∷ []
    → ((u : Uid) → new u ≡ maker commands (past ∷ reverse first) u)
    → (u : Uid) → new u ≡ maker commands (reverse more) u
maker-more commands first more past new is next u =
    next u ∙ ap (λ l. maker commands l u) (sym (ap reverse is ∙ reverse-append first (past ∷ [])))

-- ---- Jobs

-- What a row is in a table once it has the row.
some-or : {A : Type 0} (b : Bool) (a : A) (o : Option A) → is_some (if b then Some a else o) ≡ (is_some o || b)
some-or true a o = sym (or-true (is_some o))
some-or false a None = refl
some-or false a (Some x) = refl

-- One more Job has its UID.
pub present-more : {A : Type 0} (jobs more : List Job) (job : Job) (u : Uid) (a : A) (old new : Option A)
    → more ≡ jobs ++ job ∷ [] → is_some old ≡ is_present u jobs
    → new ≡ (if same_uid job.uid u then Some a else old) → is_some new ≡ is_present u more
present-more jobs more job u a old new is so next =
    ap is_some next
    ∙ some-or (same_uid job.uid u) a old
    ∙ ap (λ b. b || same_uid job.uid u) so
    ∙ sym (or-last jobs)
    ∙ ap (is_present u) (sym is)
  where
    or-false : (b : Bool) → (b || false) ≡ b
    or-false true = refl
    or-false false = refl

    or-last : (js : List Job) → is_present u (js ++ job ∷ []) ≡ (is_present u js || same_uid job.uid u)
    or-last js =
        list_any-append (λ j. same_uid j.uid u) js (job ∷ [])
        ∙ ap (λ b. is_present u js || b) (or-false (same_uid job.uid u))

-- Equal TTLs give equal expiries.
pub expired-same : (f g : Uid → Option ℕ) → ((u : Uid) → f u ≡ g u) → (rows : List (Key × Job)) → expired f rows ≡ expired g rows
expired-same f g same [] = refl
expired-same f g same (row ∷ rows) =
    ap (λ ttl. with_expiry (expires_at row.1 ttl) row.1 (expired f rows)) (same row.1.uid)
    ∙ ap (with_expiry (expires_at row.1 (g row.1.uid)) row.1) (expired-same f g same rows)

-- ---- removals

-- The moment that one more removal reaches.
pub reached-more : (reached : ℕ) (rows : List (Expiry × Uid)) (row : Expiry × Uid)
    → later_moment (reached_after reached rows) row.0.moment ≡ reached_after reached (rows ++ row ∷ [])
reached-more reached [] row = refl
reached-more reached (first ∷ rows) row = reached-more (later_moment reached first.0.moment) rows row

-- One more removal comes last.
removals-last : (log : List Entry) (reached : ℕ) (rows : List (Expiry × Uid)) (row : Expiry × Uid)
    → removals log reached (rows ++ row ∷ [])
    ≡ removals log reached rows ++ (clock_to (reached_after reached rows) row.0.moment ++ removal log row)
removals-last log reached [] row =
    ap (λ l. clock_to reached row.0.moment ++ l) (append-nil (removal log row))
removals-last log reached (first ∷ rows) row =
    let clock = clock_to reached first.0.moment in
    let gone = removal log first in
    let next = later_moment reached first.0.moment in
    let last = clock_to (reached_after next rows) row.0.moment ++ removal log row in
    ap (λ l. clock ++ (gone ++ l)) (removals-last log next rows row)
    ∙ ap (λ l. clock ++ l) (sym (append_assoc gone (removals log next rows) last))
    ∙ sym (append_assoc clock (gone ++ removals log next rows) last)

-- A clock and a removal more.
pub removals-more : (log : List Entry) (now : ℕ) (rows : List (Expiry × Uid)) (row : Expiry × Uid) (reached : ℕ)
    → (start old waited new : List Command)
    → old ≡ start ++ removals log now rows → reached ≡ reached_after now rows
    → waited ≡ old ++ clock_to reached row.0.moment → new ≡ waited ++ removal log row
    → new ≡ start ++ removals log now (rows ++ row ∷ [])
removals-more log now rows row reached start old waited new so at waits goes =
    let done = removals log now rows in
    let clock = clock_to (reached_after now rows) row.0.moment in
    let gone = removal log row in
    goes
    ∙ ap (λ l. l ++ gone) (waits ∙ ap (λ m. old ++ clock_to m row.0.moment) at)
    ∙ append_assoc old clock gone
    ∙ ap (λ l. l ++ (clock ++ gone)) so
    ∙ append_assoc start done (clock ++ gone)
    ∙ ap (λ l. start ++ l) (sym (removals-last log now rows row))
