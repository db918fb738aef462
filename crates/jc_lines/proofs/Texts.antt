-- How a report grows, line by line.
use Rattle.std.proofs.Common.{◌≡◌, ℕ, ◌+◌, ◌<◌, List, [], ◌∷◌, ◌++◌, length, map, take, drop, slice_get, Some, refl, sym, ap, ◌∙◌, arith, append_assoc, length-append}
use Rattle.std.specs.BTreeMap.{insert_entry}
use Rattle.std.proofs.lemmas.List.{append-nil, drop_more, flat_map_more, length-map, length-take-le, map-append}
use Rattle.std.proofs.lemmas.Option.{get_or_from_slice_get, slice_get_within}
use Rattle.jc_ledger.specs.declared.counts.Verdicts.{Verdicts}
use Rattle.jc_lines.specs.LongLines.{long_end, long_ends, long_line, long_lines}
use Rattle.jc_lines.specs.Events.{event_line, event_lines}
use Rattle.jc_log.specs.Deeds.{Deed, deed}
use Rattle.jc_queue.specs.Delayed.{key_order}
use Rattle.jc_types.specs.declared.actions.Script.{Script}
use Rattle.jc_types.specs.declared.numbers.Uid.{Uid}
use Rattle.jc_types.specs.declared.objects.Job.{Job}
use Rattle.jc_types.specs.declared.objects.KeyNames.{KeyNames as Key}
use Rattle.jc_types.specs.declared.runs.Past.{Past}
use Rattle.jc_lines.specs.Reports.{by_key, job_lines, jobs_text, lines_with}

-- ---- events

pub event_lines-more : (n : ℕ) (ds : List Deed) (d : Deed) → event_lines n (ds ++ d ∷ []) ≡ event_lines n ds ++ event_line (n + length ds) d
event_lines-more n [] d =
    let same : n ≡ n + 0 = omega arith in
    append-nil (event_line n d) ∙ ap (λ m. event_line m d) same
event_lines-more n (e ∷ ds) d =
    let same : n + 1 + length ds ≡ n + length (e ∷ ds) = omega arith in
    ap (λ l. event_line n e ++ l) (event_lines-more (n + 1) ds d ∙ ap (λ m. event_lines (n + 1) ds ++ event_line m d) same)
    ∙ sym (append_assoc (event_line n e) (event_lines (n + 1) ds) (event_line (n + length (e ∷ ds)) d))

-- The lines of the events up to a place, and that of the event there.
pub events-more : (script : Script) (events : List Past) (place : ℕ) (past : Past) (before after : List ℕ)
    → place < length events → take (place + 1) events ≡ take place events ++ past ∷ []
    → before ≡ event_lines 1 (map (deed script) (take place events))
    → after ≡ before ++ event_line (place + 1) (deed script past)
    → after ≡ event_lines 1 (map (deed script) (take (place + 1) events))
events-more script events place past before after within more so next =
    let first = map (deed script) (take place events) in
    let last = deed script past in
    let count : length first ≡ place = length-map (take place events) (deed script) ∙ length-take-le place events (omega (arith, within)) in
    let number : 1 + length first ≡ place + 1 = omega (arith, count) in
    next
    ∙ ap (λ l. l ++ event_line (place + 1) last) so
    ∙ ap (λ m. event_lines 1 first ++ event_line m last) (sym number)
    ∙ sym (event_lines-more 1 first last)
    ∙ ap (event_lines 1) (sym (ap (map (deed script)) more ∙ map-append (deed script) (take place events) (past ∷ [])))

-- ---- Jobs

-- One more row goes to its place.
pub by_key-more : (rows : List (Key × Job)) (place next : ℕ) (key : Key) (job : Job) (old new : List (Key × Job))
    → place + 1 ≡ next → slice_get rows place ≡ Some (key, job) → old ≡ by_key (drop next rows)
    → new ≡ insert_entry key_order old key job → new ≡ by_key (drop place rows)
by_key-more rows place next key job old new is found so put =
    let from : drop place rows ≡ (key, job) ∷ drop next rows =
    drop_more rows place (key, job) (slice_get_within rows place (key, job) found)
    ∙ ap (λ row. row ∷ drop (place + 1) rows) (get_or_from_slice_get rows place (key, job) (key, job) found)
    ∙ ap (λ k. (key, job) ∷ drop k rows) is in
    put ∙ ap (λ (rest : List (Key × Job)). insert_entry key_order rest key job) so ∙ ap by_key (sym from)

-- The lines of one more Job.
pub jobs-more : (verdicts : Uid → Verdicts) (first more : List Job) (job : Job) (before after : List ℕ)
    → more ≡ first ++ job ∷ [] → before ≡ jobs_text verdicts first → after ≡ before ++ job_lines verdicts job
    → after ≡ jobs_text verdicts more
jobs-more verdicts first more job before after is so next =
    next
    ∙ ap (λ l. l ++ job_lines verdicts job) so
    ∙ flat_map_more (job_lines verdicts) [] first job
    ∙ ap (jobs_text verdicts) (sym is)

-- Equal verdicts give equal lines.
pub jobs_text-same : (f g : Uid → Verdicts) → ((u : Uid) → f u ≡ g u) → (jobs : List Job) → jobs_text f jobs ≡ jobs_text g jobs
jobs_text-same f g same [] = refl
jobs_text-same f g same (job ∷ jobs) =
    ap (λ v. lines_with job v ++ jobs_text f jobs) (same job.uid)
    ∙ ap (λ l. job_lines g job ++ l) (jobs_text-same f g same jobs)

-- The three parts of a report.
pub parts : (a b c d whole : List ℕ) → whole ≡ (a ++ b) ++ c → b ≡ d → whole ≡ a ++ (d ++ c)
parts a b c d whole is same = is ∙ append_assoc a b c ∙ ap (λ l. a ++ (l ++ c)) same

-- ---- lines that are not short

pub long_lines-more : (n : ℕ) (ds : List Deed) (d : Deed) → long_lines n (ds ++ d ∷ []) ≡ long_lines n ds ++ long_line (n + length ds) d
long_lines-more n [] d =
    let same : n ≡ n + 0 = omega arith in
    append-nil (long_line n d) ∙ ap (λ m. long_line m d) same
long_lines-more n (e ∷ ds) d =
    let same : n + 1 + length ds ≡ n + length (e ∷ ds) = omega arith in
    ap (λ l. long_line n e ++ l) (long_lines-more (n + 1) ds d ∙ ap (λ m. long_lines (n + 1) ds ++ long_line m d) same)
    ∙ sym (append_assoc (long_line n e) (long_lines (n + 1) ds) (long_line (n + length (e ∷ ds)) d))

pub long_ends-more : (at n : ℕ) (ds : List Deed) (d : Deed)
    → long_ends at n (ds ++ d ∷ []) ≡ long_ends at n ds ++ long_end (at + length (long_lines n (ds ++ d ∷ []))) d
long_ends-more at n [] d =
    append-nil (long_end (at + length (long_line n d)) d)
    ∙ ap (λ (l : List ℕ). long_end (at + length l) d) (sym (append-nil (long_line n d)))
long_ends-more at n (e ∷ ds) d =
    let first = long_line n e in
    let rest = long_lines (n + 1) (ds ++ d ∷ []) in
    let count : length (first ++ rest) ≡ length first + length rest = length-append first rest in
    let place : at + length first + length rest ≡ at + length (first ++ rest) = omega (arith, count) in
    ap (λ (l : List ℕ). long_end (at + length first) e ++ l)
    (long_ends-more (at + length first) (n + 1) ds d ∙ ap (λ m. long_ends (at + length first) (n + 1) ds ++ long_end m d) place)
    ∙ sym (append_assoc (long_end (at + length first) e) (long_ends (at + length first) (n + 1) ds) (long_end (at + length (first ++ rest)) d))

-- Those of the events up to a place, and that of the event there.
pub record Drafted (script : Script) (events : List Past) (place : ℕ) (long ends : List ℕ) : Type 0 where
  pub lines : long ≡ long_lines 1 (map (deed script) (take place events))
  pub ends_at : ends ≡ long_ends 0 1 (map (deed script) (take place events))

pub drafted-more : (script : Script) (events : List Past) (place : ℕ) (past : Past) (long more ends more_ends : List ℕ)
    → place < length events → take (place + 1) events ≡ take place events ++ past ∷ []
    → Drafted script events place long ends
    → more ≡ long ++ long_line (place + 1) (deed script past)
    → more_ends ≡ ends ++ long_end (length more) (deed script past)
    → Drafted script events (place + 1) more more_ends
drafted-more script events place past long more ends more_ends within one so next next_end =
    let first = map (deed script) (take place events) in
    let last = deed script past in
    let count : length first ≡ place = length-map (take place events) (deed script) ∙ length-take-le place events (omega (arith, within)) in
    let number : 1 + length first ≡ place + 1 = omega (arith, count) in
    let all : first ++ last ∷ [] ≡ map (deed script) (take (place + 1) events) =
    sym (ap (map (deed script)) one ∙ map-append (deed script) (take place events) (past ∷ [])) in
    let whole : more ≡ long_lines 1 (first ++ last ∷ []) =
    next
    ∙ ap (λ (l : List ℕ). l ++ long_line (place + 1) last) so.lines
    ∙ ap (λ m. long_lines 1 first ++ long_line m last) (sym number)
    ∙ sym (long_lines-more 1 first last) in
    let long_is : length more ≡ length (long_lines 1 (first ++ last ∷ [])) = ap length whole in
    let end : length more ≡ 0 + length (long_lines 1 (first ++ last ∷ [])) = omega (arith, long_is) in
    record {
      lines = whole ∙ ap (long_lines 1) all;
      ends_at =
          next_end
          ∙ ap (λ (l : List ℕ). l ++ long_end (length more) last) so.ends_at
          ∙ ap (λ m. long_ends 0 1 first ++ long_end m last) end
          ∙ sym (long_ends-more 0 1 first last)
          ∙ ap (long_ends 0 1) all;
    }
