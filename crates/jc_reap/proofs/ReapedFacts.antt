-- What the commands of a reaper say.
use Rattle.std.proofs.Common.{◌≡◌, ℕ, zero, suc, ◌+◌, ◌-◌, ◌<◌, ◌≤◌, ◌^◌, ◌==◌, nat_lt, Bool, true, false, cond, not, codes, List, [], ◌∷◌, ◌++◌, filter, find, length, replicate, slice_get, Option, Some, None, option_map, option_and_then}
use Rattle.std.proofs.Common.{IfSome, Result, Ok, Err, refl, sym, subst, arith, ltb-true}
use Rattle.std.specs.List.{AllByRecursion as Each}
use Rattle.std.specs.Prelude.{IfOk}
use Rattle.std.specs.Str.Lines.{strip_carriage_return}
use Rattle.std.proofs.lemmas.List.{length-map}
use Rattle.std.proofs.lemmas.Result.{IfOk-at_ok}
use Rattle.serde_json.specs.Data.{Data}
use Rattle.jc_json.specs.Line.{data_of}
use Rattle.jc_log.specs.Deeds.{act_of_action, act_of_command, act_of_event, act_of_system}
use Rattle.jc_log.specs.Log.{job_in, jobs_in, pods_in, pods_of}
use Rattle.jc_log.proofs.WriteFacts.{job_in-key}
use Rattle.jc_runs.specs.Diaries.{all_jobs, moment}
use Rattle.jc_runs.specs.Seen.{Seen, deeds_in, deeds_seen, log_seen}
use Rattle.jc_script.proofs.Within.{given_is_within, using_first, whatever}
use Rattle.jc_script.specs.Cause.{Cause}
use Rattle.jc_script.specs.TextLines.{lines_of}
use Rattle.jc_script.specs.Scripts.{BadLine, text_says}
use Rattle.jc_runs.specs.PodLists.{put_pod}
use Rattle.jc_types.specs.declared.objects.KeyNames.{KeyNames as Key}
use Rattle.jc_types.specs.Keys.{same_uid}
use Rattle.jc_types.specs.declared.actions.Action1.{Action1}
use Rattle.jc_types.specs.declared.actions.Action1.TheVariants as act
use Rattle.jc_types.specs.declared.actions.Command.{Command}
use Rattle.jc_types.specs.declared.actions.Script.{Script}
use Rattle.jc_types.specs.declared.numbers.Uid.{Uid}
use Rattle.jc_types.specs.declared.objects.Entry.{Entry}
use Rattle.jc_types.specs.declared.objects.Entry.TheVariants.{JobPut, JobGone, PodPut, PodGone}
use Rattle.jc_types.specs.declared.objects.Pod.{Pod}
use Rattle.jc_types.specs.declared.runs.Event.{Event}
use Rattle.jc_types.specs.declared.runs.Event.TheVariants as event
use Rattle.jc_types.specs.declared.runs.Past.{Past}
use Rattle.jc_types.specs.declared.runs.Shape.{Shape}
use Rattle.jc_types.specs.declared.runs.Sys.{Sys}
use Rattle.jc_types.specs.declared.runs.Sys.TheVariants as sys
use Rattle.jc_types.specs.declared.statuses.Condition.{Condition}
use Rattle.jc_reap.specs.declared.expiries.Expiry.{Expiry}
use Rattle.jc_reap.specs.Expiries.{MayGo, ended_at, expired, is_end, ttl_at}
use Rattle.jc_origins.specs.Origins.{AllCreateOf, AreDated, CreatesOf, HasOrigin, JobHasOrigin, PodHasOrigin}
use Rattle.jc_reap.specs.ReapedCommands.{Creates, CanBeSaid, IsSmallTtl}
use Rattle.jc_reap.specs.Makers.{maker}
use Rattle.jc_reap.specs.Reaping.{clock_to, command, is_ownerless, later_moment, mark_commands, ownerless, reap_list, removal, removals, then_settle, ttl_seen, unsettled}
use Rattle.jc_reap.specs.TtlLines.{greatest_ttl, line_ttls, makes_job, spec_member, spec_path, text_ttls, ttl_given, ttl_of_command, ttl_of_spec, ttls_before, ttls_of, ttls_say}
use Rattle.jc_reap.proofs.ExpiredFacts.{each-may_go}
use Rattle.jc_origins.proofs.OriginFacts.{job-origin, log-origins}

-- ---- lists

each_both : {A : Type 0} (P : A → Type 0) (xs ys : List A) → Each P xs → Each P ys → Each P (xs ++ ys)
each_both P [] ys one all = all
each_both P (x ∷ xs) ys one all = (one.0, each_both P xs ys one.1 all)

each_kept : {A : Type 0} (P : A → Type 0) (test : A → Bool) (xs : List A) → Each P xs → Each P (filter test xs)
each_kept P test [] all = tt
each_kept P test (x ∷ xs) all = by (each_kept P test xs all.1) (test x)
  where
    by : Each P (filter test xs) → (b : Bool) → Each P (cond b (x ∷ filter test xs) (filter test xs))
    by rest true = (all.0, rest)
    by rest false = rest

each_times : {A : Type 0} (P : A → Type 0) (n : ℕ) (a : A) → P a → Each P (replicate n a)
each_times P zero a holds = tt
each_times P (suc n) a holds = (holds, each_times P n a holds)

-- ---- deeds of a script

module _ (P : Key → Type 0) where
  action_of : (a : Action1) → Creates P a → CreatesOf P (act_of_action a)
  action_of (act.Create key spec) limited = limited
  action_of other limited = tt

  system_of : (s : Sys) → CreatesOf P (act_of_system s)
  system_of (sys.List controller kind) = tt
  system_of (sys.Deliver controller kind) = tt
  system_of (sys.Begin controller worker) = tt
  system_of (sys.Step controller worker) = tt
  system_of sys.Node = tt
  system_of (sys.Clock add) = tt

  command_of : (commands : List Command) (n : ℕ) → Each (λ (command : Command). Creates P command.action) commands → CreatesOf P (act_of_command (slice_get commands n))
  command_of [] zero limited = tt
  command_of [] (suc n) limited = tt
  command_of (command ∷ commands) zero limited = action_of command.action limited.0
  command_of (command ∷ commands) (suc n) limited = command_of commands n limited.1

  asks_of : (script : Script) (pasts : List Past) → Each (λ (command : Command). Creates P command.action) script.commands → AllCreateOf P (deeds_in script pasts)
  asks_of script [] limited = tt
  asks_of script (past ∷ pasts) limited = (by past.event, asks_of script pasts limited)
    where
      by : (e : Event) → CreatesOf P (act_of_event script.commands e)
      by (event.Command lane number) = command_of script.commands number limited
      by (event.System s) = system_of s

  -- ---- pods of the log

  module _ (n m : ℕ) where
    put_limited : (pod : Pod) (pods : List Pod) → PodHasOrigin m pod → Each (PodHasOrigin m) pods → Each (PodHasOrigin m) (put_pod pod pods)
    put_limited pod [] one all = (one, tt)
    put_limited pod (q ∷ pods) one all = by (put_limited pod pods one all.1) (nat_lt pod.uid.0 q.uid.0) (pod.uid.0 == q.uid.0)
      where
        by : Each (PodHasOrigin m) (put_pod pod pods) → (s t : Bool) → Each (PodHasOrigin m) (cond s (pod ∷ q ∷ pods) (cond t (pod ∷ pods) (q ∷ put_pod pod pods)))
        by rest true t = (one, all)
        by rest false true = (one, all.1)
        by rest false false = (all.0, rest)

    pods_limited : (log : List Entry) → Each (HasOrigin P n m) log → Each (PodHasOrigin m) (pods_in log)
    pods_limited [] all = tt
    pods_limited (JobPut job ∷ older) all = pods_limited older all.1
    pods_limited (JobGone job ∷ older) all = pods_limited older all.1
    pods_limited (PodPut pod ∷ older) all = put_limited pod (pods_in older) all.0 (pods_limited older all.1)
    pods_limited (PodGone pod ∷ older) all = each_kept (PodHasOrigin m) (λ p. not (same_uid p.uid pod.uid)) (pods_in older) (pods_limited older all.1)

    abbrev CanAllBeSaid : List Command → Type 0
    CanAllBeSaid commands = Each (λ (command : Command). CanBeSaid P command.action) commands

    marks_said : m < 2 ^ 32 → (pods : List Pod) → Each (PodHasOrigin m) pods → CanAllBeSaid (mark_commands pods)
    marks_said few [] all = tt
    marks_said few (pod ∷ pods) all =
        let most = all.0.few in
        ((all.0.some, omega (arith, most, few)), marks_said few pods all.1)

    -- ---- Jobs whose time is over

    find_dated : (conditions : List Condition) → AreDated n conditions → IfSome (find is_end conditions) (λ (c : Condition). c.since ≤ n)
    find_dated [] all = tt
    find_dated (c ∷ conditions) all = by (find_dated conditions all.1) (is_end c)
      where
        by : IfSome (find is_end conditions) (λ (c : Condition). c.since ≤ n) → (b : Bool) → IfSome (cond b (Some c) (find is_end conditions)) (λ (c : Condition). c.since ≤ n)
        by rest true = all.0
        by rest false = rest

    ended_dated : (conditions : List Condition) → AreDated n conditions → IfSome (ended_at conditions) (λ end. end ≤ n)
    ended_dated conditions all = by (find is_end conditions) (find_dated conditions all)
      where
        by : (o : Option Condition) → IfSome o (λ (c : Condition). c.since ≤ n) → IfSome (option_map (λ (condition : Condition). condition.since) o) (λ end. end ≤ n)
        by None h = tt
        by (Some c) h = h

    record IsLimitedRow (row : Expiry × Uid) : Type 0 where
      key : P row.0.key
      due : row.0.moment ≤ n + greatest_ttl

    at_some : {A : Type 0} (Q : A → Type 0) (o : Option A) (a : A) → o ≡ Some a → IfSome o Q → Q a
    at_some Q o a e h = subst (λ o. IfSome o Q) e h

    row_limited : (ttl : Uid → Option ℕ) → ((u : Uid) → IsSmallTtl (ttl u)) → (log : List Entry) → Each (HasOrigin P n m) log → (row : Expiry × Uid) → MayGo ttl log row → IsLimitedRow row
    row_limited ttl small log all row may =
        let job = at_some (JobHasOrigin P n) (job_in row.0.key log) may.job may.there (job-origin P n m log all row.0.key) in
        let end : may.end ≤ n = at_some (λ end. end ≤ n) (ended_at may.job.status.conditions) may.end may.ended (ended_dated may.job.status.conditions job.dated) in
        let seconds : may.seconds ≤ greatest_ttl = at_some (λ seconds. seconds ≤ greatest_ttl) (ttl row.1) may.seconds may.given (small row.1) in
        let due = may.due in
        record { key = subst P (job_in-key row.0.key log may.job may.there) job.key; due = omega (arith, due, end, seconds) }

    rows_limited : (ttl : Uid → Option ℕ) → ((u : Uid) → IsSmallTtl (ttl u)) → (log : List Entry) → Each (HasOrigin P n m) log → (rows : List (Expiry × Uid)) → Each (MayGo ttl log) rows → Each IsLimitedRow rows
    rows_limited ttl small log all [] may = tt
    rows_limited ttl small log all (row ∷ rows) may = (row_limited ttl small log all row may.0, rows_limited ttl small log all rows may.1)

    clock_said : (reached due : ℕ) → n ≤ reached → due ≤ n + greatest_ttl → CanAllBeSaid (clock_to reached due)
    clock_said reached due past few = by (nat_lt reached due)
      where
        by : (b : Bool) → CanAllBeSaid (cond b (command (act.Clock (due - reached)) ∷ []) [])
        by true = (omega (arith, past, few), tt)
        by false = tt

    later_past : (reached due : ℕ) → n ≤ reached → n ≤ later_moment reached due
    later_past reached due past = by (nat_lt reached due) refl
      where
        by : (b : Bool) → nat_lt reached due ≡ b → n ≤ cond b due reached
        by true e = let less = ltb-true reached due e in omega (arith, past, less)
        by false e = past

    removals_said : m < 2 ^ 32 → (log : List Entry) → Each (HasOrigin P n m) log → (reached : ℕ) → n ≤ reached → (rows : List (Expiry × Uid)) → Each IsLimitedRow rows → CanAllBeSaid (removals log reached rows)
    removals_said few log all reached past [] limited = tt
    removals_said few log all reached past (row ∷ rows) limited =
        each_both (λ (command : Command). CanBeSaid P command.action) (clock_to reached row.0.moment) _ (clock_said reached row.0.moment past limited.0.due)
        (each_both (λ (command : Command). CanBeSaid P command.action) (removal log row) _
        (limited.0.key, marks_said few (pods_of row.1 log) (each_kept (PodHasOrigin m) (λ pod. same_uid pod.owner_uid row.1) (pods_in log) (pods_limited log all)))
        (removals_said few log all (later_moment reached row.0.moment) (later_past reached row.0.moment past) rows limited.1))

    settle_said : (commands : List Command) → CanAllBeSaid commands → CanAllBeSaid (then_settle commands)
    settle_said [] all = tt
    settle_said (first ∷ more) all = each_both (λ (command : Command). CanBeSaid P command.action) (first ∷ more) (command act.Settle ∷ []) all (tt, tt)

  -- ---- TTLs

  slot_small : (ttls : List (Option ℕ)) (place : ℕ) → Each IsSmallTtl ttls → IfSome (slice_get ttls place) IsSmallTtl
  slot_small [] zero all = tt
  slot_small [] (suc place) all = tt
  slot_small (ttl ∷ ttls) zero all = all.0
  slot_small (ttl ∷ ttls) (suc place) all = slot_small ttls place all.1

  at_small : (ttls : List (Option ℕ)) (place : Option ℕ) → Each IsSmallTtl ttls → IsSmallTtl (ttl_at ttls place)
  at_small ttls None all = tt
  at_small ttls (Some place) all = by (slice_get ttls place) (slot_small ttls place all)
    where
      by : (o : Option (Option ℕ)) → IfSome o IsSmallTtl → IsSmallTtl (option_and_then (λ ttl. ttl) o)
      by None h = tt
      by (Some ttl) h = h

  -- ---- all commands

  pub reap_said : (seen : Seen) (ttls : List (Option ℕ)) → Each (λ (command : Command). Creates P command.action) seen.script.commands
      → length seen.pasts < 2 ^ 32 → Each IsSmallTtl ttls → Each (λ (command : Command). CanBeSaid P command.action) (reap_list seen ttls)
  reap_said seen ttls named few small =
      let log : List Entry = log_seen seen in
      let n : ℕ = moment seen.shape (deeds_seen seen) in
      let m : ℕ = length (deeds_seen seen) in
      let limited = log-origins P seen.shape (deeds_seen seen) (asks_of seen.script seen.pasts named) in
      let many : m < 2 ^ 32 = subst (λ k. k < 2 ^ 32) (sym (length-map seen.pasts _)) few in
      let ttl : Uid → Option ℕ = ttl_seen seen ttls in
      settle_said n m (unsettled seen ttls)
      (each_both (λ (command : Command). CanBeSaid P command.action) (mark_commands (ownerless log)) _
      (marks_said n m many (ownerless log) (each_kept (PodHasOrigin m) (is_ownerless (all_jobs log)) (pods_in log) (pods_limited n m log limited.origins)))
      (removals_said n m many log limited.origins n (omega arith) (expired ttl (jobs_in log))
      (rows_limited n m ttl (λ u. at_small ttls (maker seen.script.commands seen.pasts u) small) log limited.origins (expired ttl (jobs_in log)) (each-may_go ttl log))))

-- ---- the TTLs of a text

spec_small : (o : Option Data) → IfOk (ttl_of_spec o) IsSmallTtl
spec_small None = tt
spec_small (Some spec) = given_is_within spec_path (codes "ttlSecondsAfterFinished") 0 greatest_ttl spec

given_small : (o : Option Data) → IfOk (ttl_given o) IsSmallTtl
given_small None = tt
given_small (Some d) = spec_small (spec_member d)

command_small : (c : Command) (o : Option Data) → IfOk (ttl_of_command c o) IsSmallTtl
command_small c o = by (makes_job c.action)
  where
    by : (b : Bool) → IfOk (cond b (ttl_given o) (Ok None)) IsSmallTtl
    by true = given_small o
    by false = tt

text_small : (shape : Shape) (text : List ℕ) → IfOk (text_ttls shape text) (Each IsSmallTtl)
text_small shape [] = tt
text_small shape (b ∷ bs) =
    whatever (Each IsSmallTtl) (text_says shape (b ∷ bs)) _
    (λ said. using_first (Each IsSmallTtl) IsSmallTtl (ttl_of_command said.command (data_of (b ∷ bs))) _ (command_small said.command (data_of (b ∷ bs)))
    (λ ttl small. each_times IsSmallTtl said.times ttl small))

before_small : (number : ℕ) (first : Result (List (Option ℕ)) Cause) (rest : Result (List (Option ℕ)) BadLine) → IfOk first (Each IsSmallTtl) → IfOk rest (Each IsSmallTtl)
    → IfOk (ttls_before number first rest) (Each IsSmallTtl)
before_small number (Err cause) rest one all = tt
before_small number (Ok ttls) (Err bad) one all = tt
before_small number (Ok ttls) (Ok more) one all = each_both IsSmallTtl ttls more one all

lines_small : (shape : Shape) (number : ℕ) (lines : List (List ℕ)) → IfOk (ttls_say shape number lines) (Each IsSmallTtl)
lines_small shape number [] = tt
lines_small shape number (line ∷ lines) =
    before_small number (line_ttls shape line) (ttls_say shape (number + 1) lines) (text_small shape (strip_carriage_return line)) (lines_small shape (number + 1) lines)

pub ttls_small : (shape : Shape) (text : List ℕ) (ttls : List (Option ℕ)) → ttls_of shape text ≡ Ok ttls → Each IsSmallTtl ttls
unfolding ttls_of
ttls_small shape text ttls said = IfOk-at_ok (Each IsSmallTtl) said (lines_small shape 1 (lines_of text))
