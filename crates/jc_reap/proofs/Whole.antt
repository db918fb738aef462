-- The whole list of a reaper, from its parts.
use Rattle.std.proofs.Common.{◌≡◌, ℕ, List, [], ◌++◌, map, Option, ap, ◌∙◌}
use Rattle.std.specs.Prelude.{filter, reverse}
use Rattle.jc_types.specs.declared.actions.Command.{Command}
use Rattle.jc_types.specs.declared.numbers.Uid.{Uid}
use Rattle.jc_types.specs.declared.objects.Entry.{Entry}
use Rattle.jc_types.specs.declared.objects.Job.{Job}
use Rattle.jc_types.specs.declared.objects.Pod.{Pod}
use Rattle.jc_types.specs.declared.runs.Past.{Past}
use Rattle.jc_types.specs.declared.objects.KeyNames.{KeyNames as Key}
use Rattle.jc_types.specs.Keys.{same_uid}
use Rattle.jc_log.specs.Log.{jobs_in, pods_in}
use Rattle.jc_log.specs.Tables.{at}
use Rattle.jc_runs.specs.Diaries.{all_jobs, moment}
use Rattle.jc_runs.specs.Seen.{Seen, deeds_seen, log_seen}
use Rattle.jc_reap.specs.declared.expiries.Expiry.{Expiry}
use Rattle.jc_reap.specs.Expiries.{expired, ttl_at}
use Rattle.jc_reap.specs.Makers.{maker}
use Rattle.jc_reap.specs.Reaping.{is_ownerless, mark_commands, ownerless, removals, ttl_seen, unsettled}
use Rattle.jc_reap.proofs.Lists.{expired-same}

-- What the reader of a table of makers finds is what the history says.
ttls-are : (seen : Seen) (ttls found : List (Option ℕ)) (commands : List Command) (events : List Past) (makers : List (Uid × ℕ))
    → ((u : Uid) → at same_uid makers u ≡ maker commands (reverse events) u)
    → commands ≡ seen.script.commands → reverse events ≡ seen.pasts → found ≡ ttls
    → (u : Uid) → ttl_at found (at same_uid makers u) ≡ ttl_seen seen ttls u
ttls-are seen ttls found commands events makers tell said past same u =
    ap (λ ts. ttl_at ts (at same_uid makers u)) same
    ∙ ap (ttl_at ttls) (tell u ∙ ap (λ cs. maker cs (reverse events) u) said ∙ ap (λ ps. maker seen.script.commands ps u) past)

-- The marks of ownerless are those of the log.
marks-are : (log last : List Entry) (jobs : List (Key × Job)) (pods : List Pod)
    → log ≡ last → jobs ≡ jobs_in log → pods ≡ pods_in log
    → mark_commands (filter (is_ownerless (map (λ row. row.1) jobs)) pods) ≡ mark_commands (ownerless last)
marks-are log last jobs pods at-end some all =
    ap (λ js. mark_commands (filter (is_ownerless (map (λ row. row.1) js)) pods)) (some ∙ ap jobs_in at-end)
    ∙ ap (λ ps. mark_commands (filter (is_ownerless (all_jobs last)) ps)) (all ∙ ap pods_in at-end)

-- Marks, and then removals.
pub both-are : (seen : Seen) (ttls : List (Option ℕ)) (log : List Entry) (now : ℕ) (rows : List (Expiry × Uid))
    → (jobs : List (Key × Job)) (pods : List Pod) (first second third : List Command)
    → log ≡ log_seen seen → now ≡ moment seen.shape (deeds_seen seen)
    → rows ≡ expired (ttl_seen seen ttls) (jobs_in (log_seen seen))
    → jobs ≡ jobs_in log → pods ≡ pods_in log → first ≡ []
    → second ≡ first ++ mark_commands (filter (is_ownerless (map (λ row. row.1) jobs)) pods)
    → third ≡ second ++ removals log now rows
    → third ≡ unsettled seen ttls
both-are seen ttls log now rows jobs pods first second third at-end by due some all none marked removed =
    let last = log_seen seen in
    let left = mark_commands (filter (is_ownerless (map (λ row. row.1) jobs)) pods) in
    removed
    ∙ ap (λ l. l ++ removals log now rows) (marked ∙ ap (λ l. l ++ left) none ∙ marks-are log last jobs pods at-end some all)
    ∙ ap (λ l. mark_commands (ownerless last) ++ l)
    (ap (λ l. removals l now rows) at-end
    ∙ ap (λ n. removals last n rows) by
    ∙ ap (removals last (moment seen.shape (deeds_seen seen))) due)

-- The rows of the Jobs that may go, where the makers were read of the history.
pub rows-are : (seen : Seen) (ttls found : List (Option ℕ)) (commands : List Command) (events : List Past) (makers : List (Uid × ℕ))
    → (log : List Entry) (jobs : List (Key × Job)) (rows : List (Expiry × Uid))
    → ((u : Uid) → at same_uid makers u ≡ maker commands (reverse events) u)
    → commands ≡ seen.script.commands → reverse events ≡ seen.pasts → found ≡ ttls
    → log ≡ log_seen seen → jobs ≡ jobs_in log
    → rows ≡ expired (λ u. ttl_at found (at same_uid makers u)) jobs
    → rows ≡ expired (ttl_seen seen ttls) (jobs_in (log_seen seen))
rows-are seen ttls found commands events makers log jobs rows tell said past same at-end some is =
    is
    ∙ expired-same (λ u. ttl_at found (at same_uid makers u)) (ttl_seen seen ttls)
    (ttls-are seen ttls found commands events makers tell said past same) jobs
    ∙ ap (expired (ttl_seen seen ttls)) (some ∙ ap jobs_in at-end)
