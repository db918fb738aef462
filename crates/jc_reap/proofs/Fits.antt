-- What each command of a reaper is.
use Rattle.std.proofs.Common.{ℕ, ◌-◌, List, [], ◌∷◌, ◌++◌, nat_lt, true, false, Option}
use Rattle.std.specs.Prelude.{if◌then◌else◌}
use Rattle.std.specs.List.{AllByRecursion as Each}
use Rattle.jc_types.specs.declared.actions.Action1.TheVariants as act
use Rattle.jc_types.specs.declared.actions.Command.{Command}
use Rattle.jc_types.specs.declared.numbers.Uid.{Uid}
use Rattle.jc_types.specs.declared.objects.Entry.{Entry}
use Rattle.jc_types.specs.declared.objects.KeyNames.{KeyNames as Key}
use Rattle.jc_types.specs.declared.objects.Pod.{Pod}
use Rattle.jc_log.specs.Log.{jobs_in, pods_of}
use Rattle.jc_runs.specs.Diaries.{moment}
use Rattle.jc_runs.specs.Seen.{Seen, deeds_seen, log_seen}
use Rattle.jc_reap.specs.declared.expiries.Expiry.{Expiry}
use Rattle.jc_reap.specs.Expiries.{expired}
use Rattle.jc_reap.specs.Reaping.{clock_to, command, later_moment, mark_commands, ownerless, reap_list, removal, removals, then_settle, ttl_seen, unsettled}

-- What holds of a mark, a clock and a delete holds of each command of a reaper but the settle at the end; what holds of
-- a settle too holds of each.
module _ (P : Command → Type 0) (mark : (u : Uid) → P (command (act.Mark u))) (clock : (n : ℕ) → P (command (act.Clock n)))
    (delete : (k : Key) → P (command (act.Delete k))) where
  abbrev pub Hold : List Command → Type 0
  Hold commands = Each P commands

  joined : (xs ys : List Command) → Hold xs → Hold ys → Hold (xs ++ ys)
  joined [] ys a b = b
  joined (x ∷ xs) ys a b = (a.0, joined xs ys a.1 b)

  of-marks : (pods : List Pod) → Hold (mark_commands pods)
  of-marks [] = tt
  of-marks (pod ∷ pods) = (mark pod.uid, of-marks pods)

  of-clock : (reached due : ℕ) → Hold (clock_to reached due)
  of-clock reached due =
      elim (nat_lt reached due) as (λ v. Hold (if v then command (act.Clock (due - reached)) ∷ [] else [])) [
        | true ↦ (clock (due - reached), tt)
        | false ↦ tt
      ]

  of-removals : (log : List Entry) (reached : ℕ) (rows : List (Expiry × Uid)) → Hold (removals log reached rows)
  of-removals log reached [] = tt
  of-removals log reached (row ∷ rows) =
      let next = removals log (later_moment reached row.0.moment) rows in
      joined (clock_to reached row.0.moment) (removal log row ++ next) (of-clock reached row.0.moment) (
        delete row.0.key,
        joined (mark_commands (pods_of row.1 log)) next (of-marks (pods_of row.1 log))
            (of-removals log (later_moment reached row.0.moment) rows),
      )

  pub of-unsettled : (seen : Seen) (ttls : List (Option ℕ)) → Hold (unsettled seen ttls)
  of-unsettled seen ttls =
      let log = log_seen seen in
      let rows = expired (ttl_seen seen ttls) (jobs_in log) in
      let now = moment seen.shape (deeds_seen seen) in
      joined (mark_commands (ownerless log)) (removals log now rows) (of-marks (ownerless log)) (of-removals log now rows)

  module _ (settle : P (command act.Settle)) where
    of-settled : (commands : List Command) → Hold commands → Hold (then_settle commands)
    of-settled [] all = tt
    of-settled (c ∷ commands) all = joined (c ∷ commands) (command act.Settle ∷ []) all (settle, tt)

    pub of-all : (seen : Seen) (ttls : List (Option ℕ)) → Hold (reap_list seen ttls)
    of-all seen ttls = of-settled (unsettled seen ttls) (of-unsettled seen ttls)
