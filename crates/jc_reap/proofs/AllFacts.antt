-- What has come of a reaper's commands: all that was due was collected.
use Rattle.std.proofs.Common.{◌≡◌, ◌⊎◌, inl, inr, ℕ, Bool, true, false, cond, List, [], ◌∷◌, ◌++◌, filter, find, Option, Some, None, is_some, sym, ap, ◌∙◌, subst, true≢false}
use Rattle.std.specs.List.{AllByRecursion as Each, Contains}
use Rattle.jc_types.specs.declared.actions.Command.{Command}
use Rattle.jc_types.specs.declared.numbers.Uid.{Uid}
use Rattle.jc_types.specs.declared.objects.Entry.{Entry}
use Rattle.jc_types.specs.declared.objects.Pod.{Pod}
use Rattle.jc_types.specs.declared.runs.Shape.{Shape}
use Rattle.jc_types.specs.Keys.{same_uid}
use Rattle.jc_types.proofs.KeyFacts.{same_uid-itself}
use Rattle.jc_log.specs.Acts.{Act}
use Rattle.jc_log.specs.Acts as does
use Rattle.jc_log.specs.Deeds.{Deed, act_of_action}
use Rattle.jc_log.specs.Log.{jobs_in, pods_in}
use Rattle.jc_log.proofs.PodFacts.{pods_in-among}
use Rattle.jc_runs.specs.Diaries.{all_jobs, moment}
use Rattle.jc_runs.specs.Replies.{log_given}
use Rattle.jc_reap.specs.Expiries.{expired}
use Rattle.jc_reap.specs.Finds.{CollectsAll, IsCollected}
use Rattle.jc_reap.specs.Reaping.{clock_to, is_ownerless, later_moment, mark_commands, ownerless, removal, removals}
use Rattle.jc_reap.proofs.ExpiredFacts.{Among, Row, among-all}
use Rattle.jc_reap.proofs.PlayedFacts.{Came, acts_in, asked, each-onto, onto}

-- What holds of each of the whole holds of each of both parts.
both-parts : {X : Type 0} (P : X → Type 0) (xs ys : List X) → Each P (xs ++ ys) → Each P xs × Each P ys
both-parts P [] ys h = (tt, h)
both-parts P (x ∷ xs) ys h = let more = both-parts P xs ys h.1 in ((h.0, more.0), more.1)

module _ (P : Act → Type 0) where
  abbrev pub Of : Command → Type 0
  Of c = P (act_of_action c.action)

  -- A pod that is there and passes was marked.
  marked : (test : Pod → Bool) (pod : Pod) (pods : List Pod) → find (λ (p : Pod). same_uid p.uid pod.uid) pods ≡ Some pod → test pod ≡ true
      → Each Of (mark_commands (filter test pods)) → P (does.Mark pod.uid)
  marked test pod [] there passes all = absurd (true≢false (sym (ap is_some there)))
  marked test pod (p ∷ pods) there passes all =
      by (same_uid p.uid pod.uid) there (λ h rest. marked test pod pods h passes rest)
    where
      rest-of : (b : Bool) → Each Of (mark_commands (cond b (p ∷ filter test pods) (filter test pods))) → Each Of (mark_commands (filter test pods))
      rest-of true h = h.1
      rest-of false h = h

      by : (b : Bool) → cond b (Some p) (find (λ (p : Pod). same_uid p.uid pod.uid) pods) ≡ Some pod
          → (find (λ (p : Pod). same_uid p.uid pod.uid) pods ≡ Some pod → Each Of (mark_commands (filter test pods)) → P (does.Mark pod.uid))
          → P (does.Mark pod.uid)
      by true found rest =
          let is : p ≡ pod = ap (λ (o : Option Pod). elim o [ None ↦ p | Some q ↦ q ]) found in
          let own = subst (λ (b : Bool). Each Of (mark_commands (cond b (p ∷ filter test pods) (filter test pods)))) (ap test is ∙ passes) all in
          subst (λ (q : Pod). P (does.Mark q.uid)) is own.0
      by false found rest = rest found (rest-of (test p) all)

  -- Each row of the list was removed.
  removed : (log : List Entry) (row : Row) (rows : List Row) (now : ℕ) → Among row rows → Each Of (removals log now rows) → Each Of (removal log row)
  removed log row [] now there all = absurd there
  removed log row (first ∷ rows) now there all =
      let next = removals log (later_moment now first.0.moment) rows in
      let due = (both-parts Of (clock_to now first.0.moment) (removal log first ++ next) all).1 in
      let here = both-parts Of (removal log first) next due in
      by there here.0 (λ h. removed log row rows (later_moment now first.0.moment) h here.1)
    where
      by : (first ≡ row) ⊎ Among row rows → Each Of (removal log first) → (Among row rows → Each Of (removal log row)) → Each Of (removal log row)
      by (inl is) here rest = subst (λ (r : Row). Each Of (removal log r)) is here
      by (inr h) here rest = rest h

module _ (ttl : Uid → Option ℕ) (log : List Entry) (now : ℕ) (acts : List Act) where
  abbrev Came-of : Command → Type 0
  Came-of c = Contains acts (act_of_action c.action)

  collects : Each Came-of (mark_commands (ownerless log) ++ removals log now (expired ttl (jobs_in log))) → CollectsAll ttl log acts
  collects all =
      let P : Act → Type 0 = λ (a : Act). Contains acts a in
      let parts = both-parts Came-of (mark_commands (ownerless log)) (removals log now (expired ttl (jobs_in log))) all in
      record {
        jobs = λ row may. (removed P log row (expired ttl (jobs_in log)) now (among-all ttl log row may) parts.1).0;
        left = λ pod there gone. marked P (is_ownerless (all_jobs log)) pod (pods_in log) (pods_in-among pod.uid log ∙ there) gone parts.0;
        pods = λ pod there row may owned.
            marked P (λ (p : Pod). same_uid p.owner_uid row.1) pod (pods_in log) (pods_in-among pod.uid log ∙ there)
            (ap (λ (u : Uid). same_uid u row.1) owned ∙ same_uid-itself row.1)
            (removed P log row (expired ttl (jobs_in log)) now (among-all ttl log row may) parts.1).1;
      }

-- Where all commands have come, all was collected.
pub collected : (ttl : Uid → Option ℕ) (shape : Shape) (start : List Deed) (now : ℕ) (commands : List Command) (full : Bool) (after : List Deed)
    → commands ≡ mark_commands (ownerless (log_given shape start)) ++ removals (log_given shape start) now (expired ttl (jobs_in (log_given shape start)))
    → Came ttl shape start (asked full (onto commands [])) after → IsCollected ttl shape start full after
collected ttl shape start now commands full after is c = record {
  more = c.more;
  parts = c.parts;
  due = c.due;
  all = λ e.
      let P : Act → Type 0 = λ (a : Act). Contains (acts_in c.more) a in
      let came = subst (λ (b : Bool). Each P (asked b (onto commands []))) e c.among in
      collects ttl (log_given shape start) now (acts_in c.more)
      (subst (λ (l : List Command). Each (Of P) l) is (each-onto P commands [] came).0);
}
