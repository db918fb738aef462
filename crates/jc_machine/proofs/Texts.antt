-- When a report is answered without a text, and what text a reply has.
use Rattle.std.proofs.Common.{◌≡◌, ℕ, List, Bool, true, false, cond, ◌&&◌, find, Option, Some, None, refl, sym, ap, ◌∙◌, subst, ◌⊎◌, inl, inr}
use Rattle.jc_types.specs.declared.actions.ContainerChange.{ContainerChange}
use Rattle.jc_types.specs.declared.actions.PhaseChange.{PhaseChange}
use Rattle.jc_types.specs.declared.numbers.Uid.{Uid}
use Rattle.jc_types.specs.declared.objects.Entry.{Entry}
use Rattle.jc_types.specs.declared.objects.Phase.TheVariants.{Pending, Running}
use Rattle.jc_types.specs.declared.objects.Pod.{Pod}
use Rattle.jc_types.specs.declared.replies.Reply.{Reply}
use Rattle.jc_types.specs.declared.replies.Reply.TheVariants as reply
use Rattle.jc_types.specs.Equality.{same_phase}
use Rattle.jc_runs.specs.Pods.{is_final}
use Rattle.jc_log.specs.Log.{next_version, pod_in}
use Rattle.jc_log.specs.Requests.{Answered, accepted, grown, is_unnamed, pod_entry, refused, report_phase_at, report_phase_gives, report_unless, same_course_of, with_report}
use Rattle.jc_runs.specs.TextlessReplies.{HasNoText}
use Rattle.jc_team.specs.RepliesAgain.{IsReplyText}
use Rattle.jc_team.specs.declared.told.ReplyText.{ReplyText}

-- The answer tells of a container that the pod does not have, and appends nothing.
pub record IsNamed (a : Answered) : Type 0 where
  pub name : List ℕ
  pub told : a.reply ≡ reply.NoContainer name
  pub nothing : a.entry ≡ None

-- A report is answered without a text, unless it names such a container.
report_unless_texts : (log : List Entry) (pod : Pod) (change : PhaseChange) (o : Option ContainerChange) → HasNoText (report_unless log pod change o).reply ⊎ IsNamed (report_unless log pod change o)
report_unless_texts log pod change (Some unnamed) = inr (record { name = unnamed.name; told = refl; nothing = refl })
report_unless_texts log pod change None = by (same_course_of pod (with_report log pod change))
  where
    by : (b : Bool) → HasNoText (cond b (refused (reply.Unchanged pod.version))
        (accepted (reply.Written (next_version log)) (pod_entry (with_report log pod change)))).reply
        ⊎ IsNamed (cond b (refused (reply.Unchanged pod.version))
        (accepted (reply.Written (next_version log)) (pod_entry (with_report log pod change))))
    by true = inl tt
    by false = inl tt

report_texts : (log : List Entry) (uid : Uid) (change : PhaseChange) → HasNoText (report_phase_gives log uid change).reply ⊎ IsNamed (report_phase_gives log uid change)
report_texts log uid change = by (pod_in uid log)
  where
    tests : (pod : Pod) (a b : Bool) → HasNoText
        (cond a (refused (reply.Final pod.phase))
        (cond b (refused (reply.BadStep Running Pending))
        (report_unless log pod change (find (is_unnamed pod) change.containers)))).reply
        ⊎ IsNamed (cond a (refused (reply.Final pod.phase))
        (cond b (refused (reply.BadStep Running Pending))
        (report_unless log pod change (find (is_unnamed pod) change.containers))))
    tests pod true b = inl tt
    tests pod false true = inl tt
    tests pod false false = report_unless_texts log pod change (find (is_unnamed pod) change.containers)

    by : (o : Option Pod) → HasNoText (report_phase_at log change o).reply ⊎ IsNamed (report_phase_at log change o)
    by None = inl tt
    by (Some pod) = tests pod (is_final pod.phase) (same_phase pod.phase Running && same_phase change.phase Pending)

module _ (log next : List Entry) (uid : Uid) (change : PhaseChange) (given : Reply) (is : given ≡ (report_phase_gives log uid change).reply) where
  -- Where the text is not copied, nothing was appended.
  pub report_kept : (name : List ℕ) → next ≡ grown log (report_phase_gives log uid change).entry → given ≡ reply.NoContainer name → next ≡ log
  report_kept name grew named = by (report_texts log uid change)
    where
      by : HasNoText (report_phase_gives log uid change).reply ⊎ IsNamed (report_phase_gives log uid change) → next ≡ log
      by (inl plain) = absurd (subst HasNoText (sym is ∙ named) plain)
      by (inr n) = grew ∙ ap (grown log) n.nothing

  -- Any other reply to a report has no text.
  pub report_plain : ((name : List ℕ) → given ≡ reply.NoContainer name → ⊥) → HasNoText given
  report_plain other = by (report_texts log uid change)
    where
      by : HasNoText (report_phase_gives log uid change).reply ⊎ IsNamed (report_phase_gives log uid change) → HasNoText given
      by (inl plain) = subst HasNoText (sym is) plain
      by (inr n) = absurd (other n.name (is ∙ n.told))

-- The text of a reply is that of the reply that was told.
pub text_of : {given told : Reply} (text : ReplyText) → given ≡ told → IsReplyText given text → IsReplyText told text
text_of text same is = subst (λ r. IsReplyText r text) same is
