-- What it means that a request of a sync is granted.
--     grants asked given          the answer grants the request
--     GrantsOne d                 the deed grants a request
--     IsGranted shape past d      the deed's request is granted and its entry appended, or none was left
use Rattle.std.specs.Prelude.{◌≡◌, ◌+◌, Bool, true, false, List, ◌∷◌, length}
use Rattle.jc_types.specs.declared.replies.Answer.{Answer}
use Rattle.jc_types.specs.declared.replies.Answer.TheVariants as answer
use Rattle.jc_types.specs.declared.replies.Reply.TheVariants as reply
use Rattle.jc_types.specs.declared.replies.Request.{Request}
use Rattle.jc_types.specs.declared.replies.Request.TheVariants as request
use Rattle.jc_types.specs.declared.runs.Shape.{Shape}
use Rattle.jc_log.specs.Deeds.{Deed}
use Rattle.jc_history.specs.Replies.{log_given}

-- The answer grants the request: a pod is made, a mark or a status is written, a finalizer is taken. Each other
-- answer is a refusal, or says that nothing has changed.
abbrev pub grants : Request → Answer → Bool
grants (request.CreatePod index) (answer.Created uid version) = true
grants (request.MarkPod pod) (answer.Written version) = true
grants (request.LetGo pod) (answer.Released version) = true
grants request.Status (answer.Written version) = true
grants (request.Release pod) (answer.Released version) = true
grants asked given = false

-- The deed grants a request.
pub record GrantsOne (d : Deed) : Type 0 where
  pub asked : Request
  pub given : Answer
  pub reply_is : d.reply ≡ reply.Stepped asked given
  pub granted : grants asked given ≡ true

-- The deed's request is granted, and the log is longer by its entry; or no request was left, and the sync ends.
pub data IsGranted (shape : Shape) (past : List Deed) (d : Deed) : Type 0 where
  Granted : (asked : Request) (given : Answer) → d.reply ≡ reply.Stepped asked given
      → grants asked given ≡ true
      → length (log_given shape (d ∷ past)) ≡ length (log_given shape past) + 1
      → IsGranted shape past d
  NoneLeft : d.reply ≡ reply.Ended → IsGranted shape past d
