-- Replies that hold no text, so that they are given twice without memory.
--     AnswersNoText answer     it tells of no container
--     HasNoText reply          it tells neither of a key nor of a container
use Rattle.jc_types.specs.declared.replies.Answer.{Answer}
use Rattle.jc_types.specs.declared.replies.Answer.TheVariants as answer
use Rattle.jc_types.specs.declared.replies.Reply.{Reply}
use Rattle.jc_types.specs.declared.replies.Reply.TheVariants as reply

-- The answer tells of no container.
abbrev pub AnswersNoText : Answer → Type 0
AnswersNoText (answer.NoContainer name) = ⊥
AnswersNoText other = Unit {0}

-- The reply tells neither of a key nor of a container.
abbrev pub HasNoText : Reply → Type 0
HasNoText (reply.NoContainer name) = ⊥
HasNoText (reply.Begun key jobs_at pods_at) = ⊥
HasNoText (reply.Stepped request given) = AnswersNoText given
HasNoText other = Unit {0}
