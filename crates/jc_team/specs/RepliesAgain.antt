-- The text of a reply.
--     IsReplyText reply text   it is all the text that the reply has
use Rattle.std.specs.Prelude.{◌≡◌}
use Rattle.jc_types.specs.declared.replies.Reply.{Reply}
use Rattle.jc_types.specs.declared.replies.Reply.TheVariants as reply
use Rattle.jc_runs.specs.TextlessReplies.{HasNoText}
use Rattle.jc_team.specs.declared.told.ReplyText.{ReplyText}
use Rattle.jc_team.specs.declared.told.ReplyText.TheVariants as text

-- It is all the text that the reply has.
abbrev pub IsReplyText : Reply → ReplyText → Type 0
IsReplyText told text.None = HasNoText told
IsReplyText (reply.Begun key jobs_at pods_at) (text.Key other) = other ≡ key
IsReplyText (reply.NoContainer name) (text.Name other) = other ≡ name
IsReplyText told other = ⊥
