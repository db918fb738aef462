-- Lines that take no memory, and are short whatever their numbers are.
--     is_short_key key, is_short_act act, is_short_answer answer, is_short_reply reply     so are their texts
--     is_short deed                    so is the line of the event
use Rattle.std.specs.Prelude.{◌+◌, ◌&&◌, nat_lt, Bool, true, false, length}
use Rattle.jc_log.specs.Acts.{Act}
use Rattle.jc_log.specs.Acts as does
use Rattle.jc_log.specs.Deeds.{Deed}
use Rattle.jc_types.specs.declared.objects.KeyNames.{KeyNames as Key}
use Rattle.jc_types.specs.declared.replies.Answer.{Answer}
use Rattle.jc_types.specs.declared.replies.Answer.TheVariants as answer
use Rattle.jc_types.specs.declared.replies.Reply.{Reply}
use Rattle.jc_types.specs.declared.replies.Reply.TheVariants as reply

-- The names of the key are short.
abbrev pub is_short_key : Key → Bool
is_short_key key = nat_lt (length key.namespace + length key.name) 300

-- What the event does has no JSON in its text, and names no key but a short one.
abbrev pub is_short_act : Act → Bool
is_short_act (does.Create key spec) = false
is_short_act (does.Update key version change) = false
is_short_act (does.Report pod change) = false
is_short_act (does.Fate key ends) = false
is_short_act (does.Delete key) = is_short_key key
is_short_act other = true

-- The answer names no container.
abbrev pub is_short_answer : Answer → Bool
is_short_answer (answer.NoContainer name) = false
is_short_answer other = true

-- The reply names no container, no key but a short one, and no moment.
abbrev pub is_short_reply : Reply → Bool
is_short_reply (reply.NoContainer name) = false
is_short_reply (reply.Now moment) = false
is_short_reply (reply.Begun key jobs_at pods_at) = is_short_key key
is_short_reply (reply.Stepped request answer) = is_short_answer answer
is_short_reply other = true

-- What the event does and its reply are so.
abbrev pub is_short : Deed → Bool
is_short deed = is_short_act deed.act && is_short_reply deed.reply
