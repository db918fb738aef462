-- What the store replies to an update that is refused.
use Rattle.jc_manifest.specs.declared.updates.UpdateFault.{UpdateFault}
use Rattle.jc_manifest.specs.declared.updates.UpdateFault.TheVariants as fault
use Rattle.jc_types.specs.declared.replies.Reply.{Reply}
use Rattle.jc_types.specs.declared.replies.Reply.TheVariants.{Immutable, Invalid}

-- The reply names the same member.
abbrev pub reply_to : UpdateFault → Reply
reply_to (fault.Immutable field) = Immutable field
reply_to (fault.Invalid field) = Invalid field
