-- How the registers of a threaded run follow events: where they lead, and that none is held that was not.
use Rattle.std.proofs.Common.{◌≡◌, ℕ, ◌+◌, ◌<◌, ◌==◌, ◌||◌, Bool, true, false, cond, List, [], ◌∷◌, ◌++◌, append_assoc, length, map, get_or, drop, reverse, is_some, refl, sym, ap, ◌∙◌, subst}
use Rattle.std.proofs.Math.Seq.{drop-append_seam}
use Rattle.std.proofs.lemmas.Bool.{or_parts}
use Rattle.std.proofs.lemmas.List.{at_drop_more, length-reverse, reverse-append}
use Rattle.jc_types.specs.declared.actions.Command.{Command}
use Rattle.jc_types.specs.declared.actions.Script.{Script}
use Rattle.jc_types.specs.declared.replies.Reply.{Reply}
use Rattle.jc_types.specs.declared.replies.Reply.TheVariants as reply
use Rattle.jc_types.specs.declared.runs.Past.{Past}
use Rattle.jc_log.specs.Acts.{Act}
use Rattle.jc_log.specs.Deeds.{act_of_event}
use Rattle.jc_runs.specs.Seen.{Seen, past_seen}
use Rattle.jc_play.specs.SyncsSeen.{IsSynced, Nothing, Began, begin_event}
use Rattle.jc_play.specs.declared.slots.Slot.{Slot}
use Rattle.jc_play.specs.Slots.{is_slot_of}
use Rattle.jc_core.specs.declared.touches.Touch.{Touch}
use Rattle.jc_core.specs.declared.touches.Touch.TheVariants as touch
use Rattle.jc_core.specs.RegisterChanges.{touch_of, touched_slots}
use Rattle.jc_core.specs.Shared.{HasKeptUp, KeepsShared, Shared, fresh_slot, freed_slots, has_holders, numbers_of, restarted_slots, slots_after, slots_told, wanting}
use Rattle.jc_core.proofs.TouchFacts.{touched-by}

-- ---- holders

module _ (f : Slot → Slot) (less : (slot : Slot) → is_some slot.holder ≡ false → is_some (f slot).holder ≡ false) where
  free-map : (slots : List Slot) → has_holders slots ≡ false → has_holders (map f slots) ≡ false
  free-map [] e = refl
  free-map (slot ∷ slots) e =
      let neither = or_parts (is_some slot.holder) (has_holders slots) e in
      ap (λ b. b || has_holders (map f slots)) (less slot neither.0) ∙ free-map slots neither.1

either-free : (b : Bool) (one slot : Slot) → (is_some slot.holder ≡ false → is_some one.holder ≡ false) → is_some slot.holder ≡ false → is_some (cond b one slot).holder ≡ false
either-free true one slot f e = f e
either-free false one slot f e = e

-- So it is where plans are wanted or not, or a controller starts anew.
pub wanting-free : (wants : Bool) (c w : ℕ) (slots : List Slot) → has_holders slots ≡ false → has_holders (wanting wants c w slots) ≡ false
wanting-free wants c w slots e =
    free-map (λ slot. cond (is_slot_of c w slot) (record slot { wants = wants }) slot) (λ slot. either-free (is_slot_of c w slot) (record slot { wants = wants }) slot (λ h. h)) slots e

pub restarted-free : (c : ℕ) (slots : List Slot) → has_holders slots ≡ false → has_holders (restarted_slots c slots) ≡ false
restarted-free c slots e =
    free-map (λ slot. cond (slot.controller == c) (fresh_slot (numbers_of slot)) slot) (λ slot. either-free (slot.controller == c) (fresh_slot (numbers_of slot)) slot (λ h. refl)) slots e

touched-free : (t : Touch) (answer : Reply) (slots : List Slot) → has_holders slots ≡ false → has_holders (touched_slots t answer slots) ≡ false
touched-free (touch.Begin c w) (reply.Begun key jobs_at pods_at) slots e = wanting-free true c w slots e
touched-free (touch.Begin c w) other slots e = e
touched-free (touch.Step c w) answer slots e = wanting-free false c w slots e
touched-free (touch.Restart c) answer slots e = restarted-free c slots e
touched-free touch.Nothing answer slots e = e

after-free : (act : Act) (answer : Reply) (slots : List Slot) → has_holders slots ≡ false → has_holders (slots_after act answer slots) ≡ false
after-free act answer slots e = subst (λ s. has_holders s ≡ false) (touched-by act answer slots) (touched-free (touch_of act) answer slots e)

-- None is held that was not, once events have happened.
pub told-free : (commands : List Command) (pasts : List Past) (slots : List Slot) → has_holders slots ≡ false → has_holders (slots_told commands pasts slots) ≡ false
told-free commands [] slots e = e
told-free commands (past ∷ pasts) slots e =
    told-free commands pasts (slots_after (act_of_event commands past.event) past.reply slots) (after-free (act_of_event commands past.event) past.reply slots e)

-- None is held once all are freed.
pub freed-free : (slots : List Slot) → has_holders (freed_slots slots) ≡ false
freed-free [] = refl
freed-free (slot ∷ slots) = freed-free slots

-- None is held in the beginning.
pub fresh-free : (registers : List (ℕ × ℕ)) → has_holders (map fresh_slot registers) ≡ false
fresh-free [] = refl
fresh-free (register ∷ registers) = fresh-free registers

-- ---- what the type keeps

-- It stays where numbers do.
pub told-kept : (seen : Seen) (old new : List Slot) → map numbers_of new ≡ map numbers_of old → KeepsShared seen old → KeepsShared seen new
told-kept seen old new numbers h = record {
  registers = numbers ∙ h.registers;
  proper = h.proper;
  bound = h.bound;
}

-- ---- one event more

-- What the events that are left lead to, once the first of them has happened.
pub told-on : (commands : List Command) (events : List Past) (i : ℕ) (past : Past) (slots new first : List Slot)
    (t : Touch) → i < length events → past ≡ get_or events i past → t ≡ touch_of (act_of_event commands past.event)
    → new ≡ touched_slots t past.reply slots
    → slots_told commands (drop i events) slots ≡ slots_told commands events first → slots_told commands (drop (i + 1) events) new ≡ slots_told commands events first
told-on commands events i past slots new first t within at touches made left =
    ap (slots_told commands (drop (i + 1) events)) (made ∙ ap (λ t. touched_slots t past.reply slots) touches ∙ touched-by (act_of_event commands past.event) past.reply slots)
    ∙ sym (at_drop_more (λ ps. slots_told commands ps slots) events i past within ∙ ap (λ p. slots_told commands (p ∷ drop (i + 1) events) slots) (sym at))
    ∙ left

-- ---- events that came

-- Those that came are the ones from the old count on.
newest : (more old : List Past) (from : ℕ) → from ≡ length old → drop from (reverse (more ++ old)) ≡ reverse more
newest more old from count =
    ap (drop from) (reverse-append more old) ∙ ap (λ n. drop n (reverse old ++ reverse more)) (count ∙ sym (length-reverse old)) ∙ drop-append_seam (reverse old) (reverse more)

-- The registers have kept up where they followed those.
kept-up : (old new : Shared) (commands : List Command) (from : ℕ) (more : List Past) → new.seen.pasts ≡ more ++ old.seen.pasts → from ≡ length old.seen.pasts → commands ≡ old.seen.script.commands
    → new.slots ≡ slots_told commands (drop from (reverse new.seen.pasts)) old.slots → HasKeptUp old new
kept-up old new commands from more pasts count script told = record {
  more = more;
  pasts = pasts;
  slots =
      told
      ∙ ap (λ cs. slots_told cs (drop from (reverse new.seen.pasts)) old.slots) script
      ∙ ap (λ ps. slots_told old.seen.script.commands (drop from (reverse ps)) old.slots) pasts
      ∙ ap (λ ps. slots_told old.seen.script.commands ps old.slots) (newest more old.seen.pasts from count);
}

-- What a sync leaves of what was seen.
record Follows (old new : Seen) : Type 0 where
  pub more : List Past
  pub pasts : new.pasts ≡ more ++ old.pasts
  pub script : new.script ≡ old.script
  pub shape : new.shape ≡ old.shape

synced-follows : (c w : ℕ) (old new : Seen) → IsSynced c w old new → Follows old new
synced-follows c w old new (Nothing same) = record {
  more = [];
  pasts = ap (λ (s : Seen). s.pasts) same;
  script = ap (λ (s : Seen). s.script) same;
  shape = ap (λ (s : Seen). s.shape) same;
}
synced-follows c w old new (Began steps) = record {
  more = steps.run ++ past_seen old (begin_event c w) ∷ [];
  pasts = steps.pasts ∙ sym (append_assoc steps.run (past_seen old (begin_event c w) ∷ []) old.pasts);
  script = steps.script;
  shape = steps.shape;
}

-- So the registers have kept up once a sync was done.
pub synced-up : (before after : Seen) (slots : List Slot) (old new : Shared) (c w from : ℕ) (events : List Past)
    → record { seen = before; slots = slots } ≡ old → IsSynced c w before after → reverse events ≡ before.pasts → from
    ≡ length events → new.seen ≡ after
    → new.slots ≡ slots_told after.script.commands (drop from (reverse after.pasts)) slots → HasKeptUp old new
synced-up before after slots old new c w from events view synced is count seen told = subst (λ (s : Shared). HasKeptUp s new) view (on (synced-follows c w before after synced))
  where
    on : Follows before after → HasKeptUp (record { seen = before; slots = slots }) new
    on f =
        kept-up (record { seen = before; slots = slots }) new after.script.commands from f.more (ap (λ (s : Seen). s.pasts) seen ∙ f.pasts) (count ∙ sym (length-reverse events) ∙ ap length is) (ap (λ (s : Script). s.commands) f.script)
        (told ∙ ap (λ (s : Seen). slots_told after.script.commands (drop from (reverse s.pasts)) slots) (sym seen))
