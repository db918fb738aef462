-- The line of an event tells its number and a glimpse of it, and so the lines of a history tell the history.
use Rattle.std.proofs.Common.{◌≡◌, ℕ, ◌+◌, ◌^◌, ◌<◌, List, [], ◌∷◌, ◌++◌, map, length, drop, decimal, refl, sym, ap, subst, ◌∙◌, arith, append_assoc}
use Rattle.std.proofs.lemmas.List.{append_cancel_left}
use Rattle.jc_log.specs.Deeds.{act_of_event, deed, lane_of}
use Rattle.jc_types.specs.declared.actions.Command.{Command}
use Rattle.jc_types.specs.declared.actions.Script.{Script}
use Rattle.jc_types.specs.declared.runs.Event.{Event}
use Rattle.jc_types.specs.declared.runs.Event.TheVariants as event
use Rattle.jc_types.specs.declared.runs.Past.{Past}
use Rattle.jc_texts.specs.ActTexts.{act_text}
use Rattle.jc_lines.specs.Events.{event_line, event_lines, tag_text}
use Rattle.jc_texts.specs.ReplyTexts.{reply_text}
use Rattle.jc_lines.specs.Told.{AreEvents, Follow, Glimpse, IsEvent, OfLane, OfSystem, glimpse}
use Rattle.jc_lines.proofs.Digits.{number_ends}
use Rattle.jc_lines.proofs.Systems.{first_of_both, system_told}

-- The four parts of a line, and what follows it.
parts : (a b c d xs : List ℕ) → (a ++ 32 ∷ (b ++ 32 ∷ (c ++ 32 ∷ d))) ++ xs ≡ a ++ 32 ∷ (b ++ 32 ∷ (c ++ 32 ∷ (d ++ xs)))
parts a b c d xs =
    append_assoc a (32 ∷ (b ++ 32 ∷ (c ++ 32 ∷ d))) xs
    ∙ ap (λ l. a ++ 32 ∷ l) (append_assoc b (32 ∷ (c ++ 32 ∷ d)) xs ∙ ap (λ l. b ++ 32 ∷ l) (append_assoc c (32 ∷ d) xs))

module _ (commands : List Command) where
  glimpse_told : (e f : Event) (xs ys : List ℕ) → IsEvent e → IsEvent f
      → tag_text (lane_of e) ++ 32 ∷ (act_text (act_of_event commands e) ++ 32 ∷ xs)
      ≡ tag_text (lane_of f) ++ 32 ∷ (act_text (act_of_event commands f) ++ 32 ∷ ys) → glimpse e ≡ glimpse f
  glimpse_told (event.Command l i) (event.Command m j) xs ys few less e =
      ap OfLane (number_ends 32 l m _ _ (omega arith) (omega (arith, few)) (omega (arith, less)) (ap (drop 1) e)).number
  glimpse_told (event.Command l i) (event.System t) xs ys few less e = absurd (omega (arith, first_of_both _ _ e))
  glimpse_told (event.System s) (event.Command m j) xs ys few less e = absurd (omega (arith, first_of_both _ _ e))
  glimpse_told (event.System s) (event.System t) xs ys few less e = ap OfSystem (system_told s t xs ys few less (ap (drop 2) e))

pub line_told : (script : Script) (m n : ℕ) (p q : Past) (xs ys : List ℕ) → m < 2 ^ 64 → n < 2 ^ 64
    → IsEvent p.event → IsEvent q.event
    → event_line m (deed script p) ++ xs ≡ event_line n (deed script q) ++ ys
    → (m ≡ n) × (glimpse p.event ≡ glimpse q.event)
line_told script m n p q xs ys low high few less e =
    let commands = script.commands in
    let own = parts (decimal m) (tag_text (lane_of p.event)) (act_text (act_of_event commands p.event)) (45 ∷ 62 ∷ 32 ∷ (reply_text p.reply ++ 10 ∷ [])) xs in
    let other = parts (decimal n) (tag_text (lane_of q.event)) (act_text (act_of_event commands q.event)) (45 ∷ 62 ∷ 32 ∷ (reply_text q.reply ++ 10 ∷ [])) ys in
    let one = number_ends 32 m n _ _ (omega arith) low high (sym own ∙ e ∙ other) in
    (one.number, glimpse_told commands p.event q.event _ _ few less one.rest)

no_line : (a b xs : List ℕ) → [] ≡ (a ++ 32 ∷ b) ++ xs → ⊥
no_line [] b xs e = let l = ap length e in omega (arith, l)
no_line (x ∷ a) b xs e = let l = ap length e in omega (arith, l)

module _ (script : Script) (gives : List Past → Glimpse → Past) where
  pub lines_told : (before hs ks : List Past) (n : ℕ) → n + length hs < 2 ^ 64 → AreEvents hs → AreEvents ks
      → Follow gives before hs → Follow gives before ks
      → event_lines n (map (deed script) hs) ≡ event_lines n (map (deed script) ks) → hs ≡ ks
  lines_told before [] [] n low few less f g e = refl
  lines_told before [] (q ∷ ks) n low few less f g e = absurd (no_line (decimal n) _ _ e)
  lines_told before (p ∷ hs) [] n low few less f g e = absurd (no_line (decimal n) _ _ (sym e))
  lines_told before (p ∷ hs) (q ∷ ks) n low few less f g e =
      let mine = event_lines (n + 1) (map (deed script) hs) in
      let theirs = event_lines (n + 1) (map (deed script) ks) in
      let told = line_told script n n p q mine theirs (omega (arith, low)) (omega (arith, low)) few.0 less.0 e in
      let same : p ≡ q = f.0 ∙ ap (gives before) told.1 ∙ sym g.0 in
      let rest = append_cancel_left (event_line n (deed script p)) mine theirs
      (e ∙ ap (λ (r : Past). event_line n (deed script r) ++ theirs) (sym same)) in
      let follow = subst (λ (r : Past). Follow gives (r ∷ before) ks) (sym same) g.1 in
      ap (λ r. r ∷ hs) same
      ∙ ap (λ l. q ∷ l) (lines_told (p ∷ before) hs ks (n + 1) (omega (arith, low)) few.1 less.1 f.1 follow rest)
