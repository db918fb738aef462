-- The acts determine a legal history, who waits is in line, and what the ledger says of syncs.
use Rattle.std.proofs.Common.{◌≡◌, ℕ, ◌==◌, Bool, true, false, cond, not, ◌&&◌, List, [], ◌∷◌, ◌++◌, length, find, Option, Some, None, is_some, refl, sym, ap, ◌∙◌, true≢false}
use Rattle.std.specs.Option.{option_and_then, option_map, option_or, option_to_list, unwrap_or}
use Rattle.jc_log.specs.Acts as does
use Rattle.jc_control.specs.declared.ends.SyncEnd.{SyncEnd}
use Rattle.jc_control.specs.declared.ends.SyncEnd.TheVariants as how
use Rattle.jc_control.specs.Schedules.{Schedule}
use Rattle.jc_plan.specs.Plans.{planned}
use Rattle.jc_ledger.specs.Syncs.{Began as Sync, began_by, began_of, is_begin, sync_of}
use Rattle.jc_types.specs.declared.objects.Entry.{Entry}
use Rattle.jc_types.specs.declared.objects.KeyNames.{KeyNames as Key}
use Rattle.jc_types.specs.declared.objects.Kind.{Kind}
use Rattle.jc_types.specs.declared.replies.Reply.{Reply}
use Rattle.jc_types.specs.declared.replies.Reply.TheVariants as reply
use Rattle.jc_types.specs.declared.runs.Shape.{Shape}
use Rattle.jc_states.specs.declared.bases.Basis.{Basis}
use Rattle.jc_log.specs.Acts.{Act}
use Rattle.jc_log.specs.Deeds.{Deed}
use Rattle.jc_ledger.proofs.SyncFacts.{sync_of-other as skipped}
use Rattle.jc_queue.specs.Queued.{has_key}
use Rattle.jc_history.specs.ActsAlone.{SameActs}
use Rattle.jc_history.specs.Agrees.{IsScheduleOf}
use Rattle.jc_history.specs.Diaries.{end_by, moment, notes_taken, notes, on_begin, on_clock, on_delivery, on_list, on_step, restarts, on_lag}
use Rattle.jc_history.specs.Fresh.{basis as basis_of}
use Rattle.jc_history.specs.Legal.{IsLegal, IsLegalNext}
use Rattle.jc_history.specs.Lines.{line, waits}
use Rattle.jc_history.specs.Notes.{Note, Listed, Told, Expired, Began, SentBack, Asked, Ended, Faulted, Ticked, newest}
use Rattle.jc_history.specs.Registers.{asks_status, register, register_told}
use Rattle.jc_history.specs.Replies.{log_after, log_given, reply_given}
use Rattle.std.proofs.lemmas.Option.{none-some as none_some}

-- ---- two histories with the same acts

one-more : (shape : Shape) (xs ys : List Deed) (d e : Deed) → IsLegalNext shape xs d → IsLegalNext shape ys e → d.lane ≡ e.lane → d.act ≡ e.act → xs ≡ ys → d ∷ xs ≡ e ∷ ys
unfolding log_given
one-more shape xs ys d e h g l a before = λ i. record { lane = l i; act = a i; reply = replies i; length = record { 0 = lengths i } } ∷ before i
  where
    replies : d.reply ≡ e.reply
    replies = h.reply ∙ (λ i. reply_given shape (before i) (log_given shape (before i)) (a i)) ∙ sym g.reply

    lengths : d.length.0 ≡ e.length.0
    lengths = h.length ∙ (λ i. length (log_after shape (before i) (log_given shape (before i)) (a i))) ∙ sym g.length

pub acts-determine : (shape : Shape) (xs ys : List Deed) → IsLegal shape xs → IsLegal shape ys → SameActs xs ys → xs ≡ ys
acts-determine shape [] [] h g s = refl
acts-determine shape [] (e ∷ ys) h g s = absurd s
acts-determine shape (d ∷ xs) [] h g s = absurd s
acts-determine shape (d ∷ xs) (e ∷ ys) h g s = one-more shape xs ys d e h.0 g.0 s.0 s.1 (acts-determine shape xs ys h.1 g.1 s.2)

-- ---- who waits is in line

pub line-has : (notes : List Note) (schedule : Schedule) → IsScheduleOf notes schedule → (k : Key) → has_key k (line notes) ≡ waits k notes
line-has notes schedule h k =
    ap (has_key k) (sym h.queued.line_is) ∙ h.queue.waiting k ∙ (λ i. h.queued.dirty_is k i && not (h.queued.processing_is k i))

-- ---- the ledger's word on syncs

-- With what the sync of the basis began.
abbrev pub sync_from : Basis → Sync
sync_from basis = record { key = basis.key; jobs_at = basis.jobs_at.0; pods_at = basis.pods_at.0 }

abbrev Agrees : ℕ → ℕ → List Deed → List Note → Type 0
Agrees c w past notes = (basis : Basis) → register w notes ≡ Some basis → sync_of c w past ≡ Some (sync_from basis)

found : (c w : ℕ) (d : Deed) (past : List Deed) (sync : Sync) → began_by c w d ≡ Some sync → sync_of c w (d ∷ past) ≡ Some sync
found c w d past sync e = ap (λ o. option_and_then (began_by c w) (cond (is_some o) (Some d) (find (λ d. is_some (began_by c w d)) past))) e ∙ e

-- Notes that begin no sync keep a register, or free it.
abbrev Begins_none : Note → Type 0
Begins_none (Began worker basis) = ⊥
Begins_none note = Unit {0}

keeps-register : (w : ℕ) (note : Note) (older : List Note) (basis : Basis) → Begins_none note → register w (note ∷ older) ≡ Some basis → register w older ≡ Some basis
keeps-register w (Began worker b) older basis n e = absurd n
keeps-register w (Ended worker b end now) older basis n e = by (worker == w) e
  where
    by : (b : Bool) → unwrap_or (option_or (cond b (Some None) None) (newest (register_told w) older)) None ≡ Some basis → register w older ≡ Some basis
    by true e = absurd (none_some basis e)
    by false e = e
keeps-register w (Listed kind at keys) older basis n e = e
keeps-register w (Told kind version key) older basis n e = e
keeps-register w (Expired kind) older basis n e = e
keeps-register w (SentBack first) older basis n e = e
keeps-register w (Asked worker b request answer) older basis n e = e
keeps-register w (Faulted worker fault) older basis n e = e
keeps-register w (Ticked now) older basis n e = e

list-keeps : (w : ℕ) (kind : Kind) (log : List Entry) (r : Reply) (older : List Note) (basis : Basis) → register w (on_list kind log r ++ older) ≡ Some basis → register w older ≡ Some basis
list-keeps w kind log (reply.Listed at) older basis e = e
list-keeps w kind log other older basis e = e

delivery-keeps : (w : ℕ) (kind : Kind) (log : List Entry) (r : Reply) (older : List Note) (basis : Basis) → register w (on_delivery kind log r ++ older) ≡ Some basis → register w older ≡ Some basis
delivery-keeps w kind log (reply.Delivered version) older basis e = e
delivery-keeps w kind log (reply.Expired floor) older basis e = e
delivery-keeps w kind log other older basis e = e

clock-keeps : (w : ℕ) (r : Reply) (older : List Note) (basis : Basis) → register w (on_clock r ++ older) ≡ Some basis → register w older ≡ Some basis
clock-keeps w (reply.Now moment) older basis e = e
clock-keeps w other older basis e = e

step-keeps : (w worker now : ℕ) (o : Option Basis) (r : Reply) (older : List Note) (basis : Basis) → register w (on_step worker now o r ++ older) ≡ Some basis → register w older ≡ Some basis
step-keeps w worker now (Some b) (reply.Stepped asked given) older basis e = by (end_by (asks_status asked) given) e
  where
    by : (o : Option SyncEnd) → register w ((option_to_list (option_map (λ end. Ended worker b end now) o) ++ Asked worker b asked given ∷ []) ++ older) ≡ Some basis → register w older ≡ Some basis
    by None e = e
    by (Some end) e = keeps-register w (Ended worker b end now) (Asked worker b asked given ∷ older) basis tt e
step-keeps w worker now (Some b) reply.Ended older basis e = keeps-register w (Ended worker b (how.Ended (planned b).next) now) older basis tt e
step-keeps w worker now o other older basis e = e

either-keeps : (w : ℕ) (b : Bool) (new older : List Note) (basis : Basis) → (register w (new ++ older) ≡ Some basis → register w older ≡ Some basis) → register w (cond b new [] ++ older) ≡ Some basis → register w older ≡ Some basis
either-keeps w true new older basis f e = f e
either-keeps w false new older basis f e = e

-- A begin.
module _ (shape : Shape) (c w : ℕ) (past : List Deed) (log : List Entry) (d : Deed) (ih : Agrees c w past (notes shape c past log)) where
  same : (basis : Basis) → began_by c w d ≡ None → register w (notes shape c past log) ≡ Some basis → sync_of c w (d ∷ past) ≡ Some (sync_from basis)
  same basis e r = skipped c w d past e ∙ ih basis r

  quiet : (act : Act) → d.act ≡ act → is_begin c w act ≡ false → began_by c w d ≡ None
  quiet act a q = ap (λ b. cond b (began_of d.reply) None) (ap (is_begin c w) a ∙ q)

  module _ (controller worker : ℕ) (a : d.act ≡ does.Begin controller worker) where
    told-by : (r : Reply) → d.reply ≡ r → (x y : Bool) → (controller == c) ≡ x → (worker == w) ≡ y → began_by c w d ≡ cond (x && y) (began_of r) None
    told-by r e x y p q = (λ i. cond (is_begin c w (a i)) (began_of (e i)) None) ∙ (λ i. cond (p i && q i) (began_of r) None)

    -- Of the controller.
    mine : (r : Reply) → d.reply ≡ r → (controller == c) ≡ true → (basis : Basis)
        → register w (on_begin worker (moment shape past) log (notes shape c past log) r ++ notes shape c past log)
        ≡ Some basis → sync_of c w (d ∷ past) ≡ Some (sync_from basis)
    mine (reply.Begun key jobs_at pods_at) e p basis g = by (worker == w) refl g
      where
        by : (y : Bool) → (worker == w) ≡ y → unwrap_or (option_or (cond y (Some (Some (basis_of (notes shape c past log) log (moment shape past) key jobs_at pods_at))) None) (newest (register_told w) (notes shape c past log))) None ≡ Some basis
            → sync_of c w (d ∷ past) ≡ Some (sync_from basis)
        by true q g = found c w d past _ (told-by _ e true true p q) ∙ ap (option_map sync_from) g
        by false q g = same basis (told-by _ e true false p q) g
    mine (reply.Behind kind need have) e p basis g = same basis (told-by _ e true (worker == w) p refl ∙ none (worker == w)) (sent (line (notes shape c past log)) g)
      where
        none : (y : Bool) → cond {A = Option Sync} (true && y) None None ≡ None
        none true = refl
        none false = refl

        sent : (some : List Key) → register w (on_lag some ++ notes shape c past log) ≡ Some basis → register w (notes shape c past log) ≡ Some basis
        sent [] g = g
        sent (k ∷ rest) g = g
    mine other e p basis g = same basis (told-by _ e true (worker == w) p refl ∙ none (worker == w)) g
      where
        none : (y : Bool) → cond {A = Option Sync} (true && y) None None ≡ None
        none true = refl
        none false = refl

    begun : (basis : Basis) → register w (cond (controller == c) (on_begin worker (moment shape past) log (notes shape c past log) d.reply) [] ++ notes shape c past log) ≡ Some basis → sync_of c w (d ∷ past) ≡ Some (sync_from basis)
    begun basis g = by (controller == c) refl g
      where
        by : (x : Bool) → (controller == c) ≡ x → register w (cond x (on_begin worker (moment shape past) log (notes shape c past log) d.reply) [] ++ notes shape c past log) ≡ Some basis → sync_of c w (d ∷ past) ≡ Some (sync_from basis)
        by true p g = mine d.reply refl p basis g
        by false p g = same basis (told-by d.reply refl false (worker == w) p refl) g

  one-deed : (act : Act) → d.act ≡ act → (basis : Basis) → register w (notes_taken c act d.reply (moment shape past) log (notes shape c past log) ++ notes shape c past log) ≡ Some basis → sync_of c w (d ∷ past) ≡ Some (sync_from basis)
  one-deed (does.Begin controller worker) a basis g = begun controller worker a basis g
  one-deed (does.List controller kind) a basis g = same basis (quiet _ a refl) (either-keeps w (controller == c) _ _ basis (list-keeps w kind log d.reply _ basis) g)
  one-deed (does.Deliver controller kind) a basis g = same basis (quiet _ a refl) (either-keeps w (controller == c) _ _ basis (delivery-keeps w kind log d.reply _ basis) g)
  one-deed (does.Step controller worker) a basis g = same basis (quiet _ a refl) (either-keeps w (controller == c) _ _ basis (step-keeps w worker (moment shape past) (register worker (notes shape c past log)) d.reply _ basis) g)
  one-deed (does.PutFault controller worker fault) a basis g = same basis (quiet _ a refl) (either-keeps w (controller == c) (Faulted worker fault ∷ []) _ basis (λ e. e) g)
  one-deed (does.Clock add) a basis g = same basis (quiet _ a refl) (clock-keeps w d.reply _ basis g)
  one-deed other a basis g = same basis (quiet _ a refl) g

-- The sync of a worker's register is the ledger's sync of the worker.
pub register-sync : (shape : Shape) (c w : ℕ) (past : List Deed) (log : List Entry) → Agrees c w past (notes shape c past log)
register-sync shape c w [] log basis e = absurd (none_some basis e)
register-sync shape c w (d ∷ past) log basis e = by (restarts c d.act) e (λ g. one-deed shape c w past log d (register-sync shape c w past log) d.act refl basis g)
  where
    by : (b : Bool) → register w (cond b [] (notes_taken c d.act d.reply (moment shape past) log (notes shape c past log) ++ notes shape c past log)) ≡ Some basis
        → (register w (notes_taken c d.act d.reply (moment shape past) log (notes shape c past log) ++ notes shape c past log) ≡ Some basis → sync_of c w (d ∷ past) ≡ Some (sync_from basis)) → sync_of c w (d ∷ past) ≡ Some (sync_from basis)
    by true e more = absurd (none_some basis e)
    by false e more = more e
