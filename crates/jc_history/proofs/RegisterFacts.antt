-- Syncs under way have distinct keys, and these are processing.
use Rattle.std.proofs.Common.{◌≡◌, ℕ, ◌==◌, Bool, true, false, cond, not, ◌&&◌, ◌||◌, List, [], ◌∷◌, ◌++◌, Option, Some, None, is_some, refl, sym, ap, ◌∙◌, subst, true≢false, eqb-true, eq-eqb, ◌⊎◌, inl, inr}
use Rattle.std.specs.List.{AllByRecursion as Each}
use Rattle.std.specs.Option.{option_map, option_or, option_to_list, unwrap_or}
use Rattle.jc_control.specs.declared.ends.SyncEnd.{SyncEnd}
use Rattle.jc_control.specs.declared.begins.Lag.{Lag}
use Rattle.jc_types.specs.declared.numbers.Version.{Version}
use Rattle.jc_types.specs.declared.objects.Entry.{Entry}
use Rattle.jc_types.specs.declared.replies.Reply.{Reply}
use Rattle.jc_types.specs.declared.replies.Reply.TheVariants as reply
use Rattle.jc_states.specs.declared.bases.Basis.{Basis}
use Rattle.jc_types.specs.declared.objects.KeyNames.{KeyNames as Key}
use Rattle.jc_types.specs.Keys.{same_key}
use Rattle.jc_types.proofs.KeyFacts.{same_key-eq, same_key-itself, same_key-either_way}
use Rattle.jc_types.proofs.ListFacts.{Each-passes}
use Rattle.jc_history.specs.Diaries.{end_by, on_begin, on_step, on_lag}
use Rattle.jc_history.specs.Fresh.{basis, begin, begin_at, begin_first, begin_unless, cache_lag}
use Rattle.jc_history.specs.KeyLists.{last_of}
use Rattle.jc_history.specs.Lines.{comings, is_dirty, is_processing, line, waits}
use Rattle.jc_history.specs.Notes.{Note, Listed, Told, Expired, Began, SentBack, Asked, Ended, Faulted, Ticked, newest}
use Rattle.jc_history.specs.Registers.{AllFit, HaveOwnKeys, asks_status, register, register_told}
use Rattle.jc_history.specs.Replies.{reply_of_begin}
use Rattle.jc_history.proofs.LineFacts.{processing-began, processing-ended}
use Rattle.std.proofs.lemmas.Option.{same_Some as some_is}

module _ (older : List Note) (h : HaveOwnKeys older) where
  -- A sync begins.
  module _ (u : ℕ) (new : Basis) (free : register u older ≡ None) (idle : is_processing new.key older ≡ false) where
    before : (w : ℕ) (basis : Basis) → register w (Began u new ∷ older) ≡ Some basis → ((u == w) ≡ true) × (new ≡ basis) ⊎ ((u == w) ≡ false) × (register w older ≡ Some basis)
    before w basis e = by (u == w) refl e
      where
        by : (b : Bool) → (u == w) ≡ b → unwrap_or (option_or (cond b (Some (Some new)) None) (newest (register_told w) older)) None ≡ Some basis
            → ((u == w) ≡ true) × (new ≡ basis) ⊎ ((u == w) ≡ false) × (register w older ≡ Some basis)
        by true t e = inl (t, some_is new basis e)
        by false t e = inr (t, e)

    pub began-apart : HaveOwnKeys (Began u new ∷ older)
    began-apart = record {
      busy = λ w basis e. processing-began u new older basis.key ∙ busy w basis (before w basis e);
      apart = λ w v one other e f same. apart w v one other (before w one e) (before v other f) same;
    }
      where
        or-true : (b : Bool) → (b || true) ≡ true
        or-true true = refl
        or-true false = refl

        busy : (w : ℕ) (basis : Basis) → ((u == w) ≡ true) × (new ≡ basis) ⊎ ((u == w) ≡ false) × (register w older ≡ Some basis) → (same_key new.key basis.key || is_processing basis.key older) ≡ true
        busy w basis (inl e) = ap (λ (b : Basis). same_key new.key b.key || is_processing basis.key older) (sym e.1) ∙ ap (λ m. m || is_processing basis.key older) (same_key-itself new.key)
        busy w basis (inr e) = ap (λ p. same_key new.key basis.key || p) (h.busy w basis e.1) ∙ or-true (same_key new.key basis.key)

        clash : (v : ℕ) (other : Basis) → register v older ≡ Some other → same_key new.key other.key ≡ true → ⊥
        clash v other f same = true≢false (sym (h.busy v other f) ∙ ap (λ k. is_processing k older) (sym (same_key-eq new.key other.key same)) ∙ idle)

        apart : (w v : ℕ) (one other : Basis) → ((u == w) ≡ true) × (new ≡ one) ⊎ ((u == w) ≡ false) × (register w older ≡ Some one) → ((u == v) ≡ true) × (new ≡ other) ⊎ ((u == v) ≡ false) × (register v older ≡ Some other)
            → same_key one.key other.key ≡ true → w ≡ v
        apart w v one other (inl e) (inl f) same = sym (eqb-true u w e.0) ∙ eqb-true u v f.0
        apart w v one other (inl e) (inr f) same = absurd (clash v other f.1 (ap (λ (b : Basis). same_key b.key other.key) e.1 ∙ same))
        apart w v one other (inr e) (inl f) same = absurd (clash w one e.1 (ap (λ (b : Basis). same_key b.key one.key) f.1 ∙ same_key-either_way other.key one.key ∙ same))
        apart w v one other (inr e) (inr f) same = h.apart w v one other e.1 f.1 same

  -- A sync ends.
  module _ (u : ℕ) (gone : Basis) (end : SyncEnd) (now : ℕ) (mine : register u older ≡ Some gone) where
    left : (w : ℕ) (basis : Basis) → register w (Ended u gone end now ∷ older) ≡ Some basis → ((u == w) ≡ false) × (register w older ≡ Some basis)
    left w basis e = by (u == w) refl e
      where
        by : (b : Bool) → (u == w) ≡ b → unwrap_or (option_or (cond b (Some None) None) (newest (register_told w) older)) None ≡ Some basis → ((u == w) ≡ false) × (register w older ≡ Some basis)
        by true t e = absurd (true≢false (sym (ap is_some e)))
        by false t e = (t, e)

    pub ended-apart : HaveOwnKeys (Ended u gone end now ∷ older)
    ended-apart = record {
      busy = λ w basis e. processing-ended u gone end now older basis.key ∙ busy w basis (left w basis e) (same_key gone.key basis.key) refl;
      apart = λ w v one other e f same. h.apart w v one other (left w one e).1 (left v other f).1 same;
    }
      where
        busy : (w : ℕ) (basis : Basis) → ((u == w) ≡ false) × (register w older ≡ Some basis) → (m : Bool) → same_key gone.key basis.key ≡ m → (not m && is_processing basis.key older) ≡ true
        busy w basis e true t = absurd (true≢false (sym (eq-eqb u w (h.apart u w gone basis mine e.1 t)) ∙ e.0))
        busy w basis e false t = h.busy w basis e.1

-- In notes that fit the syncs under way are apart.
pub fit-apart : (notes : List Note) → AllFit notes → HaveOwnKeys notes
fit-apart [] h = record { busy = λ w basis e. absurd (true≢false (sym (ap is_some e))); apart = λ w v one other e f same. absurd (true≢false (sym (ap is_some e))) }
fit-apart (Began u new ∷ older) h = began-apart older (fit-apart older h.1) u new h.0.0 h.0.1
fit-apart (Ended u gone end now ∷ older) h = ended-apart older (fit-apart older h.1) u gone end now h.0
fit-apart (Listed kind at keys ∷ older) h = let a = fit-apart older h.1 in record { busy = a.busy; apart = a.apart }
fit-apart (Told kind version key ∷ older) h = let a = fit-apart older h.1 in record { busy = a.busy; apart = a.apart }
fit-apart (Expired kind ∷ older) h = let a = fit-apart older h.1 in record { busy = a.busy; apart = a.apart }
fit-apart (SentBack first ∷ older) h = let a = fit-apart older h.1 in record { busy = a.busy; apart = a.apart }
fit-apart (Asked worker basis request answer ∷ older) h = let a = fit-apart older h.1 in record { busy = a.busy; apart = a.apart }
fit-apart (Faulted worker fault ∷ older) h = let a = fit-apart older h.1 in record { busy = a.busy; apart = a.apart }
fit-apart (Ticked now ∷ older) h = let a = fit-apart older h.1 in record { busy = a.busy; apart = a.apart }

-- ---- who stands in line waits

pub first-waits : (notes : List Note) (k : Key) (rest : List Key) → line notes ≡ k ∷ rest → waits k notes ≡ true
first-waits notes k rest e = (subst (Each (λ j. waits j notes ≡ true)) e (Each-passes (λ j. waits j notes) (last_of (comings notes)))).0

first-idle : (notes : List Note) (k : Key) (rest : List Key) → line notes ≡ k ∷ rest → is_processing k notes ≡ false
first-idle notes k rest e = by (is_dirty k notes) (is_processing k notes) (first-waits notes k rest e)
  where
    by : (d p : Bool) → (d && not p) ≡ true → p ≡ false
    by true true h = absurd (true≢false (sym h))
    by true false h = refl
    by false p h = absurd (true≢false (sym h))

-- ---- the notes of an answer fit

pub begin-fits : (notes : List Note) (log : List Entry) (now worker : ℕ) → register worker notes ≡ None → AllFit notes → AllFit (on_begin worker now log notes (reply_of_begin (begin notes log now)) ++ notes)
begin-fits notes log now worker free h = at_numbers _ _
  where
    unless : (j p : Version) (k : Key) (rest : List Key) → line notes ≡ k ∷ rest → (o : Option Lag) → AllFit (on_begin worker now log notes (reply_of_begin (begin_unless (basis notes log now k j p) o)) ++ notes)
    unless j p k rest e None = ((free, first-idle notes k rest e), h)
    unless j p k rest e (Some l) = subst (λ some. AllFit (on_lag some ++ notes)) (sym e) (tt, h)

    by : (j p : Version) (some : List Key) → line notes ≡ some → AllFit (on_begin worker now log notes (reply_of_begin (begin_first notes log now j p some)) ++ notes)
    by j p [] e = h
    by j p (k ∷ rest) e = unless j p k rest e (cache_lag notes log k j p)

    at_numbers : (a b : Option Version) → AllFit (on_begin worker now log notes (reply_of_begin (begin_at notes log now a b)) ++ notes)
    at_numbers None b = h
    at_numbers (Some j) None = h
    at_numbers (Some j) (Some p) = by j p (line notes) refl

pub step-fits : (notes : List Note) (now worker : ℕ) (o : Option Basis) → register worker notes ≡ o → (r : Reply) → AllFit notes → AllFit (on_step worker now o r ++ notes)
step-fits notes now worker (Some basis) e (reply.Stepped asked given) h = by (end_by (asks_status asked) given)
  where
    by : (o : Option SyncEnd) → AllFit ((option_to_list (option_map (λ end. Ended worker basis end now) o) ++ Asked worker basis asked given ∷ []) ++ notes)
    by None = (e, h)
    by (Some end) = (e, (e, h))
step-fits notes now worker (Some basis) e reply.Ended h = (e, h)
step-fits notes now worker o e other h = h
