-- What a note changes of registers, numbers and floors.
use Rattle.std.proofs.Common.{◌≡◌, ℕ, ◌≤◌, ◌==◌, Bool, true, false, cond, List, [], ◌∷◌, Option, Some, None, is_some, refl, sym, ap, ◌∙◌, subst, true≢false, ◌⊎◌, inl, inr}
use Rattle.std.specs.Option.{option_or, unwrap_or}
use Rattle.jc_control.specs.declared.ends.SyncEnd.{SyncEnd}
use Rattle.jc_control.specs.ControllerCalls.{forgets_caches}
use Rattle.jc_types.specs.declared.numbers.Version.{Version}
use Rattle.jc_types.specs.declared.objects.KeyNames.{KeyNames as Key}
use Rattle.jc_types.specs.declared.objects.Kind.{Kind}
use Rattle.jc_types.specs.declared.objects.Kind.TheVariants.{Jobs, Pods}
use Rattle.jc_types.specs.declared.replies.Answer.{Answer}
use Rattle.jc_types.specs.declared.replies.Request.{Request}
use Rattle.jc_states.specs.declared.bases.Basis.{Basis}
use Rattle.jc_history.specs.Notes.{Note, Listed, Told, Expired, Began, SentBack, Asked, Ended, Faulted, Ticked, newest}
use Rattle.jc_history.specs.Numbers.{number, number_told}
use Rattle.jc_asks.specs.Readings.{with_step}
use Rattle.jc_history.specs.Registers.{floor, made, register, register_told}
use Rattle.jc_bounds.proofs.Turns.{IsBefore, IsNews}
use Rattle.std.proofs.lemmas.Option.{same_Some as some_is}

-- ---- news

pub news-register : (n : ℕ) (older : List Note) (note : Note) → IsNews n older note → (w : ℕ) → register w (note ∷ older) ≡ register w older
news-register n older (Listed kind at keys) h w = refl
news-register n older (Told kind version key) h w = refl
news-register n older (Expired kind) h w = refl
news-register n older (SentBack key) h w = refl
news-register n older (Faulted worker fault) h w = refl
news-register n older (Ticked now) h w = refl
news-register n older (Began worker basis) h w = absurd h
news-register n older (Asked worker basis asked given) h w = absurd h
news-register n older (Ended worker basis end now) h w = absurd h

pub news-made : (n : ℕ) (older : List Note) (note : Note) → IsNews n older note → (w : ℕ) → made w (note ∷ older) ≡ made w older
news-made n older (Listed kind at keys) h w = refl
news-made n older (Told kind version key) h w = refl
news-made n older (Expired kind) h w = refl
news-made n older (SentBack key) h w = refl
news-made n older (Faulted worker fault) h w = refl
news-made n older (Ticked now) h w = refl
news-made n older (Began worker basis) h w = absurd h
news-made n older (Asked worker basis asked given) h w = absurd h
news-made n older (Ended worker basis end now) h w = absurd h

pub news-floor : (n : ℕ) (older : List Note) (note : Note) → IsNews n older note → (k : Key) → floor k (note ∷ older) ≡ floor k older
news-floor n older (Listed kind at keys) h k = refl
news-floor n older (Told kind version key) h k = refl
news-floor n older (Expired kind) h k = refl
news-floor n older (SentBack key) h k = refl
news-floor n older (Faulted worker fault) h k = refl
news-floor n older (Ticked now) h k = refl
news-floor n older (Began worker basis) h k = absurd h
news-floor n older (Asked worker basis asked given) h k = absurd h
news-floor n older (Ended worker basis end now) h k = absurd h

-- The number of a cache is that of before, or greater, or all.
pub data Number (n : ℕ) (before : Option Version) (m : Version) : Type 0 where
  Kept : before ≡ Some m → Number n before m
  More : (old : Version) → before ≡ Some old → old.0 ≤ m.0 → Number n before m
  All : m.0 ≡ n → Number n before m

pub news-number : (n : ℕ) (older : List Note) (note : Note) → IsNews n older note → (kind : Kind) (m : Version) → number kind (note ∷ older) ≡ Some m → Number n (number kind older) m
news-number n older (Listed Jobs at keys) h Jobs m e = All (ap (λ v. v.0) (sym (some_is at m e)) ∙ h)
news-number n older (Listed Jobs at keys) h Pods m e = Kept e
news-number n older (Listed Pods at keys) h Jobs m e = Kept e
news-number n older (Listed Pods at keys) h Pods m e = All (ap (λ v. v.0) (sym (some_is at m e)) ∙ h)
news-number n older (Told kind version key) h other m e = by kind other h e
  where
    told : (before : Option Version) → IsBefore before version → version ≡ m → Number n before m
    told None h e = absurd h
    told (Some old) h e = More old refl (subst (λ (v : Version). old.0 ≤ v.0) e h)

    by : (kind other : Kind) → IsBefore (number kind older) version → unwrap_or (option_or (number_told other (Told kind version key)) (newest (number_told other) older)) None ≡ Some m → Number n (number other older) m
    by Jobs Jobs h e = told (number Jobs older) h (some_is version m e)
    by Jobs Pods h e = Kept e
    by Pods Jobs h e = Kept e
    by Pods Pods h e = told (number Pods older) h (some_is version m e)
news-number n older (Expired Jobs) h Jobs m e = absurd (true≢false (sym (ap is_some e)))
news-number n older (Expired Jobs) h Pods m e = Kept e
news-number n older (Expired Pods) h Jobs m e = Kept e
news-number n older (Expired Pods) h Pods m e = absurd (true≢false (sym (ap is_some e)))
news-number n older (SentBack key) h kind m e = Kept e
news-number n older (Faulted worker fault) h kind m e = Kept e
news-number n older (Ticked now) h kind m e = Kept e
news-number n older (Began worker basis) h kind m e = absurd h
news-number n older (Asked worker basis asked given) h kind m e = absurd h
news-number n older (Ended worker basis end now) h kind m e = absurd h

-- ---- a sync ends

pub ended-register : (u : ℕ) (gone : Basis) (end : SyncEnd) (now : ℕ) (older : List Note) (w : ℕ) (b : Basis) → register w (Ended u gone end now ∷ older) ≡ Some b → ((u == w) ≡ false) × (register w older ≡ Some b)
ended-register u gone end now older w b e = by (u == w) refl e
  where
    by : (t : Bool) → (u == w) ≡ t → unwrap_or (option_or (cond t (Some None) None) (newest (register_told w) older)) None ≡ Some b → ((u == w) ≡ false) × (register w older ≡ Some b)
    by true t e = absurd (true≢false (sym (ap is_some e)))
    by false t e = (t, e)

pub ended-made : (u : ℕ) (gone : Basis) (end : SyncEnd) (now : ℕ) (older : List Note) (w : ℕ) → made w (Ended u gone end now ∷ older) ≡ made w older
ended-made u gone end now older w = refl

-- No number is left, or those of before.
pub ended-number : (u : ℕ) (gone : Basis) (end : SyncEnd) (now : ℕ) (older : List Note) (kind : Kind) (m : Version) → number kind (Ended u gone end now ∷ older) ≡ Some m → (forgets_caches end ≡ false) × (number kind older ≡ Some m)
ended-number u gone end now older kind m e = by (forgets_caches end) refl e
  where
    by : (t : Bool) → forgets_caches end ≡ t → unwrap_or (option_or (cond t (Some None) None) (newest (number_told kind) older)) None ≡ Some m → (forgets_caches end ≡ false) × (number kind older ≡ Some m)
    by true t e = absurd (true≢false (sym (ap is_some e)))
    by false t e = (t, e)

-- ---- a sync asks

pub asked-made : (u : ℕ) (b : Basis) (asked : Request) (given : Answer) (older : List Note) (w : ℕ)
    → (((u == w) ≡ false) × (made w (Asked u b asked given ∷ older) ≡ made w older))
    ⊎ (((u == w) ≡ true) × (made w (Asked u b asked given ∷ older) ≡ ((asked, given) ∷ made w older)))
asked-made u b asked given older w = by (u == w) refl
  where
    by : (t : Bool) → (u == w) ≡ t → (((u == w) ≡ false)
        × (with_step (cond t (Some (asked, given)) None) (made w older) ≡ made w older))
        ⊎ (((u == w) ≡ true) × (with_step (cond t (Some (asked, given)) None) (made w older)
        ≡ ((asked, given) ∷ made w older)))
    by true t = inr (t, refl)
    by false t = inl (t, refl)

-- ---- a sync begins

pub began-register : (u : ℕ) (new : Basis) (older : List Note) (w : ℕ) (b : Basis) → register w (Began u new ∷ older) ≡ Some b → (((u == w) ≡ true) × (new ≡ b)) ⊎ (((u == w) ≡ false) × (register w older ≡ Some b))
began-register u new older w b e = by (u == w) refl e
  where
    by : (t : Bool) → (u == w) ≡ t → unwrap_or (option_or (cond t (Some (Some new)) None) (newest (register_told w) older)) None ≡ Some b → (((u == w) ≡ true) × (new ≡ b)) ⊎ (((u == w) ≡ false) × (register w older ≡ Some b))
    by true t e = inl (t, some_is new b e)
    by false t e = inr (t, e)

pub began-made : (u : ℕ) (new : Basis) (older : List Note) (w : ℕ) (t : Bool) → (u == w) ≡ t → made w (Began u new ∷ older) ≡ cond t [] (made w older)
began-made u new older w t e = ap (λ t. cond t [] (made w older)) e
