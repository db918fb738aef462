-- A key of a Job that is there finds no rest, as long as each sync that saw the last of it asks for something.
-- `a` is the version of the last entry of the Job, `b` that of the last one of a pod of its key, or 0. It goes as for an
-- ended pod that is forgotten; but there a list of pods adds the key, and here it need not.
use Rattle.std.proofs.Common.{nat_lt, ◌≡◌, ℕ, ◌+◌, ◌≤◌, ◌==◌, min, Bool, true, false, cond, not, ◌&&◌, ◌||◌, List, [], ◌∷◌, Option, Some, None, is_some, refl, sym, ap, ◌∙◌, subst, arith, eqb-true, true≢false, ◌⊎◌}
use Rattle.std.proofs.lemmas.Bool.{eqb-false, ltb-false, or_left, or_right, or_right as or-right, or_left as or-left}
use Rattle.std.specs.Option.{option_or, option_to_list, unwrap_or}
use Rattle.jc_control.specs.ControllerCalls.{forgets_caches}
use Rattle.jc_control.specs.Queued.{has_key}
use Rattle.jc_types.specs.declared.numbers.Version.{Version}
use Rattle.jc_types.specs.declared.objects.Kind.TheVariants.{Jobs, Pods}
use Rattle.jc_types.specs.declared.objects.KeyNames.{KeyNames as Key}
use Rattle.jc_types.specs.Keys.{same_key}
use Rattle.jc_types.proofs.KeyFacts.{same_key-either_way, same_key-itself}
use Rattle.jc_history.specs.Delays.{added_by_end, keys_due, tries}
use Rattle.jc_history.specs.Lines.{is_dirty}
use Rattle.jc_history.specs.Notes.{Note, Listed, Told, Expired, Began, SentBack, Asked, Ended, Faulted, Ticked, newest}
use Rattle.jc_history.specs.Numbers.{number, number_told}
use Rattle.jc_history.specs.Registers.{AllFit}
use Rattle.jc_order.specs.Restless.{HasCacheSeen, IsBusy, Dirty, StoodBefore}
use Rattle.jc_order.proofs.RestlessFacts.{began, ended, listed, same-busy, sent, ticked, told-more}
use Rattle.std.specs.Option.{option_map_or}
use Rattle.jc_rest.specs.Stuck.{is_sure}

-- What is known of each note: as `AddsOrRetries`, but that nothing is asked of lists of pods.
abbrev pub IsPlain : Key → ℕ → ℕ → Note → List Note → Type 0
IsPlain k a b (Listed Jobs at keys) older = a ≤ at.0 → has_key k keys ≡ true
IsPlain k a b (Listed Pods at keys) older = Unit {0}
IsPlain k a b (Told Jobs version key) older = StoodBefore (number Jobs older) version × (version.0 ≡ a → key ≡ Some k)
IsPlain k a b (Told Pods version key) older = StoodBefore (number Pods older) version × (version.0 ≡ b → key ≡ Some k)
IsPlain k a b (Began w basis) older = (number Jobs older ≡ Some basis.jobs_at) × (number Pods older ≡ Some basis.pods_at)
IsPlain k a b (Ended w basis end now) older =
    same_key basis.key k ≡ true → a ≤ basis.jobs_at.0 → b ≤ basis.pods_at.0
    → (forgets_caches end ≡ true) ⊎ (is_some (added_by_end end now (min (tries k older + 1) 7)) ≡ true)
IsPlain k a b note older = Unit {0}

abbrev pub ArePlain : Key → ℕ → ℕ → List Note → Type 0
ArePlain k a b [] = Unit {0}
ArePlain k a b (note ∷ older) = IsPlain k a b note older × ArePlain k a b older

module _ (k : Key) (a b : ℕ) where
  -- ---- sure

  added-or : (h s d : Bool) → (h || s) ≡ true → (s ≡ true → d ≡ true) → (h || d) ≡ true
  added-or true s d sure ih = refl
  added-or false s d sure ih = ih sure

  unskipped : {h s : Bool} → h ≡ false → (h || s) ≡ true → s ≡ true
  unskipped {h} {s} e sure = ap (λ t. t || s) (sym e) ∙ sure

  -- A key that goes back is added; another one stays dirty.
  sent-dirty : (first : Key) (older : List Note) → ((has_key k (first ∷ []) ≡ false) → is_dirty k older ≡ true) → is_dirty k (SentBack first ∷ older) ≡ true
  sent-dirty first older h = by (same_key k first) refl
    where
      by : (t : Bool) → same_key k first ≡ t → ((same_key k first || false) || (not (same_key first k) && is_dirty k older)) ≡ true
      by true s = ap (λ t. (t || false) || (not (same_key first k) && is_dirty k older)) s
      by false s = (λ i. (s i || false) || (not ((same_key-either_way first k ∙ s) i) && h (ap (λ t. t || false) s) i))

  -- While the pod cache has no number, a key that is sure and whose Job was seen stays dirty.
  pub dirty-unplaced : (notes : List Note) → ArePlain k a b notes → is_sure k notes ≡ true → HasCacheSeen (number Jobs notes) a → number Pods notes ≡ None → is_dirty k notes ≡ true
  dirty-unplaced [] plain sure j p = absurd j
  dirty-unplaced (Listed Jobs at keys ∷ older) plain sure j p = or_left (has_key k keys) (is_dirty k older) (plain.0 j)
  dirty-unplaced (Listed Pods at keys ∷ older) plain sure j p = absurd (true≢false (ap is_some p))
  dirty-unplaced (Told Jobs version key ∷ older) plain sure j p = by (number Jobs older) plain.0.0 (version.0 == a) refl (has_key k (option_to_list key)) refl (dirty-unplaced older plain.1)
    where
      by : (o : Option Version) → StoodBefore o version → (t : Bool) → (version.0 == a) ≡ t → (h : Bool) → has_key k (option_to_list key) ≡ h
          → (is_sure k older ≡ true → HasCacheSeen o a → number Pods older ≡ None → is_dirty k older ≡ true) → (has_key k (option_to_list key) || is_dirty k older) ≡ true
      by o s t e true i ih = or_left (has_key k (option_to_list key)) (is_dirty k older) i
      by o s true e false i ih =
          absurd (true≢false (sym (ap (λ (x : Option Key). has_key k (option_to_list x)) (plain.0.1 (eqb-true version.0 a e)) ∙ or_left (same_key k k) false (same_key-itself k)) ∙ i))
      by None s false e false i ih = absurd s
      by (Some before) s false e false i ih =
          let other = eqb-false version.0 a e in
          or_right (has_key k (option_to_list key)) (is_dirty k older) (ih (unskipped i sure) (omega (arith, s, j, other)) p)
  dirty-unplaced (Told Pods version key ∷ older) plain sure j p = absurd (true≢false (ap is_some p))
  dirty-unplaced (Expired Jobs ∷ older) plain sure j p = absurd j
  dirty-unplaced (Expired Pods ∷ older) plain sure j p = absurd (true≢false (sym sure))
  dirty-unplaced (Began w basis ∷ older) plain sure j p = absurd (true≢false (ap is_some (sym plain.0.1 ∙ p)))
  dirty-unplaced (SentBack first ∷ older) plain sure j p = sent-dirty first older (λ n. dirty-unplaced older plain.1 (unskipped n sure) j p)
  dirty-unplaced (Asked w basis request given ∷ older) plain sure j p = dirty-unplaced older plain.1 sure j p
  dirty-unplaced (Faulted w fault ∷ older) plain sure j p = dirty-unplaced older plain.1 sure j p
  dirty-unplaced (Ticked now ∷ older) plain sure j p = added-or (has_key k (keys_due now older)) (is_sure k older) (is_dirty k older) sure (λ s. dirty-unplaced older plain.1 s j p)
  dirty-unplaced (Ended w basis end now ∷ older) plain sure j p = by (forgets_caches end) refl sure j p (dirty-unplaced older plain.1)
    where
      by : (t : Bool) → forgets_caches end ≡ t → (not t && is_sure k older) ≡ true → HasCacheSeen (unwrap_or (option_or (cond t (Some None) None) (newest (number_told Jobs) older)) None) a
          → unwrap_or (option_or (cond t (Some None) None) (newest (number_told Pods) older)) None ≡ None
          → (is_sure k older ≡ true → HasCacheSeen (number Jobs older) a → number Pods older ≡ None → is_dirty k older ≡ true) → is_dirty k older ≡ true
      by true e s j p ih = absurd j
      by false e s j p ih = ih s j p

  -- So a key that is sure is busy, once both caches have seen the last of it.
  pub sure-busy : (notes : List Note) → AllFit notes → ArePlain k a b notes → is_sure k notes ≡ true → HasCacheSeen (number Jobs notes) a → HasCacheSeen (number Pods notes) b → IsBusy k a b notes
  sure-busy [] fit plain sure j p = absurd j
  sure-busy (Listed Jobs at keys ∷ older) fit plain sure j p = listed k a b Jobs at keys older (plain.0 j)
  sure-busy (Listed Pods at keys ∷ older) fit plain sure j p = by (has_key k keys) refl (number Pods older) refl sure (λ s seen. sure-busy older fit.1 plain.1 s j seen)
    where
      by : (h : Bool) → has_key k keys ≡ h → (o : Option Version) → number Pods older ≡ o → (h || not (option_map_or (λ before. nat_lt before.0 at.0) o false) && is_sure k older) ≡ true
          → (is_sure k older ≡ true → HasCacheSeen (number Pods older) b → IsBusy k a b older) → IsBusy k a b (Listed Pods at keys ∷ older)
      by true e o i s ih = listed k a b Pods at keys older e
      by false e None i s ih = Dirty (or-right (has_key k keys) (is_dirty k older) (dirty-unplaced older plain.1 s j i))
      by false e (Some before) i s ih = at-place (nat_lt before.0 at.0) refl s
        where
          at-place : (t : Bool) → nat_lt before.0 at.0 ≡ t → (not t && is_sure k older) ≡ true → IsBusy k a b (Listed Pods at keys ∷ older)
          at-place true l s = absurd (true≢false (sym s))
          at-place false l s =
              let le = ltb-false before.0 at.0 l in
              same-busy k a b (Listed Pods at keys) older (or-right (has_key k keys) (is_dirty k older)) refl (λ w. refl) (ih s (subst (λ o. HasCacheSeen o b) (sym i) (omega (arith, le, p))))
  sure-busy (Told Jobs version key ∷ older) fit plain sure j p = by (has_key k (option_to_list key)) refl (λ s seen. sure-busy older fit.1 plain.1 s seen p)
    where
      by : (h : Bool) → has_key k (option_to_list key) ≡ h → (is_sure k older ≡ true → HasCacheSeen (number Jobs older) a → IsBusy k a b older) → IsBusy k a b (Told Jobs version key ∷ older)
      by true e ih = Dirty (or-left (has_key k (option_to_list key)) (is_dirty k older) e)
      by false e ih = told-more k a b Jobs version key older (number Jobs older) plain.0.0 plain.0.1 j (ih (unskipped e sure))
  sure-busy (Told Pods version key ∷ older) fit plain sure j p = by (has_key k (option_to_list key)) refl (λ s seen. sure-busy older fit.1 plain.1 s j seen)
    where
      by : (h : Bool) → has_key k (option_to_list key) ≡ h → (is_sure k older ≡ true → HasCacheSeen (number Pods older) b → IsBusy k a b older) → IsBusy k a b (Told Pods version key ∷ older)
      by true e ih = Dirty (or-left (has_key k (option_to_list key)) (is_dirty k older) e)
      by false e ih = told-more k a b Pods version key older (number Pods older) plain.0.0 plain.0.1 p (ih (unskipped e sure))
  sure-busy (Expired Jobs ∷ older) fit plain sure j p = absurd j
  sure-busy (Expired Pods ∷ older) fit plain sure j p = absurd p
  sure-busy (Began w basis ∷ older) fit plain sure j p =
      began k a b w basis older fit.0.0 (subst (λ o. HasCacheSeen o a) plain.0.0 j) (subst (λ o. HasCacheSeen o b) plain.0.1 p) (sure-busy older fit.1 plain.1 sure j p)
  sure-busy (SentBack first ∷ older) fit plain sure j p = by (has_key k (first ∷ [])) refl (λ s. sure-busy older fit.1 plain.1 s j p)
    where
      by : (h : Bool) → has_key k (first ∷ []) ≡ h → (is_sure k older ≡ true → IsBusy k a b older) → IsBusy k a b (SentBack first ∷ older)
      by true e ih = Dirty (or-left (has_key k (first ∷ [])) (not (same_key first k) && is_dirty k older) e)
      by false e ih = sent k a b first older (ih (unskipped e sure))
  sure-busy (Asked w basis request given ∷ older) fit plain sure j p = same-busy k a b (Asked w basis request given) older (λ h. h) refl (λ v. refl) (sure-busy older fit.1 plain.1 sure j p)
  sure-busy (Faulted w fault ∷ older) fit plain sure j p = same-busy k a b (Faulted w fault) older (λ h. h) refl (λ v. refl) (sure-busy older fit.1 plain.1 sure j p)
  sure-busy (Ticked now ∷ older) fit plain sure j p = by (has_key k (keys_due now older)) refl (λ s. sure-busy older fit.1 plain.1 s j p)
    where
      by : (h : Bool) → has_key k (keys_due now older) ≡ h → (is_sure k older ≡ true → IsBusy k a b older) → IsBusy k a b (Ticked now ∷ older)
      by true e ih = Dirty (or-left (has_key k (keys_due now older)) (is_dirty k older) e)
      by false e ih = ticked k a b now older (ih (unskipped e sure))
  sure-busy (Ended w basis end now ∷ older) fit plain sure j p = by (forgets_caches end) refl sure j p (λ s j p. sure-busy older fit.1 plain.1 s j p)
    where
      by : (t : Bool) → forgets_caches end ≡ t → (not t && is_sure k older) ≡ true → HasCacheSeen (unwrap_or (option_or (cond t (Some None) None) (newest (number_told Jobs) older)) None) a
          → HasCacheSeen (unwrap_or (option_or (cond t (Some None) None) (newest (number_told Pods) older)) None) b
          → (is_sure k older ≡ true → HasCacheSeen (number Jobs older) a → HasCacheSeen (number Pods older) b → IsBusy k a b older) → IsBusy k a b (Ended w basis end now ∷ older)
      by true s u j p ih = absurd j
      by false s u j p ih = ended k a b w basis end now older fit.0 s plain.0 (ih u j p)
