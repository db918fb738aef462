-- The moment that a text says is the one that `Moment::parse` reads.
use Rattle.std.proofs.Common.{◌≡◌, ◌≢◌, ℕ, zero, suc, ◌+◌, ◌<◌, ◌≤◌, ◌↔◌, inl, inr, Bool, true, false, List, find, rules, Some, None, Result, Ok, Err, bytes_eq, refl, sym, ap, ◌∙◌, arith}
use Rattle.std.specs.List.{range_with_len}
use Rattle.std.specs.Result.{result_ok}
use Rattle.std.proofs.lemmas.Bool.{cases_lt, cases_Bool, false_from_ne_true}
use Rattle.std.proofs.lemmas.Slice.Eq.{bytes_eq-Decides}
use Rattle.jc_moment.specs.Range.{end_of_moments}
use Rattle.jc_moment.specs.Text.{IsMomentText, moment_text}
use Rattle.jc_moment.proofs.Every.{is_text_exactly}
use Rattle.jc_words.specs.Values.{moment_said}

module _ (p : ℕ → Bool) where
  -- The one number that passes is found.
  found : (a n m : ℕ) → a ≤ m → m < a + n → p m ≡ true → ((k : ℕ) → k < a + n → p k ≡ true → k ≡ m) → find p (range_with_len a n) ≡ Some m
  found a zero m low high here only = absurd (omega arith)
  found a (suc n) m low high here only =
      elim (cases_Bool (p a)) [
        | inl passed ↦ rw passed (ap (λ k. Some k) (only a (omega arith) passed))
        | inr fails ↦ elim (cases_lt a m) [
          | inl less ↦ rw fails (found (a + 1) n m (omega arith) (omega arith) here (λ k below. only k (omega arith)))
          | inr over ↦ let same : a ≡ m = omega arith in absurd (differ (sym (ap p same ∙ here) ∙ fails))
        ]
      ]
    where
      differ : true ≡ false → ⊥
      differ e = absurd (search (rules, e))

  -- And none, where none passes.
  lost : (a n : ℕ) → ((k : ℕ) → k < a + n → p k ≡ false) → find p (range_with_len a n) ≡ None
  lost a zero none = refl
  lost a (suc n) none = rw (none a (omega arith)) (lost (a + 1) n (λ k below. none k (omega arith)))

is_read : (text : List ℕ) (m bound : ℕ) → m < bound → text ≡ moment_text m → ((k : ℕ) → k < bound → text ≡ moment_text k → k ≡ m)
    → find (λ second. bytes_eq (moment_text second) text) (range_with_len 0 bound) ≡ Some m
is_read text m bound below e only =
    found (λ second. bytes_eq (moment_text second) text) 0 bound m (omega arith) (omega arith) ((bytes_eq-Decides (moment_text m) text).1 (sym e))
    (λ k less passed. only k (omega arith) (sym ((bytes_eq-Decides (moment_text k) text).0 passed)))

is_bad : (text : List ℕ) (bound : ℕ) → ((k : ℕ) → k < bound → text ≢ moment_text k)
    → find (λ second. bytes_eq (moment_text second) text) (range_with_len 0 bound) ≡ None
is_bad text bound differs =
    lost (λ second. bytes_eq (moment_text second) text) 0 bound
    (λ k less. false_from_ne_true _ (λ passed. differs k (omega arith) (sym ((bytes_eq-Decides (moment_text k) text).0 passed))))

pub said : {E : Type 0} (text : List ℕ) (r : Result ℕ E) → ((m : ℕ) → (r ≡ Ok m) ↔ IsMomentText m text) → result_ok r ≡ moment_said text
unfolding moment_said
said text (Ok m) read =
    let is = (is_text_exactly m text).0 ((read m).0 refl) in
    sym (is_read text m end_of_moments is.0 is.1 (λ k below e. search (rules, (read k).1 ((is_text_exactly k text).1 (below, e)))))
said text (Err f) read =
    sym (is_bad text end_of_moments (λ k below e. absurd (search (rules, (read k).1 ((is_text_exactly k text).1 (below, e))))))
