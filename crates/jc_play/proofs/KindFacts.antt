-- The first event of each kind of one controller.
use Rattle.std.proofs.Common.{◌≡◌, ℕ, ◌<◌, Bool, true, false, cond, List, [], ◌∷◌, ◌++◌, Option, Some, None, is_none, is_some, refl, sym, ap, ◌∙◌, true≢false}
use Rattle.std.specs.Option.{option_map, option_or, option_to_list}
use Rattle.jc_types.specs.declared.objects.Entry.{Entry}
use Rattle.jc_types.specs.declared.runs.Event.{Event}
use Rattle.jc_types.specs.declared.runs.Event.TheVariants.{System}
use Rattle.jc_types.specs.declared.runs.Sys.{Sys}
use Rattle.jc_types.specs.declared.runs.Sys.TheVariants as sys
use Rattle.jc_history.specs.Available.{begin_events, free_worker, step_event, step_events}
use Rattle.jc_history.specs.Fresh.{may_begin}
use Rattle.jc_history.specs.Notes.{Note}
use Rattle.jc_history.specs.Play.{first_event}
use Rattle.jc_history.specs.Registers.{register}
use Rattle.jc_play.proofs.FirstFacts.{find-first, find-none, first-append, first-found, first-none}

-- The first of two that were looked for.
pub either-first : (xs ys : List Sys) (one other all : Option Event) → one ≡ first_event xs → other ≡ first_event ys → all ≡ option_or one other → all ≡ first_event (xs ++ ys)
either-first xs ys one other all e g h = h ∙ ap (λ o. option_or o other) e ∙ ap (option_or (first_event xs)) g ∙ sym (first-append xs ys)

-- A register that is free, or in use.
pub some-of : {A : Type 0} (o : Option A) (b : Bool) → is_none o ≡ b → (b ≡ true → is_some o ≡ false) × (b ≡ false → is_some o ≡ true)
some-of None b e = (λ s. refl, λ s. absurd (true≢false (e ∙ s)))
some-of (Some x) b e = (λ s. absurd (true≢false (sym (e ∙ s))), λ s. refl)

module _ (notes : List Note) (log : List Entry) (workers c : ℕ) where
  step-at : (w : ℕ) (b : Bool) → is_some (register w notes) ≡ b → first_event (step_event notes c w) ≡ first_event (cond b (sys.Step c w ∷ []) [])
  step-at w b e = ap (λ b. first_event (cond b (sys.Step c w ∷ []) [])) e

  no-step : (w : ℕ) → is_none (register w notes) ≡ true → first_event (step_event notes c w) ≡ None
  no-step w e = step-at w false ((some-of (register w notes) true e).0 refl)

  -- No worker has a sync.
  pub steps-none : ((k : ℕ) → k < workers → is_none (register k notes) ≡ true) → first_event (step_events notes workers c) ≡ None
  steps-none h = first-none (step_event notes c) workers (λ k lt. no-step k (h k lt))

  -- This worker is the first that has one.
  pub steps-found : (w : ℕ) → w < workers → ((k : ℕ) → k < w → is_none (register k notes) ≡ true) → is_none (register w notes) ≡ false → first_event (step_events notes workers c) ≡ Some (System (sys.Step c w))
  steps-found w lt h e = first-found (step_event notes c) workers w (System (sys.Step c w)) lt (λ k less. no-step k (h k less)) (step-at w true ((some-of (register w notes) false e).1 refl))

  -- No worker is free.
  pub free-none : ((k : ℕ) → k < workers → is_none (register k notes) ≡ false) → free_worker notes workers ≡ None
  free-none h = find-none (λ w. is_none (register w notes)) workers h

  -- This worker is the first that is.
  pub free-found : (w : ℕ) → w < workers → ((k : ℕ) → k < w → is_none (register k notes) ≡ false) → is_none (register w notes) ≡ true → free_worker notes workers ≡ Some w
  free-found w lt h e = find-first (λ w. is_none (register w notes)) workers w lt h e

  -- The begin of the first free worker, where one starts a sync.
  pub begins-as : (b : Bool) (o : Option ℕ) → may_begin notes log ≡ b → free_worker notes workers ≡ o
      → first_event (begin_events notes log workers c) ≡ first_event (cond b (option_to_list (option_map (λ w. sys.Begin c w) o)) [])
  begins-as b o e g =
      ap (λ b. first_event (cond b (option_to_list (option_map (λ w. sys.Begin c w) (free_worker notes workers))) [])) e
      ∙ ap (λ (o : Option ℕ). first_event (cond b (option_to_list (option_map (λ w. sys.Begin c w) o)) [])) g
