-- The place of each lane's next command, where the script has a command more.
use Rattle.std.proofs.Common.{◌≡◌, ℕ, ◌<◌, ◌==◌, ◌^◌, Bool, true, false, cond, List, [], ◌∷◌, ◌++◌, length, set, get_or, slice_get, Option, Some, None, is_none, refl, sym, ap, ◌∙◌, subst, eq-eqb, eqb-true, ne_eqb, true≢false}
use Rattle.std.proofs.lemmas.Option.{get_or_from_slice_get}
use Rattle.std.specs.Option.{option_or}
use Rattle.jc_types.specs.declared.actions.Command.{Command}
use Rattle.jc_types.specs.declared.runs.Past.{Past}
use Rattle.jc_history.specs.Legal.{InLanes, next_command}
use Rattle.jc_lanes.specs.LongerScripts.{longer_place}
use Rattle.jc_lanes.specs.Places.{HasPlaces, most_lanes}
use Rattle.jc_lanes.proofs.LaneFacts.{set_apart, set_same}
use Rattle.jc_lanes.proofs.LongerScripts.{longer_next}

-- The place of the lane, set where it had none.
module _ (commands : List Command) (command : Command) (before : List Past) (old : List (Option ℕ)) (lane : ℕ) (own : command.lane ≡ lane)
    (law : (k : ℕ) → next_command (commands ++ command ∷ []) k before ≡ longer_place commands command k before) (has : HasPlaces commands before old) where
  other_lane : (k : ℕ) → (lane ≡ k → ⊥) → longer_place commands command k before ≡ next_command commands k before
  other_lane k apart =
      ap (λ b. cond b (option_or (next_command commands k before) (Some (length commands))) (next_command commands k before)) (ap (λ l. l == k) own ∙ ne_eqb lane k apart)

  own_lane : longer_place commands command lane before ≡ option_or (next_command commands lane before) (Some (length commands))
  own_lane =
      ap (λ b. cond b (option_or (next_command commands lane before) (Some (length commands))) (next_command commands lane before)) (ap (λ l. l == lane) own ∙ eq-eqb lane lane refl)

  pub set_place : length old ≡ most_lanes → next_command commands lane before ≡ None → HasPlaces (commands ++ command ∷ []) before (set old lane (Some (length commands)))
  set_place count none k inside = decide (lane == k) refl
    where
      decide : (b : Bool) → (lane == k) ≡ b → slice_get (set old lane (Some (length commands))) k ≡ Some (next_command (commands ++ command ∷ []) k before)
      decide true same =
          let e : lane ≡ k = eqb-true lane k same in
          ap (λ i. slice_get (set old lane (Some (length commands))) i) (sym e)
          ∙ set_same old lane (Some (length commands)) (subst (λ n. lane < n) (sym count) (subst (λ i. i < most_lanes) (sym e) inside))
          ∙ ap Some (sym (ap (λ o. option_or o (Some (length commands))) none) ∙ sym own_lane ∙ sym (law lane))
          ∙ ap (λ i. Some (next_command (commands ++ command ∷ []) i before)) e
      decide false differ =
          let apart : lane ≡ k → ⊥ = λ e. true≢false (sym (eq-eqb lane k e) ∙ differ) in
          set_apart old lane k (Some (length commands)) apart ∙ has k inside ∙ ap Some (sym (other_lane k apart) ∙ sym (law k))

  pub same_place : (n : ℕ) → next_command commands lane before ≡ Some n → HasPlaces (commands ++ command ∷ []) before old
  same_place n some k inside = decide (lane == k) refl
    where
      decide : (b : Bool) → (lane == k) ≡ b → slice_get old k ≡ Some (next_command (commands ++ command ∷ []) k before)
      decide true same =
          let e : lane ≡ k = eqb-true lane k same in
          has k inside ∙ ap (λ i. Some (next_command commands i before)) (sym e)
          ∙ ap Some (some ∙ sym (ap (λ o. option_or o (Some (length commands))) some) ∙ sym own_lane ∙ sym (law lane))
          ∙ ap (λ i. Some (next_command (commands ++ command ∷ []) i before)) e
      decide false differ =
          let apart : lane ≡ k → ⊥ = λ e. true≢false (sym (eq-eqb lane k e) ∙ differ) in
          has k inside ∙ ap Some (sym (other_lane k apart) ∙ sym (law k))

-- ---- a command taken up

found_is : (commands : List Command) (before : List Past) (old : List (Option ℕ)) (lane : ℕ) (found : Option ℕ) → HasPlaces commands before old → lane < most_lanes
    → found ≡ get_or old lane found → next_command commands lane before ≡ found
found_is commands before old lane found has inside at = sym (at ∙ get_or_from_slice_get old lane (next_command commands lane before) found (has lane inside))

module _ (commands : List Command) (command : Command) (before : List Past) (old : List (Option ℕ)) (lane place : ℕ) (own : command.lane ≡ lane) (count : length commands ≡ place)
    (lanes : InLanes commands before) (long : length old ≡ most_lanes) (has : HasPlaces commands before old) (inside : lane < 2 ^ 8) (found : Option ℕ) (at : found ≡ get_or old lane found) where
  pub append_none : is_none found ≡ true → HasPlaces (commands ++ command ∷ []) before (set old lane (Some place))
  append_none none =
      subst (λ n. HasPlaces (commands ++ command ∷ []) before (set old lane (Some n))) count
      (set_place commands command before old lane own (λ k. longer_next commands command k before lanes) has long (found_is commands before old lane found has inside at ∙ nothing found none))
    where
      nothing : (o : Option ℕ) → is_none o ≡ true → o ≡ None
      nothing None e = refl
      nothing (Some n) e = absurd (true≢false (sym e))

  pub append_some : is_none found ≡ false → HasPlaces (commands ++ command ∷ []) before old
  append_some some = by found (found_is commands before old lane found has inside at) some
    where
      by : (o : Option ℕ) → next_command commands lane before ≡ o → is_none o ≡ false → HasPlaces (commands ++ command ∷ []) before old
      by None e some = absurd (true≢false some)
      by (Some n) e some = same_place commands command before old lane own (λ k. longer_next commands command k before lanes) has n e
