-- The entry of a version by its place in the log from its oldest entry on.
use Rattle.std.proofs.Common.{◌≡◌, ℕ, suc, eqb, List, [], ◌∷◌, length, reverse, Option, Some, None, refl, ap, sym, ◌∙◌, arith, ◌-◌}
use denote.Ref.{Bor}
use Rattle.std.specs.Prelude.{slice_get, option_copied}
use Rattle.std.specs.Slice.{IsItemAt}
use Rattle.std.proofs.lemmas.Option.{slice_get_past, slice_get_read}
use Rattle.std.proofs.lemmas.Bool.{cond-false, ne_eqb}
use Rattle.std.proofs.lemmas.List.{reverse-reverse}
use Rattle.jc_types.specs.declared.objects.Entry.{Entry}
use Rattle.jc_log.specs.Log.{entry_at}
use Rattle.jc_log.proofs.LogFacts.{entry_at-taken}

-- There is no entry at version 0.
pub entry_at-zero : (log : List Entry) → entry_at 0 log ≡ None
entry_at-zero [] = refl
entry_at-zero (entry ∷ older) =
    cond-false (eqb (length (entry ∷ older)) 0) (Some entry) _ (ne_eqb (length (entry ∷ older)) 0 (λ e. absurd (omega (arith, e))))
    ∙ entry_at-zero older

item_copied : (xs : List Entry) (i : ℕ) (r : Option (Bor Entry)) → IsItemAt xs i r → option_copied r ≡ slice_get xs i
item_copied xs i None h = sym (slice_get_past xs i h.3)
item_copied xs i (Some x) h = sym (slice_get_read xs (length xs) i x.now refl h.3.0 h.1)

-- The item before a version's place, oldest first, is the version's entry.
pub entry_read : (items log : List Entry) (version : ℕ) (r : Option (Bor Entry)) → log ≡ reverse items → (version ≡ 0 → ⊥) → IsItemAt items (version - 1) r → option_copied r ≡ entry_at version log
entry_read items log version r at n h =
    item_copied items (version - 1) r h
    ∙ ap (λ l. slice_get l (version - 1)) (sym (reverse-reverse items))
    ∙ ap (λ l. slice_get (reverse l) (version - 1)) (sym at)
    ∙ sym (entry_at-taken (version - 1) log)
    ∙ ap (λ k. entry_at k log) (after version n)
  where
    after : (k : ℕ) → (k ≡ 0 → ⊥) → suc (k - 1) ≡ k
    after k n = omega (arith, n)
