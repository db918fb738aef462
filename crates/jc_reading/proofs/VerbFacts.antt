-- A verb is read of a word that is text, and of no other.
use Rattle.std.proofs.Common.{◌≡◌, List, ℕ, Bool, true, false, cond, IsUtf8, None, refl, sym, ap, ◌∙◌}
use Rattle.std.proofs.lemmas.Str.{is_utf8-from_IsUtf8, IsUtf8-from_is_utf8}
use Rattle.std.specs.Str.{is_utf8}
use Rattle.jc_reading.specs.LineReadings.{verb_named, verb_said}

pub verb_text : (word text : List ℕ) → text ≡ word → IsUtf8 word → verb_named text ≡ verb_said word
unfolding verb_said
verb_text word text same utf = ap verb_named same ∙ sym (ap (λ b. cond b (verb_named word) None) (is_utf8-from_IsUtf8 word utf))

pub no_verb : (word : List ℕ) → (IsUtf8 word → ⊥) → None ≡ verb_said word
unfolding verb_said
no_verb word no_text = by (is_utf8 word) refl
  where
    by : (b : Bool) → is_utf8 word ≡ b → None ≡ cond b (verb_named word) None
    by true is = absurd (no_text (IsUtf8-from_is_utf8 word is))
    by false is = refl
