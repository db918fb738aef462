-- Whether a value is written as a text, by the text that it was written as.
use Rattle.std.proofs.Common.{◌≡◌, sym, ◌∙◌, ap, ℕ, List, Bool, true, false, not, ◌&&◌, Some, true≢false, bytes_eq, refl}
use Rattle.serde_json.specs.Data.{Data}
use Rattle.serde_json.specs.Read.{read}
use Rattle.serde_json.specs.Written.{compact_text, has_float}
use Rattle.std.specs.Cmp.Lexicographic.{bytes_decides}
use Rattle.jc_json.specs.Given.{IsTextOf, is_written}

-- The value has no float where its text is one that spells a value without floats.
no_float : (s text : List ℕ) (v d : Data) → read s ≡ Some v → IsTextOf text d → s ≡ text → has_float v ≡ false
no_float s text v d reads spells same =
    let some : Some v ≡ Some d = sym reads ∙ (ap read same ∙ spells.reads) in
    let equal : v ≡ d = cc
    in ap has_float equal ∙ spells.whole

pub written_test : (s text : List ℕ) (v d : Data) → (has_float v ≡ false → s ≡ compact_text v) → read s ≡ Some v
    → IsTextOf text d → bytes_eq s text ≡ is_written text v
unfolding is_written
written_test s text v d written reads spells = by (has_float v) refl
  where
    differs : has_float v ≡ true → (b : Bool) → bytes_eq s text ≡ b → bytes_eq s text ≡ false
    differs float true same =
        absurd (true≢false (sym float ∙ no_float s text v d reads spells ((bytes_decides s text).0 same)))
    differs float false same = same

    by : (b : Bool) → has_float v ≡ b → bytes_eq s text ≡ (not b && bytes_eq (compact_text v) text)
    by true float = differs float (bytes_eq s text) refl
    by false whole = ap (λ t. bytes_eq t text) (written whole)
