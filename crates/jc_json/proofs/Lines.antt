-- What a line spells, by whether its bytes are text.
use Rattle.std.proofs.Common.{◌≡◌, ◌≤◌, ℕ, List, Bool, true, false, IsUtf8, Some, None, if◌then◌else◌, refl}
use Rattle.std.proofs.lemmas.Str.{is_utf8-from_IsUtf8, IsUtf8-from_is_utf8}
use Rattle.std.specs.Str.{is_utf8}
use Rattle.serde_json.specs.Data.{Data, depth}
use Rattle.serde_json.specs.Read.{max_depth, read}
use Rattle.serde_json.proofs.Nesting.{depth-read}
use Rattle.jc_json.specs.Line.{data_of}

-- what a text spells, its line spells
pub text_spells : (line : List ℕ) (d : Data) → IsUtf8 line → read line ≡ Some d → data_of line ≡ Some d
unfolding data_of
text_spells line d text spelled = rw (is_utf8-from_IsUtf8 line text) spelled

nothing_at : (line : List ℕ) (b : Bool) → is_utf8 line ≡ b → (IsUtf8 line → read line ≡ None) → (if b then read line else None) ≡ None
nothing_at line true is nothing = nothing (IsUtf8-from_is_utf8 line is)
nothing_at line false is nothing = refl

-- a line spells nothing where, if it is text, the text spells nothing
pub nothing_spelled : (line : List ℕ) → (IsUtf8 line → read line ≡ None) → data_of line ≡ None
unfolding data_of
nothing_spelled line nothing = nothing_at line _ refl nothing

-- what a text spells nests no deeper than a text may
pub whole_nests : (text : List ℕ) (d : Data) → read text ≡ Some d → depth d ≤ max_depth
whole_nests text d spelled = depth-read text d spelled
