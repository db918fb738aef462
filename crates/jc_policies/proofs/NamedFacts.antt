-- The name of a text among names.
use Rattle.std.proofs.Common.{◌≡◌, sym, ◌∙◌, ap, ℕ, suc, ◌<◌, List, length, get_or, drop, drop-cons, Bool, true, cond, ◌||◌, bytes_eq, Some, None}
use Rattle.std.specs.Prelude.{if◌then◌else◌}
use Rattle.std.specs.Cmp.Lexicographic.{bytes_decides}
use Rattle.jc_rows.specs.Templates.{is_among}

-- the name that is the text, where none before it is
pub found_name : (names : List (List ℕ)) (place : ℕ) (name text copy : List ℕ) (same : Bool) → place < length names → name ≡ get_or names place name
    → is_among (drop place names) text ≡ is_among names text → same ≡ bytes_eq name text → same ≡ true → copy ≡ name
    → Some copy ≡ (if is_among names text then Some text else None)
found_name names place name text copy same within at open_names test rule_row copied =
    let equal : bytes_eq name text ≡ true = sym test ∙ rule_row in
    let there : is_among names text ≡ true =
    sym open_names ∙ ap (λ ns. is_among ns text) (drop-cons names place name within)
    ∙ ap (λ n. bytes_eq n text || is_among (drop (suc place) names) text) (sym at)
    ∙ ap (λ b. b || is_among (drop (suc place) names) text) equal in
    ap Some (copied ∙ (bytes_decides name text).0 equal) ∙ ap (λ b. cond b (Some text) None) (sym there)
