-- What of the lines that were put together is still to go out.
use Rattle.std.proofs.Common.{◌≡◌, ℕ, zero, suc, ◌+◌, ◌-◌, ◌≤◌, Bool, true, false, List, [], ◌∷◌, ◌++◌, length, map, take, drop, slice_get, Some, refl, sym, ap, ◌∙◌, arith, append_assoc, length-append, length-drop}
use Rattle.std.specs.Prelude.{if◌then◌else◌}
use Rattle.std.proofs.lemmas.List.{drop-drop, map-append, take-append-drop}
use Rattle.std.proofs.Math.Seq.{drop-append_seam, take-append_seam}
use Rattle.jc_log.specs.Deeds.{Deed, deed}
use Rattle.jc_lines.specs.LongLines.{long_end, long_ends, long_line, long_lines}
use Rattle.jc_lines.specs.Events.{event_line, event_lines}
use Rattle.jc_lines.specs.Short.{is_short}
use Rattle.jc_types.specs.declared.actions.Script.{Script}
use Rattle.jc_types.specs.declared.runs.Past.{Past}

-- Of the long lines those of these deeds stand from the place on, and of their ends from that of the number on.
pub record Ahead (number : ℕ) (deeds : List Deed) (at count : ℕ) (long ends : List ℕ) : Type 0 where
  pub lines : drop at long ≡ long_lines number deeds
  pub ends_at : drop count ends ≡ long_ends at number deeds
  pub within : at ≤ length long

-- The next deed's line, where it is not short.
pub record Next (number : ℕ) (one : Deed) (at count : ℕ) (long ends : List ℕ) : Type 0 where
  pub line : take (length (event_line number one)) (drop at long) ≡ event_line number one
  pub end : slice_get ends count ≡ Some (at + length (event_line number one))
  pub within : at + length (event_line number one) ≤ length long

first-at : (n : ℕ) (xs ys : List ℕ) (x : ℕ) → drop n xs ≡ x ∷ ys → slice_get xs n ≡ Some x
first-at zero xs ys x is = ap (λ (l : List ℕ). slice_get l 0) is
first-at (suc n) [] ys x is = ap (λ (l : List ℕ). slice_get l 0) is
first-at (suc n) (y ∷ xs) ys x is = first-at n xs ys x is

module _ (number : ℕ) (one : Deed) (deeds : List Deed) (at count : ℕ) (long ends : List ℕ) where
  -- What is left is no shorter than what it begins with.
  fits : (line rest : List ℕ) → at ≤ length long → drop at long ≡ line ++ rest → at + length line ≤ length long
  fits line rest within is =
      let left : length (drop at long) ≡ length long - at = length-drop at long in
      let same : length (drop at long) ≡ length (line ++ rest) = ap length is in
      let count : length (line ++ rest) ≡ length line + length rest = length-append line rest in
      omega (arith, left, same, count, within)

  pub next-ahead : Ahead number (one ∷ deeds) at count long ends → is_short one ≡ false → Next number one at count long ends
  next-ahead ahead long_one =
      let line = event_line number one in
      let is : long_line number one ≡ line = ap (λ b. if b then [] else line) long_one in
      let left : drop at long ≡ line ++ long_lines (number + 1) deeds = ahead.lines ∙ ap (λ (l : List ℕ). l ++ long_lines (number + 1) deeds) is in
      let place : at + length (long_line number one) ≡ at + length line = ap (λ (l : List ℕ). at + length l) is in
      let end : long_end (at + length (long_line number one)) one ≡ (at + length line) ∷ [] =
      ap (λ b. if b then [] else (at + length (long_line number one)) ∷ []) long_one ∙ ap (λ m. m ∷ []) place in
      record {
        line = ap (take (length line)) left ∙ take-append_seam line (long_lines (number + 1) deeds);
        end = first-at count ends _ (at + length line)
            (ahead.ends_at ∙ ap (λ (l : List ℕ). l ++ long_ends (at + length (long_line number one)) (number + 1) deeds) end);
        within = fits line (long_lines (number + 1) deeds) ahead.within left;
      }

  end-count : (m n : ℕ) → length (long_end m one) ≡ length (long_end n one)
  end-count m n = by (is_short one)
    where
      by : (b : Bool) → length (if b then [] else m ∷ []) ≡ length (if b then [] else n ∷ [])
      by true = refl
      by false = refl

  -- Once it went out, those of the others.
  pub rest-ahead : (next next_count : ℕ) → Ahead number (one ∷ deeds) at count long ends
      → next ≡ at + length (long_line number one) → next_count ≡ count + length (long_end 0 one)
      → Ahead (number + 1) deeds next next_count long ends
  rest-ahead next next_count ahead is is_count =
      let line = long_line number one in
      let end = long_end (at + length line) one in
      let more : at + length line ≡ next = sym is in
      let ended = end-count 0 (at + length line) in
      let more_count : count + length end ≡ next_count = omega (arith, is_count, ended) in
      record {
        lines =
            ap (λ m. drop m long) (sym more) ∙ sym (drop-drop (length line) at long)
            ∙ ap (drop (length line)) ahead.lines ∙ drop-append_seam line (long_lines (number + 1) deeds);
        ends_at =
            ap (λ m. drop m ends) (sym more_count) ∙ sym (drop-drop (length end) count ends)
            ∙ ap (drop (length end)) ahead.ends_at ∙ drop-append_seam end (long_ends (at + length line) (number + 1) deeds)
            ∙ ap (λ m. long_ends m (number + 1) deeds) (sym is);
        within = let fit = fits line (long_lines (number + 1) deeds) ahead.within ahead.lines in omega (arith, fit, is);
      }

-- ---- the lines of some events, and those of the others

pub lines-split : (number : ℕ) (first more : List Deed) → event_lines number (first ++ more) ≡ event_lines number first ++ event_lines (number + length first) more
lines-split number [] more = let same : number ≡ number + 0 = omega arith in ap (λ n. event_lines n more) same
lines-split number (one ∷ first) more =
    let same : number + 1 + length first ≡ number + length (one ∷ first) = omega arith in
    ap (λ (l : List ℕ). event_line number one ++ l)
    (lines-split (number + 1) first more ∙ ap (λ n. event_lines (number + 1) first ++ event_lines n more) same)
    ∙ sym (append_assoc (event_line number one) (event_lines (number + 1) first) (event_lines (number + length (one ∷ first)) more))

-- The lines of the events up to a place are the front of all.
pub lines-front : (script : Script) (events : List Past) (place : ℕ)
    → event_lines 1 (map (deed script) events) ≡ event_lines 1 (map (deed script) (take place events))
    ++ event_lines (1 + length (map (deed script) (take place events))) (map (deed script) (drop place events))
lines-front script events place =
    ap (λ (l : List Past). event_lines 1 (map (deed script) l)) (sym (take-append-drop place events))
    ∙ ap (event_lines 1) (map-append (deed script) (take place events) (drop place events))
    ∙ lines-split 1 (map (deed script) (take place events)) (map (deed script) (drop place events))
