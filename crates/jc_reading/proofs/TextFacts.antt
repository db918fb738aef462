-- The compact text of a value is Unicode, where the texts in the value are and its numbers are whole.
use Rattle.std.proofs.Common.{ℕ, ◌<◌, pos, negsuc, Bool, true, false, List, [], ◌∷◌, ◌++◌, IsUtf8, refl, arith, decimal}
use Rattle.std.proofs.lemmas.Fmt.{IsAscii-decimal, IsAscii-signed}
use Rattle.std.proofs.lemmas.Str.{IsUtf8-append, IsUtf8-from_ascii, IsUtf8-nil}
use Rattle.std.specs.Fmt.{signed_decimal}
use Rattle.json.proofs.Printed.Utf8.{IsUtf8-are_ascii, IsUtf8-boolean, IsUtf8-quoted}
use Rattle.json.specs.Print.{quoted}
use Rattle.serde_json.specs.Data.{unsigned, negative, float, Data, null, boolean, number, string, array, object, Items, no_items, item, Members, no_members, member}
use Rattle.serde_json.specs.Written.{comma_if, compact_text, items_text, members_text}
use Rattle.jc_reading.specs.Compact.{AreTold, HasTold, IsTold}
use Rattle.jc_reading.specs.Spelled.{AreSpelled, HasSpelled, IsSpelled}
use Rattle.jc_reading.proofs.ContentFacts.{one_ascii}

byte_before : (x : ℕ) (xs : List ℕ) → x < 128 → IsUtf8 xs → IsUtf8 (x ∷ xs)
byte_before x xs small u = IsUtf8-append (x ∷ []) xs (one_ascii x small) u

comma_text : (later : Bool) → IsUtf8 (comma_if later)
comma_text true = IsUtf8-are_ascii (44 ∷ []) refl
comma_text false = IsUtf8-nil

mutual
  pub compact_spelled : (d : Data) → IsTold d → IsSpelled d → IsUtf8 (compact_text d)
  compact_spelled null told h = IsUtf8-are_ascii (compact_text null) refl
  compact_spelled (boolean b) told h = IsUtf8-boolean b
  compact_spelled (number (unsigned n)) told h = IsUtf8-from_ascii (decimal n) (IsAscii-decimal n told)
  compact_spelled (number (negative (pos n))) told h = absurd told
  compact_spelled (number (negative (negsuc n))) told h = IsUtf8-from_ascii (signed_decimal (negsuc n)) (IsAscii-signed (negsuc n) told)
  compact_spelled (number (float x)) told h = absurd told
  compact_spelled (string s) told h = IsUtf8-quoted s h
  compact_spelled (array ds) told h = byte_before 91 (items_text false ds) (omega arith) (items_spelled false ds told h)
  compact_spelled (object ms) told h = byte_before 123 (members_text false ms) (omega arith) (members_spelled false ms told h)

  items_spelled : (later : Bool) (ds : Items) → AreTold ds → AreSpelled ds → IsUtf8 (items_text later ds)
  items_spelled later no_items told h = IsUtf8-are_ascii (93 ∷ []) refl
  items_spelled later (item d ds) told h =
      IsUtf8-append (comma_if later) (compact_text d ++ items_text true ds) (comma_text later)
      (IsUtf8-append (compact_text d) (items_text true ds) (compact_spelled d told.0 h.0) (items_spelled true ds told.1 h.1))

  members_spelled : (later : Bool) (ms : Members) → HasTold ms → HasSpelled ms → IsUtf8 (members_text later ms)
  members_spelled later no_members told h = IsUtf8-are_ascii (125 ∷ []) refl
  members_spelled later (member k d ms) told h =
      IsUtf8-append (comma_if later) (quoted k ++ 58 ∷ (compact_text d ++ members_text true ms)) (comma_text later)
      (IsUtf8-append (quoted k) (58 ∷ (compact_text d ++ members_text true ms)) (IsUtf8-quoted k h.0)
      (byte_before 58 (compact_text d ++ members_text true ms) (omega arith)
      (IsUtf8-append (compact_text d) (members_text true ms) (compact_spelled d told.0 h.1) (members_spelled true ms told.2 h.3))))
