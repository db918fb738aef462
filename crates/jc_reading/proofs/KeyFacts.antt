-- The bytes around the first slash, and that names are text.
use Rattle.std.proofs.Common.{◌≡◌, ℕ, suc, ◌+◌, ◌==◌, ◌<◌, Bool, true, false, cond, ◌&&◌, ◌||◌, List, [], ◌∷◌, take, drop, IsUtf8, Some, None, refl, sym, ap, ap₂, ◌∙◌, arith, true≢false, lt-ltb, eqb-true}
use Rattle.std.specs.Prelude.{nat_le}
use Rattle.std.specs.List.{list_all, onto_first}
use Rattle.std.proofs.lemmas.Bool.{leb-true}
use Rattle.json.proofs.Printed.Utf8.{IsUtf8-are_ascii, are_ascii}
use Rattle.jc_rows.specs.NameForms.{has_length_of_name, is_label, is_part, is_subdomain}
use Rattle.jc_reading.specs.LineReadings.{onto_front, label_if, parted, slash_in, subdomain_if}
use Rattle.jc_reading.proofs.ReadFacts.{all_bytes, is_name_byte, parts_of, weaker}
use Rattle.jc_manifest.proofs.IndexSetFacts.{left, right}

-- ---- around the first slash

pub before_is : (w : List ℕ) → take (slash_in w) w ≡ (parted w).0
before_is [] = refl
before_is (b ∷ w) = by (b == 47) (before_is w)
  where
    by : (t : Bool) → take (slash_in w) w ≡ (parted w).0
        → take (cond t 0 (suc (slash_in w))) (b ∷ w) ≡ (cond t ([], w) (onto_front b (parted w))).0
    by true ih = refl
    by false ih = ap (λ l. b ∷ l) ih

pub behind_is : (w : List ℕ) → drop (slash_in w + 1) w ≡ (parted w).1
behind_is [] = refl
behind_is (b ∷ w) = by (b == 47) (behind_is w)
  where
    by : (t : Bool) → drop (slash_in w + 1) w ≡ (parted w).1
        → drop (cond t 0 (suc (slash_in w)) + 1) (b ∷ w) ≡ (cond t ([], w) (onto_front b (parted w))).1
    by true ih = refl
    by false ih =
        let same : suc (slash_in w) + 1 ≡ suc (slash_in w + 1) = omega arith in
        ap (λ n. drop n (b ∷ w)) same ∙ ih

-- ---- names are text

small : (b : ℕ) → is_name_byte b ≡ true → b < 128
small b is = by (nat_le 97 b && nat_le b 122) (nat_le 48 b && nat_le b 57) (b == 45) refl refl refl is
  where
    by : (p q r : Bool) → (nat_le 97 b && nat_le b 122) ≡ p → (nat_le 48 b && nat_le b 57) ≡ q → (b == 45) ≡ r → ((p || q) || r) ≡ true → b < 128
    by true q r e f g is = let less = leb-true b 122 (right (nat_le 97 b) (nat_le b 122) e) in omega (arith, less)
    by false true r e f g is = let less = leb-true b 57 (right (nat_le 48 b) (nat_le b 57) f) in omega (arith, less)
    by false false true e f g is = let same = eqb-true b 45 g in omega (arith, same)
    by false false false e f g is = absurd (true≢false (sym is))

part_ascii : (s : List ℕ) → list_all is_name_byte s ≡ true → are_ascii s ≡ true
part_ascii [] all = refl
part_ascii (b ∷ s) all =
    ap₂ (λ p q. p && q) (lt-ltb b 128 (small b (left (is_name_byte b) _ all))) (part_ascii s (right (is_name_byte b) _ all))

parts_ascii : (s : List ℕ) → list_all (λ p. list_all is_name_byte p) (parts_of s) ≡ true → are_ascii s ≡ true
parts_ascii [] all = refl
parts_ascii (b ∷ s) all = by (b == 46) refl (parts_of s) (parts_ascii s) all
  where
    by : (t : Bool) → (b == 46) ≡ t → (ps : List (List ℕ)) → (list_all (λ p. list_all is_name_byte p) ps ≡ true → are_ascii s ≡ true)
        → list_all (λ p. list_all is_name_byte p) (cond t ([] ∷ ps) (onto_first b ps)) ≡ true → are_ascii (b ∷ s) ≡ true
    by true is ps ih all =
        let point : b ≡ 46 = eqb-true b 46 is in
        ap₂ (λ p q. p && q) (lt-ltb b 128 (omega (arith, point))) (ih all)
    by false is [] ih all = ap₂ (λ p q. p && q) (lt-ltb b 128 (small b (left (is_name_byte b) true (left (is_name_byte b && true) true all)))) (ih refl)
    by false is (p ∷ ps) ih all =
        let first = left (is_name_byte b && list_all is_name_byte p) _ all in
        ap₂ (λ p q. p && q) (lt-ltb b 128 (small b (left (is_name_byte b) _ first)))
        (ih (ap₂ (λ x y. x && y) (right (is_name_byte b) _ first) (right (is_name_byte b && list_all is_name_byte p) _ all)))

label_text : (s : List ℕ) → is_label s ≡ true → IsUtf8 s
label_text s is = IsUtf8-are_ascii s (part_ascii s (all_bytes s (right (has_length_of_name s) (is_part s) is)))

subdomain_text : (s : List ℕ) → is_subdomain s ≡ true → IsUtf8 s
subdomain_text s is = IsUtf8-are_ascii s (parts_ascii s (weaker (parts_of s) (right (has_length_of_name s) _ is)))

-- ---- what is read of a name

pub some_label : (word text : List ℕ) → is_label word ≡ true → text ≡ word → Some text ≡ label_if word
some_label word text is same = ap Some same ∙ sym (ap (λ b. cond b (Some word) None) is)

pub no_label : (word : List ℕ) → is_label word ≡ true → (IsUtf8 word → ⊥) → None ≡ label_if word
no_label word is no_text = absurd (no_text (label_text word is))

pub some_subdomain : (word text : List ℕ) → is_subdomain word ≡ true → text ≡ word → Some text ≡ subdomain_if word
some_subdomain word text is same = ap Some same ∙ sym (ap (λ b. cond b (Some word) None) is)

pub no_subdomain : (word : List ℕ) → is_subdomain word ≡ true → (IsUtf8 word → ⊥) → None ≡ subdomain_if word
no_subdomain word is no_text = absurd (no_text (subdomain_text word is))
