-- The words of a line, and that the printed parts of an act are words.
use Rattle.std.proofs.Common.{◌≡◌, ℕ, zero, suc, ◌+◌, ◌<◌, ◌==◌, ◌/◌, ◌%◌, pos, negsuc, Bool, true, false, cond, List, [], ◌∷◌, ◌++◌, length, take, drop, Option, Some, None, is_some, decimal, refl, sym, ap, ap₂, ◌∙◌, subst, arith}
use Rattle.std.proofs.Common.{true≢false, ne_eqb, ◌⊎◌, inl, inr}
use Rattle.std.specs.Prelude.{nat_lt}
use Rattle.std.proofs.lemmas.Bool.{cases_eq, ltb-true, ltb-false}
use Rattle.std.specs.Char.{digit_char}
use Rattle.std.specs.Fmt.{digit_glyph, digits, digits_onto}
use Rattle.json.specs.Print.{escape, escape_byte, escape_letter, quoted}
use Rattle.serde_json.specs.Data.{unsigned, negative, float, Data, null, boolean, number, string, array, object, Items, no_items, item, Members, no_members, member}
use Rattle.serde_json.specs.Written.{comma_if, compact_text, items_text, members_text}
use Rattle.jc_reading.specs.declared.cuts.Place.{Place}
use Rattle.jc_reading.specs.declared.cuts.Place.TheVariants.{Outside, Inside, Escaped}
use Rattle.jc_reading.specs.Cuts.{IsWord, behind_word, ends_word, place_after, scanned, first_word_in, word_len}
use Rattle.std.proofs.Math.Seq.{take-append_seam as take_front}

-- ---- words

scanned_len : (q : Place) (w rest : List ℕ) → scanned q w ≡ Some Outside → word_len q (w ++ 32 ∷ rest) ≡ length w
scanned_len Outside [] rest e = refl
scanned_len Inside [] rest e = absurd (cc (e))
scanned_len Escaped [] rest e = absurd (cc (e))
scanned_len q (b ∷ w) rest e = by (ends_word q b) (scanned_len (place_after q b) w rest) e
  where
    by : (s : Bool) → (scanned (place_after q b) w ≡ Some Outside → word_len (place_after q b) (w ++ 32 ∷ rest) ≡ length w)
        → cond s None (scanned (place_after q b) w) ≡ Some Outside → cond s 0 (suc (word_len (place_after q b) (w ++ 32 ∷ rest))) ≡ suc (length w)
    by true ih e = absurd (true≢false (sym (ap is_some e)))
    by false ih e = ap suc (ih e)

drop_front : (w rest : List ℕ) (b : ℕ) → drop (length w + 1) (w ++ b ∷ rest) ≡ rest
drop_front [] rest b = refl
drop_front (c ∷ w) rest b =
    let same : length (c ∷ w) + 1 ≡ suc (length w + 1) = omega arith in
    ap (λ n. drop n (c ∷ (w ++ b ∷ rest))) same ∙ drop_front w rest b

pub first_word : (w rest : List ℕ) → IsWord w → first_word_in (w ++ 32 ∷ rest) ≡ w
first_word w rest word = ap (λ n. take n (w ++ 32 ∷ rest)) (scanned_len Outside w rest word) ∙ take_front w (32 ∷ rest)

pub after_word : (w rest : List ℕ) → IsWord w → behind_word (w ++ 32 ∷ rest) ≡ rest
after_word w rest word = ap (λ n. drop (n + 1) (w ++ 32 ∷ rest)) (scanned_len Outside w rest word) ∙ drop_front w rest 32

-- ---- words one after another

pub scanned_both : (q r : Place) (v w : List ℕ) → scanned q v ≡ Some r → scanned q (v ++ w) ≡ scanned r w
scanned_both q r [] w e = ap (λ o. elim o as (λ o. Option Place) [ None ↦ None | Some s ↦ scanned s w ]) e
scanned_both q r (b ∷ v) w e = by (ends_word q b) (scanned_both (place_after q b) r v w) e
  where
    by : (s : Bool) → (scanned (place_after q b) v ≡ Some r → scanned (place_after q b) (v ++ w) ≡ scanned r w)
        → cond s None (scanned (place_after q b) v) ≡ Some r → cond s None (scanned (place_after q b) (v ++ w)) ≡ scanned r w
    by true ih e = absurd (true≢false (sym (ap is_some e)))
    by false ih e = ih e

pub both_words : (v w : List ℕ) → IsWord v → IsWord w → IsWord (v ++ w)
both_words v w one other = scanned_both Outside Outside v w one ∙ other

-- ---- bytes that are neither blanks nor quotes

abbrev pub IsPlain : ℕ → Type 0
IsPlain b = ((b == 32) ≡ false) × ((b == 34) ≡ false)

abbrev pub ArePlain : List ℕ → Type 0
ArePlain [] = Unit {0}
ArePlain (b ∷ bs) = IsPlain b × ArePlain bs

pub plain_word : (w : List ℕ) → ArePlain w → IsWord w
plain_word [] plain = refl
plain_word (b ∷ w) plain =
    ap₂ (λ s q. cond s None (scanned (cond q Inside Outside) w)) plain.0.0 plain.0.1 ∙ plain_word w plain.1

apart_plain : (m : ℕ) → 47 < m → IsPlain m
apart_plain m more = (ne_eqb m 32 (λ e. omega (arith, more, e)), ne_eqb m 34 (λ e. omega (arith, more, e)))

glyph_plain : (d : ℕ) → IsPlain (digit_glyph false d)
glyph_plain d = by (nat_lt d 10)
  where
    by : (b : Bool) → IsPlain (cond b (48 + d) (87 + d))
    by true = apart_plain (48 + d) (omega arith)
    by false = apart_plain (87 + d) (omega arith)

onto_plain : (k n : ℕ) (acc : List ℕ) → ArePlain acc → ArePlain (digits_onto k 10 false n acc)
onto_plain zero n acc plain = plain
onto_plain (suc k) n acc plain = either (n / 10 == 0) (digit_glyph false (n % 10)) acc _ (glyph_plain (n % 10)) plain (onto_plain k (n / 10) (digit_glyph false (n % 10) ∷ acc) (glyph_plain (n % 10), plain))
  where
    either : (b : Bool) (d : ℕ) (acc more : List ℕ) → IsPlain d → ArePlain acc → ArePlain more → ArePlain (cond b (d ∷ acc) more)
    either true d acc more one plain rest = (one, plain)
    either false d acc more one plain rest = rest

pub decimal_plain : (n : ℕ) → ArePlain (decimal n)
unfolding digits
decimal_plain n = onto_plain 64 n [] tt

pub decimal_word : (n : ℕ) → IsWord (decimal n)
decimal_word n = plain_word (decimal n) (decimal_plain n)

-- ---- the compact text of a value is a word

-- Where a byte that is neither a quote nor a backslash leads within quotes.
inside_on : (x : ℕ) (w : List ℕ) → (x == 34) ≡ false → (x == 92) ≡ false → scanned Inside (x ∷ w) ≡ scanned Inside w
inside_on x w q b = ap₂ (λ s t. scanned (cond s Outside (cond t Escaped Inside)) w) q b

digit_apart : (d n : ℕ) → (n ≡ 34) ⊎ (n ≡ 92) → (digit_char d == n) ≡ false
digit_apart d n which = by (nat_lt d 10) refl
  where
    by : (b : Bool) → nat_lt d 10 ≡ b → (cond b (48 + d) (87 + d) == n) ≡ false
    by true e = let less = ltb-true d 10 e in ne_eqb (48 + d) n (λ same. elim which [ inl is ↦ omega (arith, less, same, is) | inr is ↦ omega (arith, less, same, is) ])
    by false e = let more = ltb-false d 10 e in ne_eqb (87 + d) n (λ same. elim which [ inl is ↦ omega (arith, more, same, is) | inr is ↦ omega (arith, more, same, is) ])

at_quote : scanned Inside (escape_byte 34) ≡ Some Inside
unfolding escape_byte
at_quote = refl

at_backslash : scanned Inside (escape_byte 92) ≡ Some Inside
unfolding escape_byte
at_backslash = refl

spelled : (x : ℕ) → scanned Inside (escape_byte x) ≡ scanned Inside (cond (nat_lt 0 (escape_letter x)) (92 ∷ escape_letter x ∷ []) (cond (nat_lt x 32) (92 ∷ 117 ∷ 48 ∷ 48 ∷ digit_char (x / 16) ∷ digit_char (x % 16) ∷ []) (x ∷ [])))
unfolding escape_byte
spelled x = refl

-- A byte in a string, as it is written, leads back between the quotes.
byte_inside : (x : ℕ) → scanned Inside (escape_byte x) ≡ Some Inside
byte_inside x = go (cases_eq x 34) (cases_eq x 92)
  where
    plain : (b c : Bool) → (x == 34) ≡ false → (x == 92) ≡ false
        → scanned Inside (cond b (92 ∷ escape_letter x ∷ []) (cond c (92 ∷ 117 ∷ 48 ∷ 48 ∷ digit_char (x / 16) ∷ digit_char (x % 16) ∷ []) (x ∷ []))) ≡ Some Inside
    plain true c q b = refl
    plain false true q b =
        inside_on (digit_char (x / 16)) (digit_char (x % 16) ∷ []) (digit_apart (x / 16) 34 (inl refl)) (digit_apart (x / 16) 92 (inr refl))
        ∙ inside_on (digit_char (x % 16)) [] (digit_apart (x % 16) 34 (inl refl)) (digit_apart (x % 16) 92 (inr refl))
    plain false false q b = inside_on x [] q b

    go : (x ≡ 34) ⊎ (x ≡ 34 → ⊥) → (x ≡ 92) ⊎ (x ≡ 92 → ⊥) → scanned Inside (escape_byte x) ≡ Some Inside
    go (inl e) c = subst (λ n. scanned Inside (escape_byte n) ≡ Some Inside) (sym e) at_quote
    go (inr q) (inl e) = subst (λ n. scanned Inside (escape_byte n) ≡ Some Inside) (sym e) at_backslash
    go (inr q) (inr b) = spelled x ∙ plain (nat_lt 0 (escape_letter x)) (nat_lt x 32) (ne_eqb x 34 q) (ne_eqb x 92 b)

escape_inside : (s : List ℕ) → scanned Inside (escape s) ≡ Some Inside
escape_inside [] = refl
escape_inside (x ∷ s) = scanned_both Inside Inside (escape_byte x) (escape s) (byte_inside x) ∙ escape_inside s

quoted_word : (s : List ℕ) → IsWord (quoted s)
quoted_word s = scanned_both Inside Inside (escape s) (34 ∷ []) (escape_inside s)

-- A byte that stands for itself outside of quotes, before a word.
pub plain_first : (b : ℕ) (w : List ℕ) → (b == 32) ≡ false → (b == 34) ≡ false → IsWord w → IsWord (b ∷ w)
plain_first b w s q word = ap₂ (λ s q. cond s None (scanned (cond q Inside Outside) w)) s q ∙ word

comma_word : (later : Bool) (w : List ℕ) → IsWord w → IsWord (comma_if later ++ w)
comma_word true w word = word
comma_word false w word = word

mutual
  pub text_word : (d : Data) → IsWord (compact_text d)
  text_word null = refl
  text_word (boolean true) = refl
  text_word (boolean false) = refl
  text_word (number (unsigned n)) = decimal_word n
  text_word (number (negative (pos n))) = decimal_word n
  text_word (number (negative (negsuc n))) = decimal_word (suc n)
  text_word (number (float x)) = refl
  text_word (string s) = quoted_word s
  text_word (array ds) = items_word false ds
  text_word (object ms) = members_word false ms

  items_word : (later : Bool) (ds : Items) → IsWord (items_text later ds)
  items_word later no_items = refl
  items_word later (item d ds) = comma_word later (compact_text d ++ items_text true ds) (both_words (compact_text d) (items_text true ds) (text_word d) (items_word true ds))

  members_word : (later : Bool) (ms : Members) → IsWord (members_text later ms)
  members_word later no_members = refl
  members_word later (member k d ms) =
      comma_word later (quoted k ++ 58 ∷ (compact_text d ++ members_text true ms))
      (both_words (quoted k) (58 ∷ (compact_text d ++ members_text true ms)) (quoted_word k)
      (both_words (compact_text d) (members_text true ms) (text_word d) (members_word true ms)))
