-- The values that a text spells: each text in them is Unicode, and the members of each object stand in ascending order.
use Rattle.std.proofs.Common.{◌≡◌, ℕ, zero, suc, ◌+◌, ◌<◌, Bool, true, false, cond, ◌&&◌, ◌-◌, ◌==◌, nat_eq, take, List, [], ◌∷◌, ◌++◌, length, get_or, drop, Option, Some, None, IfSome, option_map, option_and_then, IsUtf8, Ordering, Less}
use Rattle.std.proofs.Common.{Equal, Greater, nat_cmp, refl, sym, ap, ◌∙◌, subst, arith, append_assoc, eqb-true}
use Rattle.std.specs.Cmp.Lexicographic.{slice_cmp}
use Rattle.std.specs.List.{starts_with}
use Rattle.std.specs.Ordering.{match_ordering}
use Rattle.std.specs.Str.{is_utf8}
use Rattle.std.proofs.lemmas.Str.{IsCharBoundary-after_ascii, IsUtf8-drop, IsUtf8-from_is_utf8}
use lib.ListN.{length-append}
use lib.Seq.{drop_at}
use Rattle.json.specs.Ascii as ascii
use Rattle.json.specs.Json as json
use Rattle.json.specs.Lex.{Class, Lexeme, Mode, Place, quote, backslash, operator, space, other, operator_lexeme, after_comma, after_key, after_value, between, class, colon, comma, fresh, if_allowed, in_escape, in_string, in_word}
use Rattle.json.specs.Lex.{begins_colon, lex, lex_byte, place_token, punctuate, string_token, token, tokens}
use Rattle.json.specs.Text.{content, plain}
use Rattle.json.specs.Token.{Token}
use Rattle.json.specs.Word.{after_number, ends_word, head, is_operator, is_space, literal, number_before, word}
use Rattle.serde_json.specs.Data.{Data, Num, number, array, object, Items, item, Members, no_members, member, put}
use Rattle.serde_json.specs.Read.{max_depth, number_of, of_items, of_json, of_members, read}
use Rattle.jc_json.specs.Line.{data_of}
use Rattle.jc_reading.specs.Spelled.{AreSpelled, HasSpelled, IsSpelled}
use Rattle.jc_reading.proofs.CompactFacts.{all_after, earlier, put_after}
use Rattle.jc_reading.proofs.ContentFacts.{content_text}

-- ---- tokens

-- The text of a token is Unicode.
abbrev IsTextual : Token → Type 0
IsTextual Token.begin_object = Unit {0}
IsTextual Token.end_object = Unit {0}
IsTextual Token.begin_array = Unit {0}
IsTextual Token.end_array = Unit {0}
IsTextual (Token.key s) = IsUtf8 s
IsTextual (Token.string s) = IsUtf8 s
IsTextual (Token.number s) = Unit {0}
IsTextual (Token.boolean b) = Unit {0}
IsTextual Token.null = Unit {0}
IsTextual Token.bad = Unit {0}

abbrev AreTextual : List Token → Type 0
AreTextual [] = Unit {0}
AreTextual (t ∷ ts) = IsTextual t × AreTextual ts

abbrev IsTextualLexeme : Lexeme → Type 0
IsTextualLexeme (token t) = IsTextual t
IsTextualLexeme comma = Unit {0}
IsTextualLexeme colon = Unit {0}

abbrev AreTextualLexemes : List Lexeme → Type 0
AreTextualLexemes [] = Unit {0}
AreTextualLexemes (l ∷ ls) = IsTextualLexeme l × AreTextualLexemes ls

if_good : (p : Bool) (t : Token) → IsTextual t → IsTextual (cond p t Token.bad)
if_good true t good = good
if_good false t good = tt

number_textual : (t : List ℕ) (o : Option (List ℕ)) → IsTextual (number_before t o)
number_textual t None = tt
number_textual t (Some rest) = if_good (ends_word rest) (Token.number (take (length t - length rest) t)) tt

literal_textual : (name : List ℕ) (t : Token) (xs : List ℕ) → IsTextual t → IsTextual (literal name t xs)
literal_textual name t xs good = if_good (starts_with nat_eq xs name && ends_word (drop (length name) xs)) t good

word_textual : (xs : List ℕ) → IsTextual (word xs)
unfolding word
word_textual xs = by (head xs == ascii.lower_t) (head xs == ascii.lower_f) (head xs == ascii.lower_n)
  where
    by : (p q r : Bool)
        → IsTextual (cond p (literal ascii.true_text (Token.boolean true) xs)
        (cond q (literal ascii.false_text (Token.boolean false) xs)
        (cond r (literal ascii.null_text Token.null xs) (number_before xs (after_number xs)))))
    by true q r = literal_textual ascii.true_text (Token.boolean true) xs tt
    by false true r = literal_textual ascii.false_text (Token.boolean false) xs tt
    by false false true = literal_textual ascii.null_text Token.null xs tt
    by false false false = number_textual xs (after_number xs)

string_textual : (o : Option (List ℕ)) → IfSome o IsUtf8 → IsTextual (string_token o)
string_textual None h = tt
string_textual (Some s) h = h

operator_textual : (x : ℕ) → IsTextualLexeme (operator_lexeme x)
operator_textual x = by (x == ascii.open_brace) (x == ascii.close_brace) (x == ascii.open_bracket) (x == ascii.close_bracket) (x == ascii.comma)
  where
    by : (p q r s t : Bool)
        → IsTextualLexeme (cond p (token Token.begin_object) (cond q (token Token.end_object) (cond r (token Token.begin_array) (cond s (token Token.end_array) (cond t comma colon)))))
    by true q r s t = tt
    by false true r s t = tt
    by false false true s t = tt
    by false false false true t = tt
    by false false false false true = tt
    by false false false false false = tt

-- ---- what is left of a text

IsTail : List ℕ → Type 0
IsTail xs = (front : List ℕ) × IsUtf8 (front ++ xs)

tail_rest : (x : ℕ) (xs : List ℕ) → IsTail (x ∷ xs) → IsTail xs
unfolding IsTail
tail_rest x xs t = (t.0 ++ x ∷ [], subst IsUtf8 (sym (append_assoc t.0 (x ∷ []) xs)) t.1)

at_seam : (front : List ℕ) (x : ℕ) (xs : List ℕ) → get_or (front ++ x ∷ xs) (length front) 0 ≡ x
at_seam [] x xs = refl
at_seam (y ∷ front) x xs = at_seam front x xs

past_seam : (front : List ℕ) (x : ℕ) (xs : List ℕ) → drop (length front + 1) (front ++ x ∷ xs) ≡ xs
past_seam front x xs =
    ap (λ l. drop (length front + 1) l) (sym (append_assoc front (x ∷ []) xs))
    ∙ drop_at (front ++ x ∷ []) xs (length front + 1) (length-append front (x ∷ []))

tail_text : (x : ℕ) (xs : List ℕ) → x < 128 → IsTail (x ∷ xs) → IsUtf8 xs
unfolding IsTail
tail_text x xs small t =
    let bs = t.0 ++ x ∷ xs in
    let first = at_seam t.0 x xs in
    subst IsUtf8 (past_seam t.0 x xs)
    (IsUtf8-drop bs (length t.0 + 1) t.1 (IsCharBoundary-after_ascii bs (length t.0) t.1 (omega (arith, length-append t.0 (x ∷ xs))) (omega (arith, first, small))))

quote_byte : (x : ℕ) → class x ≡ quote → x < 128
quote_byte x e = by (x == 34) (x == 92) (is_operator x) (is_space x) refl e
  where
    by : (p q r s : Bool) → (x == 34) ≡ p → cond p quote (cond q backslash (cond r operator (cond s space other))) ≡ quote → x < 128
    by true q r s i e = let same = eqb-true x 34 i in omega (arith, same)
    by false true r s i e = absurd (cc (e))
    by false false true s i e = absurd (cc (e))
    by false false false true i e = absurd (cc (e))
    by false false false false i e = absurd (cc (e))

lexed : (m : Mode) (xs : List ℕ) → IsTail xs → AreTextualLexemes (lex m xs)
unfolding lex
lexed m [] t = tt
lexed m (x ∷ xs) t = by (λ n. lexed n xs (tail_rest x xs t)) m (class x) refl
  where
    by : ((n : Mode) → AreTextualLexemes (lex n xs)) → (m : Mode) (c : Class) → class x ≡ c → AreTextualLexemes (lex_byte m c x xs (λ n. lex n xs))
    by next between quote is = (string_textual (content plain xs) (content_text xs (tail_text x xs (quote_byte x is) t)), next in_string)
    by next between backslash is = (tt, next in_word)
    by next between operator is = (operator_textual x, next between)
    by next between space is = next between
    by next between other is = (word_textual (x ∷ xs), next in_word)
    by next in_word quote is = next in_word
    by next in_word backslash is = next in_word
    by next in_word operator is = (operator_textual x, next between)
    by next in_word space is = next between
    by next in_word other is = next in_word
    by next in_string quote is = next between
    by next in_string backslash is = next in_escape
    by next in_string operator is = next in_string
    by next in_string space is = next in_string
    by next in_string other is = next in_string
    by next in_escape quote is = next in_string
    by next in_escape backslash is = next in_string
    by next in_escape operator is = next in_string
    by next in_escape space is = next in_string
    by next in_escape other is = next in_string

-- ---- commas and colons

if_allowed_textual : (b : Bool) (t : Token) (k : Place → List Token) (q : Place) → IsTextual t → AreTextual (k q) → AreTextual (if_allowed b t k q)
if_allowed_textual true t k q one rest = (one, rest)
if_allowed_textual false t k q one rest = (tt, tt)

placed : (p : Place) (t : Token) (b : Bool) (k : Place → List Token) → IsTextual t → ((q : Place) → AreTextual (k q)) → AreTextual (place_token p t b k)
placed p Token.begin_object b k one rest = if_allowed_textual _ _ k _ tt (rest _)
placed p Token.end_object b k one rest = if_allowed_textual _ _ k _ tt (rest _)
placed p Token.begin_array b k one rest = if_allowed_textual _ _ k _ tt (rest _)
placed p Token.end_array b k one rest = if_allowed_textual _ _ k _ tt (rest _)
placed p (Token.key s) b k one rest = (tt, tt)
placed p (Token.string s) true k one rest = if_allowed_textual _ _ k _ one (rest _)
placed p (Token.string s) false k one rest = if_allowed_textual _ _ k _ one (rest _)
placed p (Token.number s) b k one rest = if_allowed_textual _ _ k _ tt (rest _)
placed p (Token.boolean c) b k one rest = if_allowed_textual _ _ k _ tt (rest _)
placed p Token.null b k one rest = if_allowed_textual _ _ k _ tt (rest _)
placed p Token.bad b k one rest = (tt, tt)

punctuated : (p : Place) (ls : List Lexeme) → AreTextualLexemes ls → AreTextual (punctuate p ls)
unfolding punctuate
punctuated fresh [] h = tt
punctuated after_value [] h = tt
punctuated after_comma [] h = (tt, tt)
punctuated after_key [] h = (tt, tt)
punctuated fresh (token t ∷ ls) h = placed fresh t (begins_colon ls) (λ q. punctuate q ls) h.0 (λ q. punctuated q ls h.1)
punctuated after_value (token t ∷ ls) h = placed after_value t (begins_colon ls) (λ q. punctuate q ls) h.0 (λ q. punctuated q ls h.1)
punctuated after_comma (token t ∷ ls) h = placed after_comma t (begins_colon ls) (λ q. punctuate q ls) h.0 (λ q. punctuated q ls h.1)
punctuated after_key (token t ∷ ls) h = placed after_key t (begins_colon ls) (λ q. punctuate q ls) h.0 (λ q. punctuated q ls h.1)
punctuated fresh (comma ∷ ls) h = (tt, tt)
punctuated after_value (comma ∷ ls) h = punctuated after_comma ls h.1
punctuated after_comma (comma ∷ ls) h = (tt, tt)
punctuated after_key (comma ∷ ls) h = (tt, tt)
punctuated fresh (colon ∷ ls) h = (tt, tt)
punctuated after_value (colon ∷ ls) h = (tt, tt)
punctuated after_comma (colon ∷ ls) h = (tt, tt)
punctuated after_key (colon ∷ ls) h = punctuated fresh ls h.1

tokens_textual : (text : List ℕ) → IsUtf8 text → AreTextual (tokens text)
unfolding IsTail
tokens_textual text u = punctuated fresh (lex between text) (lexed between text ([], u))

-- ---- the grammar

abbrev mutual
  HasTexts : json.Json → Type 0
  HasTexts json.null = Unit {0}
  HasTexts (json.boolean b) = Unit {0}
  HasTexts (json.number s) = Unit {0}
  HasTexts (json.string s) = IsUtf8 s
  HasTexts (json.array js) = ItemsHaveTexts js
  HasTexts (json.object ms) = MembersHaveTexts ms

  ItemsHaveTexts : json.Items → Type 0
  ItemsHaveTexts json.no_items = Unit {0}
  ItemsHaveTexts (json.item j js) = HasTexts j × ItemsHaveTexts js

  MembersHaveTexts : json.Members → Type 0
  MembersHaveTexts json.no_members = Unit {0}
  MembersHaveTexts (json.member k j ms) = IsUtf8 k × HasTexts j × MembersHaveTexts ms

-- What was read has texts, and so have the tokens behind it.
abbrev IsGood : {A : Type 0} → (A → Type 0) → Option (A × List Token) → Type 0
IsGood P o = IfSome o (λ p. P p.0 × AreTextual p.1)

abbrev Reads : {A : Type 0} → (A → Type 0) → json.Parse A → Type 0
Reads P parse = (ts : List Token) → AreTextual ts → IsGood P (parse ts)

mapped : {A B : Type 0} (P : A → Type 0) (Q : B → Type 0) (f : A → B) (o : Option (A × List Token)) → ((a : A) → P a → Q (f a)) → IsGood P o → IsGood Q (json.parse_map f o)
mapped P Q f None h good = tt
mapped P Q f (Some p) h good = (h p.0 good.0, good.1)

behind_end : (ts : List Token) → AreTextual ts → IfSome (json.after_end_array ts) AreTextual
behind_end [] h = tt
behind_end (Token.begin_object ∷ ts) h = tt
behind_end (Token.end_object ∷ ts) h = tt
behind_end (Token.begin_array ∷ ts) h = tt
behind_end (Token.end_array ∷ ts) h = h.1
behind_end (Token.key s ∷ ts) h = tt
behind_end (Token.string s ∷ ts) h = tt
behind_end (Token.number s ∷ ts) h = tt
behind_end (Token.boolean b ∷ ts) h = tt
behind_end (Token.null ∷ ts) h = tt
behind_end (Token.bad ∷ ts) h = tt

key_good : Reads (λ o. IfSome o IsUtf8) json.read_key
key_good [] h = tt
key_good (Token.begin_object ∷ ts) h = tt
key_good (Token.end_object ∷ ts) h = (tt, h.1)
key_good (Token.begin_array ∷ ts) h = tt
key_good (Token.end_array ∷ ts) h = tt
key_good (Token.key s ∷ ts) h = (h.0, h.1)
key_good (Token.string s ∷ ts) h = tt
key_good (Token.number s ∷ ts) h = tt
key_good (Token.boolean b ∷ ts) h = tt
key_good (Token.null ∷ ts) h = tt
key_good (Token.bad ∷ ts) h = tt

module _ (value : json.Parse json.Json) (good : Reads HasTexts value) where
  items_good : (n : ℕ) → Reads ItemsHaveTexts (json.items value n)
  unfolding json.items
  items_good zero ts h = tt
  items_good (suc n) ts h = by (items_good n) (json.after_end_array ts) (behind_end ts h)
    where
      rest : Reads ItemsHaveTexts (json.items value n) → (o : Option (json.Json × List Token)) → IsGood HasTexts o
          → IsGood ItemsHaveTexts (option_and_then (λ p. json.parse_map (json.item p.0) (json.items value n p.1)) o)
      rest more None first = tt
      rest more (Some p) first = mapped ItemsHaveTexts ItemsHaveTexts (json.item p.0) (json.items value n p.1) (λ js all. (first.0, all)) (more p.1 first.1)

      by : Reads ItemsHaveTexts (json.items value n) → (o : Option (List Token)) → IfSome o AreTextual → IsGood ItemsHaveTexts (json.items_step value (json.items value n) ts o)
      by more (Some left) behind = (tt, behind)
      by more None behind = rest more (value ts) (good ts h)

  members_good : (n : ℕ) → Reads MembersHaveTexts (json.members value n)
  unfolding json.members
  members_good zero ts h = tt
  members_good (suc n) ts h = by (members_good n) (json.read_key ts) (key_good ts h)
    where
      rest : Reads MembersHaveTexts (json.members value n) → (k : List ℕ) → IsUtf8 k → (o : Option (json.Json × List Token)) → IsGood HasTexts o
          → IsGood MembersHaveTexts (option_and_then (λ p. json.parse_map (json.member k p.0) (json.members value n p.1)) o)
      rest more k u None first = tt
      rest more k u (Some p) first = mapped MembersHaveTexts MembersHaveTexts (json.member k p.0) (json.members value n p.1) (λ ms all. (u, first.0, all)) (more p.1 first.1)

      by : Reads MembersHaveTexts (json.members value n) → (o : Option (Option (List ℕ) × List Token)) → IsGood (λ o. IfSome o IsUtf8) o
          → IsGood MembersHaveTexts (option_and_then (λ p. json.members_step value (json.members value n) p.0 p.1) o)
      by more None found = tt
      by more (Some (None, left)) found = (tt, found.1)
      by more (Some (Some k, left)) found = rest more k found.0 (value left) (good left found.1)

of_parts : (a : json.Parse json.Items) (o : json.Parse json.Members) → Reads ItemsHaveTexts a → Reads MembersHaveTexts o → Reads HasTexts (json.value_with a o)
of_parts a o all more [] h = tt
of_parts a o all more (Token.begin_object ∷ ts) h = mapped MembersHaveTexts HasTexts json.object (o ts) (λ ms all. all) (more ts h.1)
of_parts a o all more (Token.end_object ∷ ts) h = tt
of_parts a o all more (Token.begin_array ∷ ts) h = mapped ItemsHaveTexts HasTexts json.array (a ts) (λ js all. all) (all ts h.1)
of_parts a o all more (Token.end_array ∷ ts) h = tt
of_parts a o all more (Token.key s ∷ ts) h = tt
of_parts a o all more (Token.string s ∷ ts) h = (h.0, h.1)
of_parts a o all more (Token.number s ∷ ts) h = (tt, h.1)
of_parts a o all more (Token.boolean b ∷ ts) h = (tt, h.1)
of_parts a o all more (Token.null ∷ ts) h = (tt, h.1)
of_parts a o all more (Token.bad ∷ ts) h = tt

value_good : (depth : ℕ) → Reads HasTexts (json.value depth)
unfolding json.value
value_good zero ts h = of_parts (λ ts. None) (λ ts. None) (λ ts h. tt) (λ ts h. tt) ts h
value_good (suc depth) ts h =
    of_parts (λ ts. json.items (json.value depth) (length ts) ts) (λ ts. json.members (json.value depth) (length ts) ts)
    (λ ts h. items_good (json.value depth) (value_good depth) (length ts) ts h)
    (λ ts h. members_good (json.value depth) (value_good depth) (length ts) ts h) ts h

last_good : (j : json.Json) (ts : List Token) → HasTexts j → IfSome (json.if_last j ts) HasTexts
last_good j [] h = h
last_good j (t ∷ ts) h = tt

-- ---- a member put among others

pub put_spelled : (k : List ℕ) (d : Data) (ms : Members) → IsUtf8 k → IsSpelled d → HasSpelled ms → HasSpelled (put k d ms)
put_spelled k d no_members name one h = (name, one, tt, tt)
put_spelled k d (member l e ms) name one h = by (put_spelled k d ms name one h.3) (slice_cmp nat_cmp k l) refl
  where
    by : HasSpelled (put k d ms) → (o : Ordering) → slice_cmp nat_cmp k l ≡ o → HasSpelled (match_ordering o (member k d (member l e ms)) (member l d ms) (member l e (put k d ms)))
    by rest Less less = (name, one, (less, all_after k l ms less h.2), h)
    by rest Equal same = (h.0, one, h.2, h.3)
    by rest Greater more = (h.0, h.1, put_after l k d ms (earlier k l more) h.2, rest)

-- ---- values

mutual
  of_spelled : (j : json.Json) → HasTexts j → IfSome (of_json j) IsSpelled
  of_spelled json.null h = tt
  of_spelled (json.boolean b) h = tt
  of_spelled (json.number s) h = by (number_of s)
    where
      by : (o : Option Num) → IfSome (option_map number o) IsSpelled
      by None = tt
      by (Some n) = tt
  of_spelled (json.string s) h = h
  of_spelled (json.array js) h = by (of_items js) (items_spelled js h)
    where
      by : (o : Option Items) → IfSome o AreSpelled → IfSome (option_map array o) IsSpelled
      by None all = tt
      by (Some ds) all = all
  of_spelled (json.object ms) h = by (of_members ms no_members) (members_spelled ms no_members h tt)
    where
      by : (o : Option Members) → IfSome o HasSpelled → IfSome (option_map object o) IsSpelled
      by None all = tt
      by (Some ds) all = all

  items_spelled : (js : json.Items) → ItemsHaveTexts js → IfSome (of_items js) AreSpelled
  items_spelled json.no_items h = tt
  items_spelled (json.item j js) h = by (of_json j) (of_spelled j h.0) (of_items js) (items_spelled js h.1)
    where
      by : (o : Option Data) → IfSome o IsSpelled → (more : Option Items) → IfSome more AreSpelled → IfSome (option_and_then (λ d. option_map (item d) more) o) AreSpelled
      by None one more all = tt
      by (Some d) one None all = tt
      by (Some d) one (Some ds) all = (one, all)

  members_spelled : (ms : json.Members) (found : Members) → MembersHaveTexts ms → HasSpelled found → IfSome (of_members ms found) HasSpelled
  members_spelled json.no_members found h so_far = so_far
  members_spelled (json.member k j ms) found h so_far =
      by (of_json j) (of_spelled j h.1) (λ next all. members_spelled ms next h.2 all)
    where
      by : (o : Option Data) → IfSome o IsSpelled → ((next : Members) → HasSpelled next → IfSome (of_members ms next) HasSpelled)
          → IfSome (option_and_then (λ d. of_members ms (put k d found)) o) HasSpelled
      by None one rest = tt
      by (Some d) one rest = rest (put k d found) (put_spelled k d found h.0 one so_far)

-- ---- the law

pub value_spelled : (text : List ℕ) → IsUtf8 text → IfSome (read text) IsSpelled
value_spelled text u = by (json.value max_depth (tokens text)) (value_good max_depth (tokens text) (tokens_textual text u))
  where
    last : (o : Option json.Json) → IfSome o HasTexts → IfSome (option_and_then of_json o) IsSpelled
    last None h = tt
    last (Some j) h = of_spelled j h

    by : (o : Option (json.Json × List Token)) → IsGood HasTexts o → IfSome (option_and_then of_json (option_and_then (λ p. json.if_last p.0 p.1) o)) IsSpelled
    by None good = tt
    by (Some p) good = last (json.if_last p.0 p.1) (last_good p.0 p.1 good.0)

pub line_spelled : (text : List ℕ) → IfSome (data_of text) IsSpelled
unfolding data_of
line_spelled text = by (is_utf8 text) refl
  where
    by : (b : Bool) → is_utf8 text ≡ b → IfSome (cond b (read text) None) IsSpelled
    by true e = value_spelled text (IsUtf8-from_is_utf8 text e)
    by false e = tt

pub spelled_value : (line : List ℕ) (d : Data) → data_of line ≡ Some d → IsSpelled d
spelled_value line d e = subst (λ o. IfSome o IsSpelled) e (line_spelled line)
