-- The tokens of members and of lists that are written one after another.
use Rattle.std.proofs.Common.{◌≡◌, ℕ, ℤ, pos, negsuc, ◌+◌, ◌<◌, ◌≤◌, List, [], ◌∷◌, ◌++◌, map, take, length, get_or, Bool, true, false, ◌&&◌, Option, None, Some, option_map, decimal, Ordering, Less, Equal, Greater, nat_cmp, true≢false}
use Rattle.std.proofs.Common.{refl, sym, ap, arith, ◌∙◌, append_assoc, append-nil}
use Rattle.std.proofs.lemmas.Bool.{and_parts}
use Rattle.std.proofs.lemmas.Int.{to_z-of_z}
use Rattle.std.proofs.lemmas.List.{flat_map_more, take_all, take_more}
use mir.Syntax.{w32, w64}
use mir.Val.{SFits, of_z, to_z}
use Rattle.std.specs.Cmp.Lexicographic.{slice_cmp}
use Rattle.std.specs.Fmt.{signed_decimal}
use Rattle.std.specs.List.{flat_map}
use Rattle.std.specs.Ordering.{match_ordering}
use Rattle.std.specs.Prelude.{Result, Ok, Err, OnOk}
use Rattle.json.specs.Token.{Token, begin_array, begin_object, end_array, end_object, key}
use Rattle.json.specs.Print.{print}
use Rattle.json.specs.Tree.{items_tokens, json_tokens, members_tokens}
use Rattle.json.specs.Written.{Written, Writes}
use Rattle.serde_json.specs.Data.{Data, number, string, object, Members, no_members, member, put}
use Rattle.serde_json.specs.Find.{of_integer}
use Rattle.serde_json.specs.View.{items_of}
use Rattle.serde_json.specs.Written.{compact_text, items_outline, members_outline, outline}
use Rattle.serde_json.proofs.Texts.{print-outline}
use Rattle.jc_print.specs.PrintedMembers.{list_data, number_data, with_json_member}
use Rattle.jc_print.specs.Tokens.{AddsTokens, data_tokens, front_tokens, given_tokens}

-- ---- one thing behind another

pub adds_none : (a : Written) → AddsTokens a a []
adds_none a = record { tokens = sym (append-nil a.tokens); before = refl }

pub adds_one : {E : Type 0} (u : Unit {0}) (a b : Written) (t : Token) → Writes {E = E} (Ok u) a b t
    → AddsTokens a b (t ∷ [])
adds_one u a b t w = record { tokens = w.ok; before = w.room.0 }

pub adds_both : (a b c : Written) (s t : List Token) → AddsTokens a b s → AddsTokens b c t → AddsTokens a c (s ++ t)
adds_both a b c s t f g = record {
  tokens = g.tokens ∙ ap (λ l. l ++ t) f.tokens ∙ append_assoc a.tokens s t;
  before = g.before ∙ f.before;
}

pub adds_same : (a b : Written) (s t : List Token) → s ≡ t → AddsTokens a b s → AddsTokens a b t
adds_same a b s t same f = record { tokens = f.tokens ∙ ap (λ l. a.tokens ++ l) same; before = f.before }

-- A member whose value is written behind its name.
pub keyed : {E : Type 0} (u : Unit {0}) (a b c : Written) (name : List ℕ) (d : Data)
    → Writes {E = E} (Ok u) a b (key name) → AddsTokens b c (data_tokens d)
    → AddsTokens a c (given_tokens name (Some d))
unfolding given_tokens
keyed u a b c name d w f = adds_both a b c _ _ (adds_one u a b _ w) f

-- A member that is not given.
pub not_given : {X : Type 0} (f : X → Data) (a : Written) (name : List ℕ) (o : Option X) → o ≡ None
    → AddsTokens a a (given_tokens name (option_map f o))
unfolding given_tokens
not_given f a name o none = adds_same a a _ _ (ap (λ p. given_tokens name (option_map f p)) (sym none)) (adds_none a)

-- A member that is given.
pub given_is : {X : Type 0} (f : X → Data) (a b : Written) (name : List ℕ) (o : Option X) (x : X) → o ≡ Some x
    → AddsTokens a b (given_tokens name (Some (f x))) → AddsTokens a b (given_tokens name (option_map f o))
given_is f a b name o x some one = adds_same a b _ _ (ap (λ p. given_tokens name (option_map f p)) (sym some)) one

-- The same, of the value that is said to be that, where it was written.
pub given_said : {E : Type 0} {X : Type 0} (r : Result (Unit {0}) E) (f : X → Data) (a b : Written) (name : List ℕ)
    (o : Option X) (x : X) (d : Data)
    → o ≡ Some x → d ≡ f x → OnOk r (AddsTokens a b (given_tokens name (Some d)))
    → OnOk r (AddsTokens a b (given_tokens name (option_map f o)))
given_said (Ok u) f a b name o x d some said one =
    given_is f a b name o x some (adds_same a b _ _ (ap (λ v. given_tokens name (Some v)) said) one)
given_said (Err e) f a b name o x d some said one = tt

pub adds_number : {E : Type 0} (u : Unit {0}) (a b : Written) (n m : ℕ) → m ≡ n
    → Writes {E = E} (Ok u) a b (Token.number (decimal m))
    → AddsTokens a b (data_tokens (number_data n))
unfolding data_tokens
adds_number u a b n m same w = adds_same a b _ _ (ap (λ k. Token.number (decimal k) ∷ []) same) (adds_one u a b _ w)

-- A number that has a sign, or none.
integer_tokens : (z : ℤ) → data_tokens (number (of_integer z)) ≡ Token.number (signed_decimal z) ∷ []
unfolding data_tokens
integer_tokens (pos n) = refl
integer_tokens (negsuc n) = refl

-- A number of 32 bits that is written as one of 64.
pub adds_exit : {E : Type 0} (u : Unit {0}) (a b : Written) (z r : ℤ) → SFits w32 z → r ≡ to_z w32 (of_z w32 z)
    → Writes {E = E} (Ok u) a b (Token.number (signed_decimal (to_z w64 (of_z w64 r))))
    → AddsTokens a b (data_tokens (number (of_integer z)))
adds_exit u a b z r fits is w =
    let wide : SFits w64 z = record { sfits = omega (arith, fits.sfits) } in
    let same : to_z w64 (of_z w64 r) ≡ z = ap (λ y. to_z w64 (of_z w64 y)) (is ∙ to_z-of_z w32 z fits)
    ∙ to_z-of_z w64 z wide in
    adds_same a b _ _ (ap (λ y. Token.number (signed_decimal y) ∷ []) same ∙ sym (integer_tokens z))
    (adds_one u a b _ w)

pub adds_text : {E : Type 0} (u : Unit {0}) (a b : Written) (text said : List ℕ) → text ≡ said
    → Writes {E = E} (Ok u) a b (Token.string text)
    → AddsTokens a b (data_tokens (string said))
unfolding data_tokens
adds_text u a b text said same w = adds_same a b _ _ (ap (λ s. Token.string s ∷ []) same) (adds_one u a b _ w)

-- ---- members

-- the names of all members are below the name
abbrev IsBelow : List ℕ → Members → Type 0
IsBelow k no_members = Unit {0}
IsBelow k (member l d ms) = (slice_cmp nat_cmp k l ≡ Greater) × IsBelow k ms

placed_below : (o : Ordering) (k l m : List ℕ) (d e : Data) (ms more : Members) → slice_cmp nat_cmp k l ≡ Greater
    → IsBelow k (member m e ms) → IsBelow k more
    → IsBelow k (match_ordering o (member l d (member m e ms)) (member m d ms) (member m e more))
placed_below Less k l m d e ms more over below later = (over, below)
placed_below Equal k l m d e ms more over below later = (below.0, below.1)
placed_below Greater k l m d e ms more over below later = (below.0, later)

put_below : (k l : List ℕ) (d : Data) (ms : Members) → slice_cmp nat_cmp k l ≡ Greater → IsBelow k ms
    → IsBelow k (put l d ms)
put_below k l d no_members over below = (over, tt)
put_below k l d (member m e ms) over below =
    placed_below (slice_cmp nat_cmp l m) k l m d e ms (put l d ms) over below (put_below k l d ms over below.1)

with_below : (k l : List ℕ) (o : Option Data) (ms : Members) → slice_cmp nat_cmp k l ≡ Greater → IsBelow k ms
    → IsBelow k (with_json_member l o ms)
unfolding with_json_member
with_below k l None ms over below = below
with_below k l (Some d) ms over below = put_below k l d ms over below

-- what is put behind all stands at the end
put_front : (k : List ℕ) (d : Data) (ms : Members) → IsBelow k ms
    → front_tokens (put k d ms) ≡ front_tokens ms ++ key k ∷ data_tokens d
unfolding front_tokens
put_front k d no_members below = ap (λ l. key k ∷ l) (append-nil (data_tokens d))
put_front k d (member l e ms) below =
    ap (λ o. front_tokens
    (match_ordering o (member k d (member l e ms)) (member l d ms) (member l e (put k d ms)))) below.0
    ∙ ap (λ ts. key l ∷ (data_tokens e ++ ts)) (put_front k d ms below.1)
    ∙ ap (λ ts. key l ∷ ts) (sym (append_assoc (data_tokens e) (front_tokens ms) (key k ∷ data_tokens d)))

with_front : (k : List ℕ) (o : Option Data) (ms : Members) → IsBelow k ms
    → front_tokens (with_json_member k o ms) ≡ front_tokens ms ++ given_tokens k o
unfolding with_json_member given_tokens
with_front k None ms below = sym (append-nil (front_tokens ms))
with_front k (Some d) ms below = put_front k d ms below

-- Names with what may be given for them, the last first.
abbrev pub Named : Type 0
Named = List (List ℕ × Option Data)

abbrev pub members_from : Named → Members
members_from [] = no_members
members_from (n ∷ ns) = with_json_member n.0 n.1 (members_from ns)

pub tokens_from : Named → List Token
tokens_from [] = []
tokens_from (n ∷ ns) = tokens_from ns ++ given_tokens n.0 n.1

abbrev is_greater : Ordering → Bool
is_greater Less = false
is_greater Equal = false
is_greater Greater = true

abbrev is_over : List ℕ → Named → Bool
is_over k [] = true
is_over k (n ∷ ns) = is_greater (slice_cmp nat_cmp k n.0) && is_over k ns

-- Each name is above those before it.
abbrev pub is_ordered : Named → Bool
is_ordered [] = true
is_ordered (n ∷ ns) = is_over n.0 ns && is_ordered ns

greater : (o : Ordering) → is_greater o ≡ true → o ≡ Greater
greater Less e = absurd (true≢false (sym e))
greater Equal e = absurd (true≢false (sym e))
greater Greater e = refl

over_below : (k : List ℕ) (ns : Named) → is_over k ns ≡ true → IsBelow k (members_from ns)
over_below k [] e = tt
over_below k (n ∷ ns) e =
    with_below k n.0 n.1 (members_from ns) (greater _ (and_parts _ (is_over k ns) e).0)
    (over_below k ns (and_parts (is_greater (slice_cmp nat_cmp k n.0)) _ e).1)

front_from : (ns : Named) → is_ordered ns ≡ true → tokens_from ns ≡ front_tokens (members_from ns)
unfolding tokens_from front_tokens
front_from [] e = refl
front_from (n ∷ ns) e =
    ap (λ ts. ts ++ given_tokens n.0 n.1) (front_from ns (and_parts (is_over n.0 ns) _ e).1)
    ∙ sym (with_front n.0 n.1 (members_from ns) (over_below n.0 ns (and_parts _ (is_ordered ns) e).0))

tokens_from-append : (ns ms : Named) → tokens_from (ns ++ ms) ≡ tokens_from ms ++ tokens_from ns
unfolding tokens_from
tokens_from-append [] ms = sym (append-nil (tokens_from ms))
tokens_from-append (n ∷ ns) ms =
    ap (λ ts. ts ++ given_tokens n.0 n.1) (tokens_from-append ns ms)
    ∙ append_assoc (tokens_from ms) (tokens_from ns) (given_tokens n.0 n.1)

-- No member yet.
pub no_more : (a : Written) → AddsTokens a a (tokens_from [])
unfolding tokens_from
no_more a = adds_none a

-- One member more, of a value that is said to be that.
pub more : (a b c : Written) (k : List ℕ) (given said : Option Data) (ns : Named) → AddsTokens b c (given_tokens k given)
    → given ≡ said
    → AddsTokens a b (tokens_from ns) → AddsTokens a c (tokens_from ((k, said) ∷ ns))
unfolding tokens_from
more a b c k given said ns one same some =
    adds_both a b c _ _ some (adds_same b c _ _ (ap (given_tokens k) same) one)

-- More members at once.
pub more_of : (ms ns : Named) (a b c : Written) → is_ordered ms ≡ true → AddsTokens b c (front_tokens (members_from ms))
    → AddsTokens a b (tokens_from ns)
    → AddsTokens a c (tokens_from (ms ++ ns))
more_of ms ns a b c ordered group some =
    adds_same a c _ _ (sym (tokens_from-append ms ns))
    (adds_both a b c _ _ some (adds_same b c _ _ (sym (front_from ms ordered)) group))

-- All members of a group.
pub group_of : (ns : Named) (a b : Written) → is_ordered ns ≡ true → AddsTokens a b (tokens_from ns)
    → AddsTokens a b (front_tokens (members_from ns))
group_of ns a b ordered some = adds_same a b _ _ (front_from ns ordered) some

-- ---- objects

front_end : (ms : Members) → front_tokens ms ++ end_object ∷ [] ≡ members_tokens (members_outline ms)
unfolding front_tokens data_tokens
front_end no_members = refl
front_end (member k d ms) =
    ap (λ ts. key k ∷ ts)
    (append_assoc (data_tokens d) (front_tokens ms) (end_object ∷ []) ∙ ap (λ ts. data_tokens d ++ ts) (front_end ms))

-- An object of its beginning, its members and its end.
pub object_around : {E : Type 0} (u v : Unit {0}) (a b c d : Written) (ms : Members)
    → Writes {E = E} (Ok u) a b begin_object → AddsTokens b c (front_tokens ms)
    → Writes {E = E} (Ok v) c d end_object → AddsTokens a d (data_tokens (object ms))
unfolding data_tokens
object_around u v a b c d ms begun some ended =
    adds_same a d _ _ (ap (λ ts. begin_object ∷ ts) (front_end ms))
    (adds_both a b d _ _ (adds_one u a b _ begun) (adds_both b c d _ _ some (adds_one v c d _ ended)))

pub object_of : {E : Type 0} (ns : Named) (u v : Unit {0}) (a b c d : Written) → is_ordered ns ≡ true
    → Writes {E = E} (Ok u) a b begin_object
    → AddsTokens b c (tokens_from ns) → Writes {E = E} (Ok v) c d end_object
    → AddsTokens a d (data_tokens (object (members_from ns)))
object_of ns u v a b c d ordered begun some ended =
    object_around u v a b c d (members_from ns) begun (group_of ns b c ordered some) ended

-- ---- lists

-- The tokens of values one after another.
pub each_tokens : {X : Type 0} → (X → Data) → List X → List Token
each_tokens f xs = flat_map (λ x. data_tokens (f x)) xs

each_end : {X : Type 0} (f : X → Data) (xs : List X)
    → each_tokens f xs ++ end_array ∷ [] ≡ items_tokens (items_outline (items_of (map f xs)))
unfolding each_tokens data_tokens
each_end f [] = refl
each_end f (x ∷ xs) =
    append_assoc (data_tokens (f x)) (each_tokens f xs) (end_array ∷ [])
    ∙ ap (λ ts. data_tokens (f x) ++ ts) (each_end f xs)

-- No value yet.
pub no_item : {X : Type 0} (f : X → Data) (a : Written) → AddsTokens a a (each_tokens f [])
unfolding each_tokens
no_item f a = adds_none a

-- One value more.
pub one_item : {X : Type 0} (f : X → Data) (xs : List X) (i : ℕ) (x : X) (a b c : Written) → i < length xs
    → x ≡ get_or xs i x
    → AddsTokens b c (data_tokens (f x)) → AddsTokens a b (each_tokens f (take i xs)) → AddsTokens a c (each_tokens f (take (i + 1) xs))
unfolding each_tokens
one_item f xs i x a b c within is one some =
    let next : take (i + 1) xs ≡ take i xs ++ x ∷ [] = take_more xs i x within
    ∙ ap (λ y. take i xs ++ y ∷ []) (sym is) in
    adds_same a c _ _
    (flat_map_more (λ y. data_tokens (f y)) [] (take i xs) x ∙ ap (flat_map (λ y. data_tokens (f y))) (sym next))
    (adds_both a b c _ _ some one)

-- A list of its beginning, all its values and its end.
pub list_of : {E : Type 0} {X : Type 0} (f : X → Data) (xs : List X) (i : ℕ) (u v : Unit {0}) (a b c d : Written)
    → length xs ≤ i
    → Writes {E = E} (Ok u) a b begin_array → AddsTokens b c (each_tokens f (take i xs))
    → Writes {E = E} (Ok v) c d end_array
    → AddsTokens a d (data_tokens (list_data (map f xs)))
unfolding data_tokens
list_of f xs i u v a b c d all begun some ended =
    adds_same a d _ _
    (ap (λ ts. begin_array ∷ ts) (ap (λ l. each_tokens f l ++ end_array ∷ []) (take_all i xs all) ∙ each_end f xs))
    (adds_both a b d _ _ (adds_one u a b _ begun) (adds_both b c d _ _ some (adds_one v c d _ ended)))

-- ---- the text

-- What is put behind a text of a value that was written alone.
pub put_behind : {E : Type 0} (r : Result (Unit {0}) E) (a b : Written) (d : Data) (old new : List ℕ) → a.tokens ≡ []
    → AddsTokens a b (data_tokens d)
    → OnOk r (new ≡ old ++ print b.tokens) → OnOk r (new ≡ old ++ compact_text d)
unfolding data_tokens
put_behind (Ok u) a b d old new none one put =
    put ∙ ap (λ ts. old ++ print ts) (one.tokens ∙ ap (λ ts. ts ++ json_tokens (outline d)) none)
    ∙ ap (λ s. old ++ s) (print-outline d)
put_behind (Err e) a b d old new none one put = tt
