-- What the reader has of the words that it has read: the values of the pairs so far.
use Rattle.std.proofs.Common.{◌≡◌, ℕ, zero, suc, rules, tests, ◌==◌, ◌&&◌, Bool, true, false, List, [], ◌∷◌, ◌++◌, length, Option, Some, None, is_some, option_and_then, nat_le, refl, sym, ap, ◌∙◌, append_assoc, append-nil, if◌then◌else◌}
use Rattle.std.specs.Borrow.{Bor}
use Rattle.std.specs.List.{list_all}
use Rattle.jc_words.specs.Options.{are_once, option_place, options_of, pairs_of, same_name, values_of, with_pair}
use Rattle.jc_words.specs.SaidOptions.{IsSaidBy, given, values_in}
use Rattle.jc_words.specs.Words.{run_order, run_said, shape_alone, shape_asked}
use Rattle.jc_words.specs.declared.options.OptionName.{OptionName}
use Rattle.jc_words.specs.declared.options.OptionName.TheVariants.{Threads, Lock, Controllers, Workers, Window, Events, Start}
use Rattle.jc_words.specs.declared.options.Said.{Said}
use Rattle.std.proofs.lemmas.Bool.{and_right as later}

-- Names at one place are one name.
abbrev name_at : ℕ → OptionName
name_at zero = Threads
name_at (suc zero) = Lock
name_at (suc (suc zero)) = Controllers
name_at (suc (suc (suc zero))) = Workers
name_at (suc (suc (suc (suc zero)))) = Window
name_at (suc (suc (suc (suc (suc zero))))) = Events
name_at (suc (suc (suc (suc (suc (suc n)))))) = Start

at_place : (name : OptionName) → name_at (option_place name) ≡ name
at_place Threads = refl
at_place Lock = refl
at_place Controllers = refl
at_place Workers = refl
at_place Window = refl
at_place Events = refl
at_place Start = refl

same_place : (m n : ℕ) → (m == n) ≡ true → m ≡ n
same_place m n e = search (rules, tests)

is_same : (a b : OptionName) → same_name a b ≡ true → a ≡ b
is_same a b e = let places : option_place a ≡ option_place b = same_place (option_place a) (option_place b) e in sym (at_place a) ∙ ap name_at places ∙ at_place b

-- The values of more pairs.
values_more : (name : OptionName) (ps qs : List (OptionName × List ℕ)) → values_of name (ps ++ qs) ≡ values_of name ps ++ values_of name qs
unfolding values_of
values_more name [] qs = refl
values_more name (p ∷ ps) qs = by (values_more name ps qs) (same_name p.0 name) refl where
  by : values_of name (ps ++ qs) ≡ values_of name ps ++ values_of name qs → (b : Bool) → same_name p.0 name ≡ b
      → values_of name (p ∷ ps ++ qs) ≡ values_of name (p ∷ ps) ++ values_of name qs
  by rest true e = rw (e) (ap (λ vs. p.1 ∷ vs) rest)
  by rest false e = rw (e) rest

one_value : (name other : OptionName) (value : List ℕ) → values_of other ((name, value) ∷ []) ≡ (if same_name name other then value ∷ [] else [])
unfolding values_of
one_value name other value = by (same_name name other) refl where
  by : (b : Bool) → same_name name other ≡ b → values_of other ((name, value) ∷ []) ≡ (if same_name name other then value ∷ [] else [])
  by true e = rw (e) refl
  by false e = rw (e) refl

own_value : (name : OptionName) (value : List ℕ) → values_of name ((name, value) ∷ []) ≡ value ∷ []
unfolding values_of
own_value Threads value = refl
own_value Lock value = refl
own_value Controllers value = refl
own_value Workers value = refl
own_value Window value = refl
own_value Events value = refl
own_value Start value = refl

-- No name has two values, test by test.
abbrev few : OptionName → List (OptionName × List ℕ) → Bool
few name pairs = nat_le (length (values_of name pairs)) 1

-- One test that fails.
one_fails : {A : Type 0} (test : A → Bool) (front : List A) (x : A) (back : List A) → test x ≡ false → list_all test (front ++ x ∷ back) ≡ false
one_fails test [] x back e = rw e refl
one_fails test (y ∷ front) x back e = later (test y) (list_all test (front ++ x ∷ back)) (one_fails test front x back e)

not_few : (name : OptionName) (pairs : List (OptionName × List ℕ)) → few name pairs ≡ false → are_once pairs ≡ false
unfolding are_once
not_few Threads pairs e = one_fails (λ name. few name pairs) [] Threads (Lock ∷ Controllers ∷ Workers ∷ Window ∷ Events ∷ Start ∷ []) e
not_few Lock pairs e = one_fails (λ name. few name pairs) (Threads ∷ []) Lock (Controllers ∷ Workers ∷ Window ∷ Events ∷ Start ∷ []) e
not_few Controllers pairs e = one_fails (λ name. few name pairs) (Threads ∷ Lock ∷ []) Controllers (Workers ∷ Window ∷ Events ∷ Start ∷ []) e
not_few Workers pairs e = one_fails (λ name. few name pairs) (Threads ∷ Lock ∷ Controllers ∷ []) Workers (Window ∷ Events ∷ Start ∷ []) e
not_few Window pairs e = one_fails (λ name. few name pairs) (Threads ∷ Lock ∷ Controllers ∷ Workers ∷ []) Window (Events ∷ Start ∷ []) e
not_few Events pairs e = one_fails (λ name. few name pairs) (Threads ∷ Lock ∷ Controllers ∷ Workers ∷ Window ∷ []) Events (Start ∷ []) e
not_few Start pairs e = one_fails (λ name. few name pairs) (Threads ∷ Lock ∷ Controllers ∷ Workers ∷ Window ∷ Events ∷ []) Start [] e

two_are_more : (n : ℕ) → nat_le (suc (suc n)) 1 ≡ false
two_are_more n = search (rules, tests)

not_once : (name : OptionName) (pairs : List (OptionName × List ℕ)) (one two : List ℕ) (more : List (List ℕ)) → values_of name pairs ≡ one ∷ two ∷ more → are_once pairs ≡ false
not_once name pairs one two more e =
    let long : few name pairs ≡ false = ap (λ vs. nat_le (length vs) 1) e ∙ two_are_more (length more) in not_few name pairs long

-- What is kept of a name is one value at most.
few_given : (v : Option (Bor (List ℕ))) → nat_le (length (given v)) 1 ≡ true
few_given None = refl
few_given (Some value) = refl

few_kept : (said : Said) (name : OptionName) → nat_le (length (values_in said name)) 1 ≡ true
few_kept said Threads = few_given said.threads
few_kept said Lock = few_given said.lock
few_kept said Controllers = few_given said.controllers
few_kept said Workers = few_given said.workers
few_kept said Window = few_given said.window
few_kept said Events = few_given said.events
few_kept said Start = few_given said.start

all_few : (pairs : List (OptionName × List ℕ)) → ((name : OptionName) → few name pairs ≡ true) → are_once pairs ≡ true
unfolding are_once
all_few pairs f = rw (f Threads, f Lock, f Controllers, f Workers, f Window, f Events, f Start) refl

-- Pairs in front of others.
abbrev pub in_front : List (OptionName × List ℕ) → Option (List (OptionName × List ℕ)) → Option (List (OptionName × List ℕ))
in_front taken None = None
in_front taken (Some pairs) = Some (taken ++ pairs)

in_front_of_none : (o : Option (List (OptionName × List ℕ))) → in_front [] o ≡ o
in_front_of_none None = refl
in_front_of_none (Some pairs) = refl

one_more : (taken : List (OptionName × List ℕ)) (name : OptionName) (value : List ℕ) (o : Option (List (OptionName × List ℕ)))
    → in_front taken (with_pair (Some name) value o) ≡ in_front (taken ++ (name, value) ∷ []) o
one_more taken name value None = refl
one_more taken name value (Some pairs) = ap (λ ps. Some ps) (sym (append_assoc taken ((name, value) ∷ []) pairs))

-- The words are cut into the pairs that are taken and those of the words that are left, and the values are those of
-- the pairs that are taken.
pub record IsRead (words left : List (List ℕ)) (said : Said) : Type 0 where
  pub taken : List (OptionName × List ℕ)
  pub cut : pairs_of words ≡ in_front taken (pairs_of left)
  pub values : (name : OptionName) → values_in said name ≡ values_of name taken

pub begins : (words : List (List ℕ)) (said : Said) → ((name : OptionName) → values_in said name ≡ []) → IsRead words words said
unfolding values_of
begins words said none = record { taken = []; cut = sym (in_front_of_none (pairs_of words)); values = none }

module _ (words left : List (List ℕ)) (said : Said) (r : IsRead words left said) where
  module _ (name : OptionName) (value : List ℕ) (rest : List (List ℕ)) (e : pairs_of left ≡ with_pair (Some name) value (pairs_of rest)) where
    all_cut : pairs_of words ≡ in_front (r.taken ++ (name, value) ∷ []) (pairs_of rest)
    all_cut = r.cut ∙ ap (in_front r.taken) e ∙ one_more r.taken name value (pairs_of rest)

    -- One more pair is taken.
    pub takes : (new : Said) → values_in said name ≡ []
        → ((other : OptionName) → values_in new other ≡ (if same_name name other then value ∷ [] else values_in said other))
        → IsRead words rest new
    takes new first set = record {
      taken = r.taken ++ (name, value) ∷ [];
      cut = all_cut;
      values = λ other. set other ∙ by other (same_name name other) refl;
    } where
      by : (other : OptionName) (b : Bool) → same_name name other ≡ b
          → (if same_name name other then value ∷ [] else values_in said other) ≡ values_of other (r.taken ++ (name, value) ∷ [])
      by other true e =
          let none : values_of other r.taken ≡ [] = ap (λ n. values_of n r.taken) (sym (is_same name other e)) ∙ sym (r.values name) ∙ first in
          rw e (sym (values_more other r.taken ((name, value) ∷ []) ∙ ap (λ vs. vs ++ values_of other ((name, value) ∷ [])) none ∙ one_value name other value ∙ rw e refl))
      by other false e =
          rw e (r.values other ∙ sym (append-nil (values_of other r.taken)) ∙ sym (values_more other r.taken ((name, value) ∷ []) ∙ ap (λ vs. values_of other r.taken ++ vs) (one_value name other value ∙ rw e refl)))

    -- A second value of a name.
    pub repeats : (before : List ℕ) → values_in said name ≡ before ∷ [] → options_of words ≡ None
    repeats before had = by (pairs_of rest) refl where
      by : (o : Option (List (OptionName × List ℕ))) → pairs_of rest ≡ o → options_of words ≡ None
      by None e = let all : pairs_of words ≡ None = all_cut ∙ ap (in_front (r.taken ++ (name, value) ∷ [])) e in rw all refl
      by (Some pairs) e =
          let all : pairs_of words ≡ Some ((r.taken ++ (name, value) ∷ []) ++ pairs) = all_cut ∙ ap (in_front (r.taken ++ (name, value) ∷ [])) e in
          let two = not_once name ((r.taken ++ (name, value) ∷ []) ++ pairs) before value (values_of name pairs) (
          values_more name (r.taken ++ (name, value) ∷ []) pairs
          ∙ ap (λ vs. vs ++ values_of name pairs) (values_more name r.taken ((name, value) ∷ []) ∙ ap (λ vs. vs ++ values_of name ((name, value) ∷ [])) (sym (r.values name) ∙ had) ∙ ap (λ vs. before ∷ vs) (own_value name value))) in
          rw (all, two) refl

    -- The same, by what is kept of the name.
    pub repeats_kept : (v : Option (Bor (List ℕ))) → given v ≡ values_in said name → is_some v ≡ true → options_of words ≡ None
    repeats_kept None g e = absurd (search (rules, e))
    repeats_kept (Some before) g e = repeats before.now (sym g)

    pub takes_kept : (new : Said) (v : Option (Bor (List ℕ))) → given v ≡ values_in said name → is_some v ≡ false
        → ((other : OptionName) → values_in new other ≡ (if same_name name other then value ∷ [] else values_in said other))
        → IsRead words rest new
    takes_kept new None g e set = takes new (sym g) set
    takes_kept new (Some before) g e set = absurd (search (rules, e))

-- At the end all pairs are taken.
pub ends : (words : List (List ℕ)) (said : Said) → IsRead words [] said → IsSaidBy said (options_of words)
unfolding pairs_of
ends words said r =
    let all : pairs_of words ≡ Some r.taken = r.cut ∙ ap (λ ps. Some ps) (append-nil r.taken) in
    let once_each = all_few r.taken (λ name. ap (λ vs. nat_le (length vs) 1) (sym (r.values name)) ∙ few_kept said name) in
    rw (all, once_each) r.values

-- What the values ask for is what those of the pairs do.
ordered_by : (said : Said) (o : Option (List (OptionName × List ℕ))) → IsSaidBy said o
    → run_said (values_in said) ≡ option_and_then (λ pairs. run_said (λ name. values_of name pairs)) o
ordered_by said None none = absurd none
ordered_by said (Some pairs) same = ap run_said (λ i name. same name i)

pub ordered : (words : List (List ℕ)) (said : Said) → IsSaidBy said (options_of words) → run_said (values_in said) ≡ run_order words
unfolding run_order
ordered words said same = ordered_by said (options_of words) same

pub unordered : (words : List (List ℕ)) → options_of words ≡ None → None ≡ run_order words
unfolding run_order
unordered words none = rw none refl

-- So it is of the shape alone.
alone_by : (said : Said) (o : Option (List (OptionName × List ℕ))) → IsSaidBy said o
    → shape_alone (values_in said) ≡ option_and_then (λ pairs. shape_alone (λ name. values_of name pairs)) o
alone_by said None none = absurd none
alone_by said (Some pairs) same = ap shape_alone (λ i name. same name i)

pub shaped : (words : List (List ℕ)) (said : Said) → IsSaidBy said (options_of words) → shape_alone (values_in said) ≡ shape_asked words
unfolding shape_asked
shaped words said same = alone_by said (options_of words) same

pub unshaped : (words : List (List ℕ)) → options_of words ≡ None → None ≡ shape_asked words
unfolding shape_asked
unshaped words none = rw none refl
