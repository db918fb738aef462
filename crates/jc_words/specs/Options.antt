-- The options of `run`, as names and values.
--     option_word name           the word of the option, as `--threads`
--     option_named word          the option that has the word
--     cut_of word                what stands before the first `=` of the word, and what behind it
--     pairs_of words             the words, cut into names and values
--     values_of name pairs       the values that the name is given
--     are_once pairs             no name is given two values
--     options_of words           the pairs of the words, where each name has at most one value
use Rattle.std.specs.Prelude.{ℕ, Bool, ◌==◌, List, [], ◌∷◌, length, map, filter, find, is_some, position, Option, Some, None, option_and_then, nat_le, codes, bytes_eq, if◌then◌else◌}
use Rattle.std.specs.List.{list_all, before_first, after_first}
use Rattle.jc_words.specs.declared.options.OptionName.{OptionName}
use Rattle.jc_words.specs.declared.options.OptionName.TheVariants.{Threads, Lock, Controllers, Workers, Window, Events, Start}

-- ---- names

abbrev pub option_word : OptionName → List ℕ
option_word Threads = codes "--threads"
option_word Lock = codes "--lock"
option_word Controllers = codes "--controllers"
option_word Workers = codes "--workers"
option_word Window = codes "--window"
option_word Events = codes "--events"
option_word Start = codes "--start"

abbrev pub option_names : List OptionName
option_names = Threads ∷ Lock ∷ Controllers ∷ Workers ∷ Window ∷ Events ∷ Start ∷ []

abbrev pub option_named : List ℕ → Option OptionName
option_named word = find (λ name. bytes_eq word (option_word name)) option_names

-- The place of a name among the names.
abbrev pub option_place : OptionName → ℕ
option_place Threads = 0
option_place Lock = 1
option_place Controllers = 2
option_place Workers = 3
option_place Window = 4
option_place Events = 5
option_place Start = 6

-- The names agree.
abbrev pub same_name : OptionName → OptionName → Bool
same_name a b = option_place a == option_place b

-- ---- pairs

-- The byte is a `=`.
abbrev pub is_sign : ℕ → Bool
is_sign byte = byte == 61

-- What stands before the first `=` of a word and what stands behind it, where it has one.
unfoldable pub cut_of : List ℕ → Option (List ℕ × List ℕ)
cut_of word = if is_some (position is_sign word) then Some (before_first is_sign word, after_first is_sign word) else None

-- One pair more, if the name is that of an option.
abbrev pub with_pair : Option OptionName → List ℕ → Option (List (OptionName × List ℕ))
    → Option (List (OptionName × List ℕ))
with_pair None value pairs = None
with_pair (Some name) value None = None
with_pair (Some name) value (Some pairs) = Some ((name, value) ∷ pairs)

-- A word that is cut is a name and its value.
abbrev pub with_joined : Option (List ℕ × List ℕ) → Option (List (OptionName × List ℕ))
    → Option (List (OptionName × List ℕ)) → Option (List (OptionName × List ℕ))
with_joined (Some parts) joined apart = with_pair (option_named parts.0) parts.1 joined
with_joined None joined apart = apart

-- A word with a `=` is a name and its value; any other is a name, and the next word its value.
unfoldable pub pairs_of : List (List ℕ) → Option (List (OptionName × List ℕ))
pairs_of [] = Some []
pairs_of (word ∷ []) = with_joined (cut_of word) (Some []) None
pairs_of (word ∷ next ∷ words) =
    with_joined (cut_of word) (pairs_of (next ∷ words)) (with_pair (option_named word) next (pairs_of words))

-- The values that the name is given.
unfoldable pub values_of : OptionName → List (OptionName × List ℕ) → List (List ℕ)
values_of name pairs = map (λ pair. pair.1) (filter (λ pair. same_name pair.0 name) pairs)

-- No name is given two values.
unfoldable pub are_once : List (OptionName × List ℕ) → Bool
are_once pairs = list_all (λ name. nat_le (length (values_of name pairs)) 1) option_names

abbrev pub if_once : List (OptionName × List ℕ) → Option (List (OptionName × List ℕ))
if_once pairs = if are_once pairs then Some pairs else None

abbrev pub options_of : List (List ℕ) → Option (List (OptionName × List ℕ))
options_of words = option_and_then if_once (pairs_of words)
