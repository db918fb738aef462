-- What the reader keeps of the options.
--     given value               a value, if any, as a list
--     values_in said name       the values that it has for the name: one, or none
--     IsSaidBy said options     it has those of the options
use Rattle.std.specs.Prelude.{ℕ, ◌≡◌, List, Option, Some, None, option_map, option_to_list}
use Rattle.std.specs.Borrow.{Bor}
use Rattle.jc_words.specs.Options.{values_of}
use Rattle.jc_words.specs.declared.options.OptionName.{OptionName}
use Rattle.jc_words.specs.declared.options.OptionName.TheVariants.{Threads, Lock, Controllers, Workers, Window, Events, Start}
use Rattle.jc_words.specs.declared.options.Said.{Said}

-- The value, if any, as a list.
abbrev pub given : Option (Bor (List ℕ)) → List (List ℕ)
given value = option_to_list (option_map (λ text. text.now) value)

abbrev pub values_in : Said → OptionName → List (List ℕ)
values_in said Threads = given said.threads
values_in said Lock = given said.lock
values_in said Controllers = given said.controllers
values_in said Workers = given said.workers
values_in said Window = given said.window
values_in said Events = given said.events
values_in said Start = given said.start

abbrev pub IsSaidBy : Said → Option (List (OptionName × List ℕ)) → Type 0
IsSaidBy said None = ⊥
IsSaidBy said (Some pairs) = (name : OptionName) → values_in said name ≡ values_of name pairs
