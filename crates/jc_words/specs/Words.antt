-- The grammar of the words: what they ask for, if anything.
--     order_of words             what the words ask for
--     run_order words            the same of the options of `run`
--     shape_asked words          the shape that options ask for among which are neither threads nor a lock
--     generate_order words       the same of the three numbers of `generate`
--     default_shape              the shape where no option says another
--     most_threads               the greatest number of threads
use Rattle.std.specs.Prelude.{ℕ, List, [], ◌∷◌, Option, Some, None, option_and_then, codes, bytes_eq, if◌then◌else◌}
use Rattle.jc_types.specs.declared.runs.Shape.{Shape}
use Rattle.jc_words.specs.Options.{options_of, values_of}
use Rattle.jc_words.specs.Values.{lock_said, number_said, moment_said}
use Rattle.jc_words.specs.declared.options.OptionName.{OptionName}
use Rattle.jc_words.specs.declared.options.OptionName.TheVariants.{Threads, Lock, Controllers, Workers, Window, Events, Start}
use Rattle.jc_words.specs.declared.words.LockKind.TheVariants.{Mutex}
use Rattle.jc_words.specs.declared.words.Order.{Order}
use Rattle.jc_words.specs.declared.words.Order.TheVariants.{Run, Reap, Audit, Generate}

-- Then: nothing where one step gives nothing.
infixl 10 ◌>>=◌
abbrev ◌>>=◌ : {A B : Type 0} → Option A → (A → Option B) → Option B
None >>= next = None
Some a >>= next = next a

-- ---- run

abbrev pub most_threads : ℕ
most_threads = 16

-- The start is 2024-01-01T00:00:00Z.
abbrev pub default_shape : Shape
default_shape = record { controllers = 1; workers = 1; window = 1000; events = 200000; start = 1704067200 }

-- What the first value is read as, and the default where there is none.
abbrev pub setting : {A : Type 0} → A → (List ℕ → Option A) → List (List ℕ) → Option A
setting default read [] = Some default
setting default read (value ∷ values) = read value

-- The shape that the values of the names make.
unfoldable pub shape_said : (OptionName → List (List ℕ)) → Option Shape
shape_said values = do
  controllers ← setting default_shape.controllers (number_said 1 4) (values Controllers)
  workers ← setting default_shape.workers (number_said 1 16) (values Workers)
  window ← setting default_shape.window (number_said 1 200000) (values Window)
  events ← setting default_shape.events (number_said 1 200000) (values Events)
  start ← setting default_shape.start moment_said (values Start)
  Some (record { controllers = controllers; workers = workers; window = window; events = events; start = start })

unfoldable pub run_said : (OptionName → List (List ℕ)) → Option Order
run_said values = do
  threads ← setting 0 (number_said 0 most_threads) (values Threads)
  lock ← setting Mutex lock_said (values Lock)
  shape ← shape_said values
  Some (Run threads lock shape)

unfoldable pub run_order : List (List ℕ) → Option Order
run_order words = option_and_then (λ pairs. run_said (λ name. values_of name pairs)) (options_of words)

-- ---- reap, audit

-- Nothing, where a value is given.
abbrev pub unless_given : {A : Type 0} → List (List ℕ) → Option A → Option A
unless_given [] said = said
unless_given (value ∷ values) said = None

-- The shape, where the values are of no other name.
abbrev pub shape_alone : (OptionName → List (List ℕ)) → Option Shape
shape_alone values = unless_given (values Threads) (unless_given (values Lock) (shape_said values))

unfoldable pub shape_asked : List (List ℕ) → Option Shape
shape_asked words = option_and_then (λ pairs. shape_alone (λ name. values_of name pairs)) (options_of words)

-- What is to be done in the shape.
abbrev pub in_shape : (Shape → Order) → Option Shape → Option Order
in_shape order None = None
in_shape order (Some shape) = Some (order shape)

-- ---- generate

unfoldable pub three_numbers : List ℕ → List ℕ → List ℕ → Option Order
three_numbers first second third = do
  number ← number_said 0 4294967295 first
  jobs ← number_said 1 100 second
  pods ← number_said 1 20 third
  Some (Generate number jobs pods)

abbrev pub generate_order : List (List ℕ) → Option Order
generate_order [] = None
generate_order (first ∷ []) = None
generate_order (first ∷ second ∷ []) = None
generate_order (first ∷ second ∷ third ∷ []) = three_numbers first second third
generate_order (first ∷ second ∷ third ∷ fourth ∷ words) = None

-- ---- all

unfoldable pub order_of : List (List ℕ) → Option Order
order_of [] = None
order_of (verb ∷ words) =
    if bytes_eq verb (codes "run") then run_order words
    else (if bytes_eq verb (codes "reap") then in_shape (λ shape. Reap shape) (shape_asked words)
    else (if bytes_eq verb (codes "audit") then in_shape (λ shape. Audit shape) (shape_asked words)
    else (if bytes_eq verb (codes "generate") then generate_order words else None)))
