-- What is read is within the bounds.
use Rattle.std.proofs.Common.{◌≡◌, ℕ, ◌≤◌, Bool, true, false, List, [], ◌∷◌, Option, Some, None, bytes_eq, decimal, nat_le, refl, arith, rules, tests, subst, codes, option_and_then}
use Rattle.std.proofs.lemmas.Option.{none-some, same_Some}
use Rattle.std.specs.Str.Parse.{digits_value}
use Rattle.jc_types.specs.declared.runs.Shape.{Shape}
use Rattle.jc_words.specs.FitOrders.{IsFitOrder, IsFitShape}
use Rattle.jc_words.specs.Options.{options_of, values_of}
use Rattle.jc_words.specs.Values.{lock_said, number_if, number_said, moment_said}
use Rattle.jc_words.specs.Words.{default_shape, generate_order, in_shape, most_threads, order_of, run_order, run_said, setting, shape_alone, shape_asked, shape_said, three_numbers, unless_given}
use Rattle.jc_words.specs.declared.options.OptionName.{OptionName}
use Rattle.jc_words.specs.declared.options.OptionName.TheVariants.{Threads, Lock, Controllers, Workers, Window, Events, Start}
use Rattle.jc_words.specs.declared.words.LockKind.{LockKind}
use Rattle.jc_words.specs.declared.words.LockKind.TheVariants.{Mutex}
use Rattle.jc_words.specs.declared.words.Order.{Order}
use Rattle.jc_words.specs.declared.words.Order.TheVariants.{Run, Reap, Audit, Generate}

if_fits : (low high n m : ℕ) (text : List ℕ) → number_if low high text n ≡ Some m → (low ≤ m) × (m ≤ high)
if_fits low high n m text e = by (bytes_eq (decimal n) text) refl (nat_le low n) refl (nat_le n high) refl where
  by : (a : Bool) → bytes_eq (decimal n) text ≡ a → (b : Bool) → nat_le low n ≡ b → (c : Bool) → nat_le n high ≡ c → (low ≤ m) × (m ≤ high)
  by true ea true eb true ec =
      let same : Some n ≡ Some m = rw (ea, eb, ec) at e in
      let is : n ≡ m = same_Some n m same in
      let more : low ≤ n = search (rules, tests, eb) in
      let less : n ≤ high = search (rules, tests, ec) in
      (omega (arith, more, is), omega (arith, less, is))
  by true ea true eb false ec = absurd (none-some m (rw (ea, eb, ec) at e))
  by true ea false eb c ec = absurd (none-some m (rw (ea, eb) at e))
  by false ea b eb c ec = absurd (none-some m (rw ea at e))

number_fits : (low high m : ℕ) (text : List ℕ) → number_said low high text ≡ Some m → (low ≤ m) × (m ≤ high)
unfolding number_said
number_fits low high m text e = if_fits low high (digits_value 10 text) m text e

setting_fits : (low high usual m : ℕ) (values : List (List ℕ)) → low ≤ usual → usual ≤ high → setting usual (number_said low high) values ≡ Some m → (low ≤ m) × (m ≤ high)
setting_fits low high usual m [] more less e = let is : usual ≡ m = same_Some usual m e in (omega (arith, more, is), omega (arith, less, is))
setting_fits low high usual m (value ∷ values) more less e = number_fits low high m value e

shape_fits : (values : OptionName → List (List ℕ)) (shape : Shape) → shape_said values ≡ Some shape → IsFitShape shape
unfolding shape_said
shape_fits values shape e =
    by (setting default_shape.controllers (number_said 1 4) (values Controllers)) refl
    (setting default_shape.workers (number_said 1 16) (values Workers)) refl
    (setting default_shape.window (number_said 1 200000) (values Window)) refl
    (setting default_shape.events (number_said 1 200000) (values Events)) refl
    (setting default_shape.start moment_said (values Start)) refl
  where
    by : (a : Option ℕ) → setting default_shape.controllers (number_said 1 4) (values Controllers) ≡ a
        → (b : Option ℕ) → setting default_shape.workers (number_said 1 16) (values Workers) ≡ b
        → (c : Option ℕ) → setting default_shape.window (number_said 1 200000) (values Window) ≡ c
        → (d : Option ℕ) → setting default_shape.events (number_said 1 200000) (values Events) ≡ d
        → (f : Option ℕ) → setting default_shape.start moment_said (values Start) ≡ f → IsFitShape shape
    by None ea b eb c ec d ed f ef = absurd (none-some shape (rw ea at e))
    by (Some a) ea None eb c ec d ed f ef = absurd (none-some shape (rw (ea, eb) at e))
    by (Some a) ea (Some b) eb None ec d ed f ef = absurd (none-some shape (rw (ea, eb, ec) at e))
    by (Some a) ea (Some b) eb (Some c) ec None ed f ef = absurd (none-some shape (rw (ea, eb, ec, ed) at e))
    by (Some a) ea (Some b) eb (Some c) ec (Some d) ed None ef = absurd (none-some shape (rw (ea, eb, ec, ed, ef) at e))
    by (Some a) ea (Some b) eb (Some c) ec (Some d) ed (Some f) ef =
        let same : Some (record { controllers = a; workers = b; window = c; events = d; start = f }) ≡ Some shape = rw (ea, eb, ec, ed, ef) at e in
        subst IsFitShape (same_Some _ _ same) (record {
          some_controllers = (setting_fits 1 4 1 a (values Controllers) (omega arith) (omega arith) ea).0;
          few_controllers = (setting_fits 1 4 1 a (values Controllers) (omega arith) (omega arith) ea).1;
          some_workers = (setting_fits 1 16 1 b (values Workers) (omega arith) (omega arith) eb).0;
          few_workers = (setting_fits 1 16 1 b (values Workers) (omega arith) (omega arith) eb).1;
          some_window = (setting_fits 1 200000 1000 c (values Window) (omega arith) (omega arith) ec).0;
          small_window = (setting_fits 1 200000 1000 c (values Window) (omega arith) (omega arith) ec).1;
          some_events = (setting_fits 1 200000 200000 d (values Events) (omega arith) (omega arith) ed).0;
          few_events = (setting_fits 1 200000 200000 d (values Events) (omega arith) (omega arith) ed).1;
        })

run_fits : (values : OptionName → List (List ℕ)) (order : Order) → run_said values ≡ Some order → IsFitOrder order
unfolding run_said
run_fits values order e =
    by (setting 0 (number_said 0 most_threads) (values Threads)) refl (setting Mutex lock_said (values Lock)) refl (shape_said values) refl
  where
    by : (a : Option ℕ) → setting 0 (number_said 0 most_threads) (values Threads) ≡ a
        → (l : Option LockKind) → setting Mutex lock_said (values Lock) ≡ l
        → (b : Option Shape) → shape_said values ≡ b → IsFitOrder order
    by None ea l el b eb = absurd (none-some order (rw ea at e))
    by (Some a) ea None el b eb = absurd (none-some order (rw (ea, el) at e))
    by (Some a) ea (Some l) el None eb = absurd (none-some order (rw (ea, el, eb) at e))
    by (Some a) ea (Some l) el (Some b) eb =
        let same : Some (Run a l b) ≡ Some order = rw (ea, el, eb) at e in
        subst IsFitOrder (same_Some _ _ same) (record {
          few_threads = (setting_fits 0 most_threads 0 a (values Threads) (omega arith) (omega arith) ea).1;
          shape_fits = shape_fits values b eb;
        })

options_fit : (o : Option (List (OptionName × List ℕ))) (order : Order)
    → option_and_then (λ pairs. run_said (λ name. values_of name pairs)) o ≡ Some order → IsFitOrder order
options_fit None order e = absurd (none-some order e)
options_fit (Some pairs) order e = run_fits (λ name. values_of name pairs) order e

run_order_fits : (words : List (List ℕ)) (order : Order) → run_order words ≡ Some order → IsFitOrder order
unfolding run_order
run_order_fits words order e = options_fit (options_of words) order e

alone_fits : (threads lock : List (List ℕ)) (values : OptionName → List (List ℕ)) (shape : Shape)
    → unless_given threads (unless_given lock (shape_said values)) ≡ Some shape → IsFitShape shape
alone_fits [] [] values shape e = shape_fits values shape e
alone_fits [] (value ∷ more) values shape e = absurd (none-some shape e)
alone_fits (value ∷ more) lock values shape e = absurd (none-some shape e)

asked_fits : (o : Option (List (OptionName × List ℕ))) (shape : Shape)
    → option_and_then (λ pairs. shape_alone (λ name. values_of name pairs)) o ≡ Some shape → IsFitShape shape
asked_fits None shape e = absurd (none-some shape e)
asked_fits (Some pairs) shape e =
    alone_fits (values_of Threads pairs) (values_of Lock pairs) (λ name. values_of name pairs) shape e

shape_asked_fits : (words : List (List ℕ)) (shape : Shape) → shape_asked words ≡ Some shape → IsFitShape shape
unfolding shape_asked
shape_asked_fits words shape e = asked_fits (options_of words) shape e

in_shape_fits : (make : Shape → Order) → ((shape : Shape) → IsFitShape shape → IsFitOrder (make shape))
    → (o : Option Shape) (order : Order) → ((shape : Shape) → o ≡ Some shape → IsFitShape shape)
    → in_shape make o ≡ Some order → IsFitOrder order
in_shape_fits make fit None order fits e = absurd (none-some order e)
in_shape_fits make fit (Some shape) order fits e = subst IsFitOrder (same_Some _ _ e) (fit shape (fits shape refl))

three_fit : (first second third : List ℕ) (order : Order) → three_numbers first second third ≡ Some order → IsFitOrder order
unfolding three_numbers
three_fit first second third order e =
    by (number_said 0 4294967295 first) refl (number_said 1 100 second) refl (number_said 1 20 third) refl
  where
    by : (a : Option ℕ) → number_said 0 4294967295 first ≡ a → (b : Option ℕ) → number_said 1 100 second ≡ b
        → (c : Option ℕ) → number_said 1 20 third ≡ c → IsFitOrder order
    by None ea b eb c ec = absurd (none-some order (rw ea at e))
    by (Some a) ea None eb c ec = absurd (none-some order (rw (ea, eb) at e))
    by (Some a) ea (Some b) eb None ec = absurd (none-some order (rw (ea, eb, ec) at e))
    by (Some a) ea (Some b) eb (Some c) ec =
        let same : Some (Generate a b c) ≡ Some order = rw (ea, eb, ec) at e in
        let few : a ≤ 4294967295 = (number_fits 0 4294967295 a first ea).1 in
        subst IsFitOrder (same_Some _ _ same) (record {
          small_number = omega (arith, few);
          some_jobs = (number_fits 1 100 b second eb).0;
          few_jobs = (number_fits 1 100 b second eb).1;
          some_pods = (number_fits 1 20 c third ec).0;
          few_pods = (number_fits 1 20 c third ec).1;
        })

generate_fits : (words : List (List ℕ)) (order : Order) → generate_order words ≡ Some order → IsFitOrder order
generate_fits [] order e = absurd (none-some order e)
generate_fits (a ∷ []) order e = absurd (none-some order e)
generate_fits (a ∷ b ∷ []) order e = absurd (none-some order e)
generate_fits (a ∷ b ∷ c ∷ []) order e = three_fit a b c order e
generate_fits (a ∷ b ∷ c ∷ d ∷ words) order e = absurd (none-some order e)

pub order_fits : (words : List (List ℕ)) (order : Order) → order_of words ≡ Some order → IsFitOrder order
unfolding order_of
order_fits [] order e = absurd (none-some order e)
order_fits (verb ∷ words) order e =
    by (bytes_eq verb (codes "run")) refl (bytes_eq verb (codes "reap")) refl (bytes_eq verb (codes "audit")) refl
    (bytes_eq verb (codes "generate")) refl
  where
    by : (a : Bool) → bytes_eq verb (codes "run") ≡ a → (r : Bool) → bytes_eq verb (codes "reap") ≡ r
        → (u : Bool) → bytes_eq verb (codes "audit") ≡ u → (b : Bool) → bytes_eq verb (codes "generate") ≡ b → IsFitOrder order
    by true ea r er u eu b eb = run_order_fits words order (rw ea at e)
    by false ea true er u eu b eb =
        in_shape_fits (λ shape. Reap shape) (λ shape fits. fits) (shape_asked words) order (shape_asked_fits words) (rw (ea, er) at e)
    by false ea false er true eu b eb =
        in_shape_fits (λ shape. Audit shape) (λ shape fits. fits) (shape_asked words) order (shape_asked_fits words)
        (rw (ea, er, eu) at e)
    by false ea false er false eu true eb = generate_fits words order (rw (ea, er, eu, eb) at e)
    by false ea false er false eu false eb = absurd (none-some order (rw (ea, er, eu, eb) at e))
