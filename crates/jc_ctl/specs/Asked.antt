-- What the words ask for that is done on no single thread.
--     order_asked asked              the order of a run on threads, or of an audit
--     HasThreads asked               the run is on some threads
use Rattle.std.specs.Prelude.{◌≤◌}
use Rattle.jc_words.specs.declared.words.Order.{Order}
use Rattle.jc_words.specs.declared.words.Order.TheVariants as order
use Rattle.jc_ctl.specs.declared.run.Asked.{Asked}
use Rattle.jc_ctl.specs.declared.run.Asked.TheVariants as ask

-- The order of a run on threads, or of an audit.
abbrev pub order_asked : Asked → Order
order_asked (ask.Threads threads lock shape) = order.Run threads lock shape
order_asked (ask.Audit shape) = order.Audit shape

-- Such a run is on some threads.
abbrev pub HasThreads : Asked → Type 0
HasThreads (ask.Threads threads lock shape) = 1 ≤ threads
HasThreads (ask.Audit shape) = Unit {0}
