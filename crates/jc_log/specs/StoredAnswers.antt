-- Answers that leave a log one of writes of the store, or a legal one.
--     StaysStored log answered     the log with what the answer appends is one of the store's writes
--     StaysLegal log answered      the log with what the answer appends is legal
use Rattle.std.specs.Prelude.{List}
use Rattle.jc_types.specs.declared.objects.Entry.{Entry}
use Rattle.jc_log.specs.Requests.{Answered, grown}
use Rattle.jc_log.specs.Writes.{Legal, Stored}

-- The log with what the answer appends is one of writes of the store.
abbrev pub StaysStored : List Entry → Answered → Type 0
StaysStored log answered = Stored (grown log answered.entry)

-- The log with what the answer appends is legal.
abbrev pub StaysLegal : List Entry → Answered → Type 0
StaysLegal log answered = Legal (grown log answered.entry)
