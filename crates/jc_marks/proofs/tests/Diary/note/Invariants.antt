use Rattle.jc_marks.proofs.tests.Diary.note.Given as goal

-- The log sees the diary as it is.
abbrev pub ghosts-show : goal.ghosts-show
ghosts-show g a = record { list = a.history.now.events.items }
