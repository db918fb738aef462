use Rattle.jc_marks.proofs.tests.a_diary_is_no_shorter_than_at_a_mark.Given as goal

-- The diary's log has the name of the one that was made.
abbrev pub ghosts-play : goal.ghosts-play
ghosts-play g a = record { name = a.log.name }
