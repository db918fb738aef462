use Rattle.jc_marks.proofs.Keeps.{opens}
use Rattle.jc_marks.proofs.log.Log.new.Goals as goal

pub of_words-requires : goal.of_words-requires
of_words-requires c = opens
