use Rattle.std.proofs.Common.{rules, lit<}
use Rattle.std.proofs.lemmas.Str.Pattern.{split_once_first}
use Rattle.jc_words.specs.Options.{cut_of}
use Rattle.jc_words.proofs.options.cut.Goals as goal

pub returns : goal.returns
unfolding cut_of
returns c = let h = split_once_first 61 c.args.word.now c.split_once.result c.split_once.ensures.cases (lit< tt) in search rules
