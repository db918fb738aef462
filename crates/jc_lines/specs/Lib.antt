pub mod Events
pub mod Jobs
pub mod LongLines
pub mod Reports
pub mod Summaries
pub mod Told
-- Words of the crates below, handed on to those above.
pub use Rattle.jc_texts.specs.ActTexts
pub use Rattle.jc_texts.specs.ChangeTexts
pub use Rattle.jc_texts.specs.ReplyTexts
pub use Rattle.jc_texts.specs.ReportWords
pub use Rattle.jc_texts.specs.Short
pub use Rattle.jc_verdicts.specs.Verdicts
