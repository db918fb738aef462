pub mod ActTexts
pub mod ChangeTexts
pub mod ReplyTexts
pub mod ReportWords
pub mod Short
