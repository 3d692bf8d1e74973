pub mod Listing
pub mod AnswerLines
