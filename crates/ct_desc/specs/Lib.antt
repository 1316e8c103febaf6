pub mod Answers
pub mod Judged
