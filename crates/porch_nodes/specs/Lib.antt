-- what an answer that gives no node says
pub mod Answers
