-- what a text with some tokens is answered with
pub mod Answers
