pub mod Behind
mod Rows
