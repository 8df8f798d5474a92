pub mod CodeGrows
