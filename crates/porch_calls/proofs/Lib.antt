mod Counted
mod Others
mod Behind
mod Longer
mod Texts
