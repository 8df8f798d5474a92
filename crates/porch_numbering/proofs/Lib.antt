-- lists, and the place of a number in one
mod Lists
-- the types behind a text's own
mod Pointers
-- how many leaves each type has
mod Sizes
-- the last types are a program's
mod Types
-- the types that a text begins with
mod Beginning
