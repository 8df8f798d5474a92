mod Laid
mod Read
mod Others
