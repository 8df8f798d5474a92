mod Results
mod Lists
mod Firsts
mod Through
mod Built
