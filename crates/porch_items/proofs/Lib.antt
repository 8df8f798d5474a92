mod Results
mod Typedefs
mod Entries
mod Readings
