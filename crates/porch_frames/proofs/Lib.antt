pub mod ArgumentsPass
