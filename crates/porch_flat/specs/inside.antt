pub mod FirstPlaces
pub mod Checked
pub mod Walks
pub mod CallGraph
