-- pieces that are shown, one after another
pub mod Shown
-- what is shown from some place of a format on
pub mod Showing
-- calls by how many arguments their formats take
pub mod Printed
