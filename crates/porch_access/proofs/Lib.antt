mod Elsewhere
mod Assigned
mod Updates
