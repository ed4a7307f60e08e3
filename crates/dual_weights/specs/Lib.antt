-- weights that are worth at least as much as others
pub mod Worth
