-- the rows of sets of turbines
mod Sets
-- the rows of sets and their weights, as they are listed one after another, for callers
pub mod Adding
-- what the weights reach, for callers
pub mod Reaching
