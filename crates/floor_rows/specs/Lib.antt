-- rows of sets, as they are listed, and their weights
pub mod Listed
-- weights that reach the cost of the cheapest in-tree
pub mod Reached
