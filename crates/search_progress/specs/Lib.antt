-- rows that are listed
pub mod Lists
-- what is done with a node
pub mod Chosen
-- nodes that need no split, and those that do
pub mod Settled
-- the open nodes, and the one that is taken first
pub mod Open
-- how far a search is
pub mod Progress
