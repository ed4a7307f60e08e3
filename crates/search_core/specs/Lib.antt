-- how often a maker was called
pub mod Calls
-- weights that are raised in a node
pub mod Raised
-- what a work on a node leaves
pub mod Works
-- what a step did
pub mod Steps
-- what a search holds
pub mod State
-- a part of a search: events that lead on, and the lines of their items
pub mod Advances
