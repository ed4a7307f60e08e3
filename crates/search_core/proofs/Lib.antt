-- rows that are listed while a node is worked
pub mod Listing
-- weights and their values where further rows are listed
pub mod Lasting
-- node 1 is worked before any other
pub mod FirstWork
-- what works and steps leave
pub mod Stepping
-- the work on node 1 leaves it dead, or with a bound of at least the least costs out of the turbines and the cost of the cheapest in-tree
pub mod SteppingFloor
-- what is seen of a search by its parts
pub mod Seeing
-- how often a maker is called while weights are raised
pub mod RaisedCalls
-- what is chosen on a node by raised weights
pub mod RaisedChoice
-- node 1 stays as the work on it left it
pub mod Flooring
-- rows and works that are written
pub mod Writing
-- parts of a search, one after another, and what they write
pub mod Advancing
-- steps of a search as steps of its core
pub mod CoreSteps
-- rounds that lead to the end
pub mod Looping
-- a search from its beginning to its plan
pub mod Assembling
