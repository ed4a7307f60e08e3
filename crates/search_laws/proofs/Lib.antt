-- how many lanes hold a node, and which
pub mod Lanes
-- elements of filtered and numbered lists
pub mod Picked
-- the rows that a search begins with
pub mod FirstRows
-- where a search begins
pub mod Starting
-- items one after another, and what rows leave
pub mod Leading
-- the nodes that a work leaves
pub mod Acting
-- stopped and full nodes after a work
pub mod Beating
-- bounds of unworked nodes after a work
pub mod Capping
-- sites with a turbine that no arc leads out of
pub mod Isolated
-- a lane takes a node
pub mod Taking
-- a lane works its node
pub mod Working
-- steps and runs
pub mod Stepping
-- node 1 is worked first, and no bound below it is lower
pub mod FirstNode
-- no length exceeds 2,828,428
pub mod Lengths
-- the ceiling is small
pub mod Ceilings
-- the known layout gets no dearer
pub mod Falling
-- whether some node is wanted
pub mod Wanting
-- where a search ends
pub mod Ending
