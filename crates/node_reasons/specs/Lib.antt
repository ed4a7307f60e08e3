-- the arcs that a node marks used, gathered
pub mod Used
-- a node as its reasons see it
pub mod Node
-- reasons why a node is dead
pub mod Reasons
-- the least and the greatest that a row counts an arc as
pub mod Extents
-- sums of extremes over some of the arcs
pub mod Own
-- what a row counts in the box of a node
pub mod RowBox
