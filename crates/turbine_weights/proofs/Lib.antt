-- the least cost of the arcs that are left, arc by arc
pub mod LeastLeft
-- the weights of turbines, row by row
pub mod Weighing
-- the weights of turbines in the first node
pub mod FirstNode
