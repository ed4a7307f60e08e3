-- the arcs that clash with an arc
pub mod Clashing
-- sides of an arc's line
pub mod Sides
