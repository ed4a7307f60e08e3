-- the sides of a line, point by point
pub mod Siding
-- arcs whose ends stand on one side
pub mod Passing
-- the arcs that clash with one, arc by arc
pub mod Listing
