-- used arcs, gathered one after another
pub mod Gathering
-- used arcs that are incompatible
pub mod UsedPairs
-- walks that return
pub mod Returning
-- the least and the greatest that a row counts, arc by arc and in all
pub mod RowExtents
-- reasons of loads, walks and powers over all used arcs
pub mod DeadReasons
-- the used arcs with their cheapest types, and full layouts
pub mod FullLayouts
-- sums of extremes over some of the arcs
pub mod OwnSums
-- the sums of what a row counts in the box of a node
pub mod RowSums
