-- sums of shares by the points that arcs join
pub mod Sums
-- sets of points that are tried
pub mod Tried
-- the set that misses most so far
pub mod Most
-- arcs that can't be together
pub mod Rivals
-- rows that are found
pub mod Found
