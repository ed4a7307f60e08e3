-- members of well-formed rows, and tables of them
pub mod Wellformed
-- the rows of a pool, and one more
pub mod Pools
-- questions on the form of a row, met and not met
pub mod Forms
-- weighted sums, weight by weight, and how large they are
pub mod Weighing
-- weights that pass a test
pub mod Listing
-- what weights count by the ends of arcs
pub mod Tables
-- what weights count an arc as
pub mod Counting
-- weights on sets that may count an arc
pub mod NearSets
