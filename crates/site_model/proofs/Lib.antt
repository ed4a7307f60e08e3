-- the table of the rules on the pairs of points
pub mod Ruled
-- names by the numbers of their points
pub mod Numbered
-- the first code of an obstacle and of a corner, one test after another
pub mod Corners
-- the first code of a pair rule, one test after another
pub mod Pairs
-- the first code of a cable type, and what a good one adds
pub mod Types
-- the number of a name among the points
pub mod Names
-- the first code of a point, one test after another
pub mod Points
-- for callers: the first code of an item, one code after another
pub mod Codes
-- numbers out of range, as the calls of a builder find them
pub mod Ranges
-- good items keep the facts of a site so far, and a site that has ended is valid
pub mod Drafts
-- what a cable passes, point by point and edge by edge
pub mod Passed
-- a candidate arc by its tests
pub mod Candidates
-- what cables cost, and how much that is at most
pub mod Costs
-- the cheapest type, type by type
pub mod Cheapest
-- the least cost out of each turbine, end by end, and the sum of these costs
pub mod Nearest
-- what the builder's calls have found of an item where they end
pub mod Building
-- the largest capacity
pub mod Capacities
-- the clash of two pairs of points
pub mod Clashing
-- for callers: arcs with the length and the charge of their pairs
pub mod Measuring
