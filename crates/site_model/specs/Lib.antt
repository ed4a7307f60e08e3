-- a table of the rules on the pairs of points
pub mod Ruled
-- names by the numbers of their points
pub mod Numbered
-- what holds of a site so far, whichever good items have led to it
pub mod Drafts
-- the stages of a builder, by the numbers of the definition
pub mod Stages
-- the items that the calls of a builder give
pub mod Building
-- what a cable passes
pub mod Passing
-- the cheapest types and arcs among those that were looked at
pub mod Best
-- arcs with the length and the charge that a site gives them
pub mod Measured
