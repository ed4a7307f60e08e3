-- the candidate arcs of a site, listed pair by pair
pub mod Candidates
-- the numbers of arcs in an ordered list, and the tables beside it
pub mod Numbering
-- for callers: the arcs of a site have the length and the charge of their pairs
pub mod Measuring
-- for callers: what an arc costs at the power of its start
pub mod OwnCosts
