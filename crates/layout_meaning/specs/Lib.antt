-- the first place at which something isn't kept
pub mod First
-- numbers of the site, and starts that come again
pub mod Numbers
-- the first cable out of each point, at hand
pub mod Outgoing
-- the loads of the cables out of all points
pub mod Loads
-- the order in which the cables of an arranged layout stand
pub mod Order
-- what a verdict says of a list of cables
pub mod Verdict
-- cables with the cheapest types at known loads
pub mod Typed
-- arcs that are added to a grown part
pub mod Joining
-- grown parts that have their cheapest types
pub mod Partial
