-- lists of cables that differ in their order or in their types alone
pub mod Alike
-- lists of cables with the same arcs in one order, one more cable, and other types
pub mod Arcs
-- a legal layout keeps each rule, so none is broken
pub mod Legal
-- walks step by step
pub mod Walking
-- visits and loads point by point
pub mod Flow
-- walks under the rules of legal layouts
pub mod Ending
-- the arcs of a layout
pub mod Used
-- loads out of sets of points, and into all substations
pub mod Sets
-- the cheapest types that bear given loads
pub mod Typing
-- what the cheapest types make of a list of cables
pub mod Typed
-- costs at greater loads
pub mod Monotone
-- what every legal layout costs at least
pub mod Nearest
-- the straight layout
pub mod Straightest
-- the least costs out of the turbines
pub mod LeastOut
