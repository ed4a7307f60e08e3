-- a place is its two coordinates
pub mod Places
-- for callers: how far apart two places are at most, and least roots
pub mod Distances
-- places, cables and sites of the examples
pub mod Sites
-- lengths, walks, loads and costs that compute
pub mod Costs
-- rows, ceilings, budgets, the first rows of a search, and draws that compute
pub mod Bounds
-- segments that touch, pass and clash, and points beside, on and in a polygon
pub mod Touching
-- what cables stand in a list
pub mod Lists
-- rules that are broken, the first broken rule, and rules of rings and of tighter sites
pub mod Rules
-- what is legal and what it costs: a farm without turbines, a turbine without a substation, and one cable
pub mod Plans
-- sites, documents, reports, answers and notes, byte by byte
pub mod Texts
-- how commands are spelled
pub mod Words
-- the first code of an item
pub mod Faults
-- the first refusal behind a site; for callers, that no cause comes before the first
pub mod Refusals
-- a whole document that is accepted
pub mod Accepted
-- grown parts, blocked turbines, settled and straight layouts
pub mod Parts
-- each reason for which a node is dead
pub mod Dead
-- a whole document whose root is split
pub mod Split
