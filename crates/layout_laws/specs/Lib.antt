-- lists of cables that differ in their order or in their types alone
pub mod Alike
-- how often a walk comes to a point, walks that end, and cables that leave a set of points
pub mod Visits
-- lists of cables to which types can be given that make them grown
pub mod Typable
-- the cheapest type at a load
pub mod Cheapest
