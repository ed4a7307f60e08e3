-- the rows that a pool keeps
pub mod Pool
-- rows as they are made
pub mod Made
-- one question on the form of a row
pub mod Form
-- what weights count by the ends of arcs
pub mod Sums
-- what the right side of a row sums of its points
pub mod Sides
