-- nodes whose arcs are all decided, and the rows that tell whether their used arcs are a layout
pub mod Decided
-- the nodes of a tree that aren't worked, and how many works they can still take
pub mod WorksLeft
-- weights on the rows of the cables out of turbines
pub mod OutWeights
