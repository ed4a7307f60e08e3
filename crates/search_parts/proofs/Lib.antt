-- cables in ascending order of start
pub mod Ordered
-- the layout to begin with
pub mod Starting
-- arcs that are free
pub mod Choosing
-- shares that are handed to a maker of rows
pub mod Reducing
-- what the makers of rows are handed
pub mod Handing
-- full layouts are in ascending order of start
pub mod InOrder
-- the known layout stays in that order
pub mod Keeping
-- rounds, one after another
pub mod Rounding
-- a round leaves no lane with a node
pub mod Emptying
-- what a search ends with
pub mod Outcomes
-- how a search begins, and what is concluded from its end
pub mod Closing
