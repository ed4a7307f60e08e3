-- cables with one ended elsewhere, and with their cheapest types
pub mod Choosing
-- neighbours made by one arc
pub mod Moving
-- ends that close a circle
pub mod GoingRound
-- straight cables and the straight layout
pub mod Straightening
-- turbines that are refused everywhere
pub mod Refusing
-- what a layout costs at least where one cable ends elsewhere
pub mod Cutting
-- what cables bear and cost besides on the walk from the new end of one of them
pub mod Gaining
-- the straight layout beside an incumbent
pub mod Comparing
