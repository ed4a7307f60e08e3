-- a small tree and its items
pub mod Rows
-- texts that are read or can't be read, and their items
pub mod Texts
-- one level of a tree, seen in the value that holds it
pub mod Levels
-- items of another shape
pub mod Misshapen
-- items one after another, and the first fault among them
pub mod Leading
-- the keys of the top level, counted
pub mod TopLevel
-- the first code of an item
pub mod Codes
-- what an item makes of how far a site is
pub mod Steps
-- the refusal of an item, as a fault of the items
pub mod Refusing
-- the items of a list are those of its parts
pub mod Joining
-- an obstacle and its corners
pub mod Rings
-- all items of a tree
pub mod Wholes
-- the fault of bytes, as a refusal says it
pub mod Readings
-- a site and a fault of the same bytes exclude each other, and each is determined
pub mod Excluding
