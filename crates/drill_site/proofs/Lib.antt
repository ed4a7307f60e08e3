-- items that a builder refuses for no code
pub mod Welcome
-- places beside the square are outside of it
pub mod Square
-- names, and points that are apart
pub mod Apart
-- the points so far
pub mod Drawing
-- the corners so far
pub mod Cornering
