-- kept nodes by their numbers, and what acts leave of them
pub mod Kept
-- the marks that a walk to the root leaves
pub mod Marking
-- the least bound over the leaves that aren't dead
pub mod Leaves
