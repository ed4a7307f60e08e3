-- what the faults of the crates below are for a command
pub mod Faults
-- what a fault does to the notes
pub mod Noted
-- what reading an input gives, and what the work of a command gives
pub mod Steps
-- the summary of a drill, part by part
pub mod Summary
