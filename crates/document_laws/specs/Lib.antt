-- runs of a reader of which one goes further than the other
pub mod Runs
-- accepted bytes are read in one way
pub mod Once
