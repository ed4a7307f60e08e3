-- how many lines are read at most
pub mod Short
-- how the reading of a document goes on and is refused
pub mod Onward
-- what each stage does
pub mod Stages
