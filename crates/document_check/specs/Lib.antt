-- documents behind their site
pub mod Behind
-- how far a check has come, and what refuses a document there
pub mod Progress
-- what feeding does
pub mod Feeding
