-- words that spell whole numbers, and what reading makes of them
pub mod Number
-- sources and sinks in memory
pub mod Memory
-- lines of the bytes of a source
pub mod Lines
-- what stands between the spaces of a text
pub mod Words
-- the fields of a line that is written
pub mod Fields
