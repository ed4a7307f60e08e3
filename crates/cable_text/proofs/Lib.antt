-- writes one after another
pub mod Writing
-- the digits of a number, and the number that digits write
pub mod Numerals
-- which words spell a number, and which number
pub mod Reading
-- what sources and sinks in memory do to their bytes
pub mod Held
-- the bytes that are pending
pub mod Pending
-- words between single spaces: what a line's text is cut into, and that a text has one list of words
pub mod Splitting
-- for callers: writers that stop at the first failure, and lines from their fields
pub mod Writers
-- the number of digits of a number
pub mod Digits
-- so many spaces, cut at a place
pub mod Spacing
