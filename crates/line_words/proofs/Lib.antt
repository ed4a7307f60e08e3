-- the words of a line are what stands between its spaces
pub mod Splits
-- numbers within and beyond their ranges
pub mod Ranges
-- words that are none of the shapes of a line
pub mod Shapes
-- the members of a row, one after another
pub mod Spelled
-- rows whose members are within their limits or beyond them
pub mod Rows
-- lines that may stand in a place, and their numbers
pub mod Standing
-- verdicts whose numbers are within or beyond their ranges
pub mod Claims
-- the words of a line tell the line; for callers
pub mod Decoding
