-- verdicts: their claims, and names that are no turbine's
pub mod Claims
-- what a reader finds by reading a line: a cause, or none
pub mod Causes
-- from the lines of a source to what a reader of a document does
pub mod Streams
-- lines behind lines
pub mod Behind
-- the lines of items, as they were found
pub mod ItemLines
-- the lines of a work, one after another
pub mod WeightLines
-- points by their names, and the cable lines that name them
pub mod Names
-- cable lines one after another
pub mod Layouts
