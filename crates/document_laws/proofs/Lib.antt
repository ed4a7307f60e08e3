-- numbers of any size are words
pub mod Words
-- a line of a document is told by its words
pub mod Decoding
-- a site has one list of candidate arcs
pub mod ArcsOnce
-- what an accepted item leaves is determined, and no cause refuses it
pub mod Accepted
-- what a line names, and where a reader goes on, is determined
pub mod Going
-- of two runs one is the beginning of the other, and a first cause ends both
pub mod Runs
-- a refusal behind a site is one, and a run to the end of the bytes excludes it
pub mod Refused
-- bytes that are judged are one site with one list of cables, and exclude a refusal
pub mod Judged
-- how many arcs, cables, nodes and rows there are at most
pub mod Counting
-- the lines that are written are the spellings of lines, of short words and numbers within their ranges
pub mod Spelled
-- lines that a reader goes on after, one after another to the end of a document
pub mod CanRead
-- the lines of a document behind its site, and that they tell the document
pub mod LinesOf
-- the numbers of what is accepted lie within the ranges of their fields
pub mod Fitting
-- the lines behind the site of a document are read to their end
pub mod WholeRead
-- an accepted document is one site with one claim, and excludes a refusal
pub mod Yes
