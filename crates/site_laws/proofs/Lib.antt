-- bytes before the first newline, and what stands next in bytes
pub mod Pieces
-- what the words of a line say
pub mod Words
-- the next item of bytes
pub mod LineItems
-- what an item makes of a draft
pub mod Adding
-- drafts that good items build, and faults of items
pub mod Building
-- runs of good items over a text, and faults of lines
pub mod Runs
-- words of names and numbers
pub mod Numerals
-- lines that say the items of a site
pub mod Says
-- the items of a valid site are good
pub mod Goods
-- as many lines as items
pub mod LineCounts
-- elements in the middle of a list
pub mod Middles
-- the run over the lines of a valid site
pub mod SiteRun
-- sites in front of bytes
pub mod Fronts
