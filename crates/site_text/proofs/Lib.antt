-- how many words what is left of a line has
pub mod Fields
-- the line of a point of each kind, with its words one by one
pub mod PointLines
-- the text of a site from its parts, and of an obstacle from its corners
pub mod SiteLines
-- numbers of a site: their spelling is one word, and tells the number
pub mod Numbers
-- what the words of a line say, by its first word
pub mod Saying
-- numbers as 128 bits hold them
pub mod Held
-- items with their numbers changed: as the builder is told them, and as the code holds them
pub mod Changed
-- the text of a line, by what is answered of the item that is held of it
pub mod Added
-- the line that stands next: a whole one, or the fault of one that is missing, too long or without its end
pub mod NextLine
-- a site of at most 256 points has at most 32,640 pair rules, since no unordered pair is ruled twice
pub mod PairCount
-- the item of a line is what its words say
pub mod Lines
-- the text of a site so far, and that the line of each good item goes on with it
pub mod DraftText
-- the lines of good items, one after another, are the text of the site so far
pub mod DraftSteps
-- a run of good items from the beginning to the end reads the lines of the site that it leads to
pub mod SiteReading
-- how many lines the site so far has, and that a site has few
pub mod Counting
-- the lines that were read so far: good items that lead from the beginning to the site so far
pub mod Running
