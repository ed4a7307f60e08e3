-- the words of a line
pub mod Words
-- the words that a line may begin with
pub mod Keyword
-- the items of lines as the reader holds them
pub mod Item
-- what a line gives the builder of a site
pub mod Adding
-- how a site is read from lines
pub mod Reading
-- claims that can be written
pub mod Verdict
