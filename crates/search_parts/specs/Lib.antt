-- the layout that a search begins with, and how a layout is settled and claimed
pub mod Start
-- shares that are handed to a maker of rows
pub mod Making
-- what the work on node 1 leaves of it
pub mod Floored
-- rounds that are under way
pub mod Rounds
-- what a search finds, and what it has written where it stops early
pub mod Outcome
-- a search that is at its end, and what is concluded from it
pub mod Ended
